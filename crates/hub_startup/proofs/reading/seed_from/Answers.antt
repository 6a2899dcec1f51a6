use Rattle.std.proofs.Common.{rules}
use Rattle.hub_startup.proofs.Read.{seed-of}
use Rattle.hub_startup.proofs.reading.seed_from.Goals as goal

pub returns-clause-seed : goal.returns-clause-seed
returns-clause-seed g c = seed-of _ _ c.read_exact.new.buf (search rules) c.in_ok-read_exact.ensures.bytes
