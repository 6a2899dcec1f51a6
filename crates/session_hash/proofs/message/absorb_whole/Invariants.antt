use Rattle.std.proofs.Common.{◌≡◌}
use Rattle.session_hash.specs.Padding.{with_padding}
use Rattle.session_hash.specs.Tiger.{registers_after}
use Rattle.session_hash.proofs.message.absorb_whole.Given as goal

abbrev pub invariant-loop-place : goal.invariant-loop-place
invariant-loop-place l = l.registers ≡ registers_after l.tables (with_padding l.message) l.place
