use Rattle.history_check.proofs.Calls.{line-said}
use Rattle.history_check.proofs.check.say.Goals as goal

pub returns-in-Ok-line : goal.returns-in-Ok-line
returns-in-Ok-line g c =
    line-said c.args.setup.now (g.H.SessionHash.digest_of c.args.hash.now) c.args.core.now c.line.new.self c.args.found.connection c.in-Ok.line c.args.found.challenge c.args.bytes.now
    c.args.now c.in-Ok-line.verdict c.in-Ok-line.ensures.moves c.in-Ok.ensures
