use Rattle.std.specs.Arc.{arc_value}
use Rattle.hub_stdio.specs.Faults.{StopsBy}
use Rattle.hub_stdio.proofs.Heard.{never_began}
use Rattle.hub_stdio.proofs.Refusals.{refused_by}
use Rattle.hub_stdio.proofs.run.run_one.Goals as goal

pub returns-in_err-session-clause-fault : goal.returns-in_err-session-clause-fault
returns-in_err-session-clause-fault g c =
    refused_by c.from_residual.result c.in_err-session.field-0.0 (λ fault. StopsBy fault (arc_value c.args.setup) (g.H.SessionHash.digest_of c.args.hash.now) _ _) c.from_residual.ensures.1
    (rw c.in_err-session.ensures.fault (never_began (arc_value c.args.setup) (g.H.SessionHash.digest_of c.args.hash.now) _ _
    (g.R.CountedRead.failures c.args.reader.now) (g.W.CountedWrite.failures c.args.writer.now)))
