use Rattle.std.proofs.Common.{Some, arith}
use Rattle.std.proofs.lemmas.Bool.Decides.{nat_tests}
use Rattle.hub_client.proofs.OneField.{same_sender}
use Rattle.hub_client.proofs.departures.sent_away_by.Goals as goal

pub returns-then-ne-clause-none : goal.returns-then-ne-clause-none
returns-then-ne-clause-none c = λ sid away.
    let same = same_sender c.args.line.now (Some c.args.operator) c.sender_away.result away.1 c.sender_away.ensures in
    let other = rw (← same) at c.if-ne.ensures in
    absurd (grind (arith, nat_tests, other))
