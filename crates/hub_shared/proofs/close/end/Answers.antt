use Rattle.std.proofs.Common.{ap, subst, ◌++◌}
use Rattle.hub_core.specs.Promises.{CountsJoins, SumsUp}
use Rattle.one_history.specs.States.{callers_of}
use Rattle.hub_shared.specs.Callers.{seat_of}
use Rattle.hub_shared.proofs.Closed.{SettlesAt, closes, nobody-left}
use Rattle.hub_shared.proofs.close.end.Goals as goal

pub returns-clause-settled : goal.returns-clause-settled
returns-clause-settled g c =
    let about = c.args.lock.about in
    let hash = g.H.SessionHash.digest_of about.hash.value in
    let host = c.gather_all.new.host in
    closes about.setup.value hash c.in-Ok.core.value c.args.visitors.items host.gathered (ap (λ s. s.gathered) c.gather_all.ensures.host) c.gather_all.ensures.quit
    (subst (λ vs. SettlesAt about.setup.value hash c.in-Ok.core.value (callers_of seat_of vs ++ host.gathered)) c.gather_all.ensures.none c.in-Ok.ensures.settled)
    c.joins.result (subst (CountsJoins c.joins.result) c.deref.ensures c.joins.ensures)

pub returns-clause-nobody : goal.returns-clause-nobody
returns-clause-nobody g c =
    let about = c.args.lock.about in
    let hash = g.H.SessionHash.digest_of about.hash.value in
    let host = c.gather_all.new.host in
    nobody-left about.setup.value hash c.in-Ok.core.value host.gathered c.gather_all.ensures.quit
    (subst (λ vs. SettlesAt about.setup.value hash c.in-Ok.core.value (callers_of seat_of vs ++ host.gathered)) c.gather_all.ensures.none c.in-Ok.ensures.settled)
    c.totals.result (subst (SumsUp c.totals.result) c.deref-2.ensures c.totals.ensures)
