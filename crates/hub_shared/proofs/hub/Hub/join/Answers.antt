use Rattle.std.proofs.Common.{subst}
use Rattle.hub_core.specs.Moves.{entry}
use Rattle.hub_rules.specs.declared.history.Call.TheVariants.{Join}
use Rattle.hub_shared.proofs.JoinCounts.{join_answer, now-pass}
use Rattle.hub_shared.proofs.Turns.{Gives, takes}
use Rattle.hub_shared.proofs.hub.Hub.join.Goals as goal

pub invariant_of-result-in-Ok : goal.invariant_of-result-in-Ok
invariant_of-result-in-Ok g c =
    let lock = c.self.inside.lock in
    let seat = c.into_idle-seat.result in
    let taken = c.acquire-core.new.seat in
    let given = c.enter.new.seat in
    let t = takes seat taken c.acquire-core.ensures.seat c.acquire-core.ensures.begins c.acquire-core.ensures.entries in
    let joined = subst (λ answer. Gives (entry taken.number (Join c.args.peer c.args.challenge c.args.now) (join_answer answer)) taken given) c.in-Ok.is
    (record { seat = c.enter.ensures.seat; own = c.enter.ensures.own })
    in
    now-pass lock.about.setup.value (g.H.SessionHash.digest_of lock.about.hash.value) seat taken given c.in-Ok.connection c.args.peer c.args.challenge c.args.now t joined c.enter.ensures.legal
    c.into_idle-seat.ensures.visitor
