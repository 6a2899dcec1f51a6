use Rattle.std.proofs.Common.{sym}
use Rattle.std.proofs.lemmas.Bool.{eqb-true}
use Rattle.hub_core.proofs.Places.{stands_first}
use Rattle.hub_core.proofs.Hearers.{quiet-alone, quiet-away, quiet-but}
use Rattle.hub_core.proofs.share.reach.Goals as goal

pub returns-then-eq : goal.returns-then-eq
returns-then-eq c =
    quiet-alone c.args.index.now c.args.seats.now c.requires.indexed c.requires.rising c.args.number c.args.place c.in_ok-sid.sid c.index-seats-place.result c.args.effect.now
    (stands_first c.args.number c.args.seats.now c.args.place c.requires.place) c.in_ok-sid.ensures (eqb-true _ _ (sym c.if-eq.ensures))

pub returns-in-Some : goal.returns-in-Some
returns-in-Some c =
    quiet-but c.args.index.now c.args.seats.now c.requires.indexed c.requires.rising c.args.number c.args.place c.in_ok-sid.sid c.index-seats-place.result c.args.effect.now
    (stands_first c.args.number c.args.seats.now c.args.place c.requires.place) c.in_ok-sid.ensures c.in-Some.other c.in-Some.ensures.within
    (λ i d within first second. c.in-Some.ensures.some i d within second)

pub returns-in-None : goal.returns-in-None
returns-in-None c =
    quiet-away c.args.index.now c.args.seats.now c.requires.indexed c.requires.rising c.args.number c.args.place c.in_ok-sid.sid c.index-seats-place.result c.args.effect.now
    (stands_first c.args.number c.args.seats.now c.args.place c.requires.place) c.in_ok-sid.ensures c.in-None.ensures.none
