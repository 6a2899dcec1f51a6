use Rattle.std.proofs.Common.{Option, subst, take, []}
use Rattle.history_check.specs.declared.check.Demand.{Demand}
use Rattle.history_check.specs.Following.{Looks}
use Rattle.history_check.specs.Written.{history_of}
use Rattle.history_check.proofs.Judged.{follows-more, follows-none}
use Rattle.history_check.proofs.check.play.Goals as goal

pub loop-place-init : goal.loop-place-init
loop-place-init g c =
    follows-none c.args.setup.now (g.H.SessionHash.digest_of c.args.hash.now) c.args.core.now c.new-joined.result.items c.args.entries.now c.requires.new c.new-joined.ensures.items

pub loop-place-preserved : goal.loop-place-preserved
loop-place-preserved g c =
    let hash = g.H.SessionHash.digest_of c.args.hash.now in
    follows-more c.args.setup.now hash c.args.entries.now c.loop-place.place c.index-entries-place.result c.look.new.core c.look.new.joined.items
    c.loop-place-test.true c.index-entries-place.is
    (subst (λ (d : Option Demand). Looks c.args.setup.now hash c.index-entries-place.result d c.loop-place.core c.loop-place.joined.items c.look.new.core c.look.new.joined.items) c.in_default.is c.in_ok-demand.ensures
    (history_of (take c.loop-place.place c.args.entries.now) []) c.loop-place.invariant)
