use Rattle.std.proofs.Common.{◌≡◌, ◌∙◌, arith, length, ap}
use Rattle.std.specs.Vec.{with_items}
use Rattle.std.proofs.lemmas.Grind.{common_steps}
use Rattle.std.proofs.lemmas.List.{with_items_is}
use Rattle.std.proofs.lemmas.List.Elements.{All-same}
use Rattle.shared_log.specs.Cursors.{IsInLog}
use Rattle.shared_log.proofs.backlogs.Backlogs.rest.Goals as goal

pub invariant_of-self : goal.invariant_of-self
invariant_of-self c =
    let log = c.self.inside.log.items in
    let v = c.self.inside.cursors in
    let ws = c.rest_at.new.cursors in
    let is : (with_items v ws).items ≡ ws = with_items_is v ws (c.rest_at.ensures.many ∙ c.deref_mut.ensures.len) in
    let before = All-same (IsInLog (length log)) c.deref_mut.result.now v.items c.deref_mut.ensures.value c.self.invariant.within in
    record {
      within = All-same (IsInLog (length log)) _ _ is (c.rest_at.ensures.within log before);
      room = omega (arith, ap length is, c.rest_at.ensures.many, ap length c.deref_mut.ensures.value, c.self.invariant.room);
    }

pub returns : goal.returns
returns c =
    let v = c.self.inside.cursors in
    let ws = c.rest_at.new.cursors in
    let is : (with_items v ws).items ≡ ws = with_items_is v ws (c.rest_at.ensures.many ∙ c.deref_mut.ensures.len) in
    let kept = c.rest_at.ensures.kept c.self.inside.log.items in
    grind (arith, common_steps, is, kept)
