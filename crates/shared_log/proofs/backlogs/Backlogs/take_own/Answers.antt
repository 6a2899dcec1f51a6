use Rattle.std.proofs.Common.{◌≡◌, ◌∙◌, arith, length, map, Some, true, ap}
use Rattle.std.specs.Prelude.{slice_get}
use Rattle.std.specs.Vec.{with_items}
use Rattle.std.proofs.lemmas.Grind.{common_steps}
use Rattle.std.proofs.lemmas.List.{with_items_is}
use Rattle.std.proofs.lemmas.List.Elements.{All-same}
use Rattle.shared_log.specs.Cursors.{cursor_taken, IsInLog, is_settled}
use Rattle.shared_log.specs.Tables.{Table}
use Rattle.shared_log.proofs.Places.{All-at, either-way, length-at, then-ok, with-at}
use Rattle.shared_log.proofs.Tables.{own-waits, rows-taken, settled-taken}
use Rattle.shared_log.proofs.backlogs.Backlogs.take_own.Goals as goal

pub invariant_of-self : goal.invariant_of-self
invariant_of-self c =
    let log = c.self.inside.log.items in
    let cs = c.self.inside.cursors.items in
    let ws = c.take_at.new.cursors in
    let v = c.self.inside.cursors in
    either-way c.take_at.result c.take_at.ensures.rest c.take_at.ensures.err
    (λ is.
    let e = with-at v (cursor_taken c.args.count) c.args.place c.deref_mut.result.now ws is c.deref_mut.ensures.value c.deref_mut.ensures.len in
    record {
      within = All-same (IsInLog (length log)) _ _ e (All-at (IsInLog (length log)) (cursor_taken c.args.count) c.args.place cs (λ x h. h) c.self.invariant.within);
      room = omega (arith, ap length e, length-at (cursor_taken c.args.count) c.args.place cs, c.self.invariant.room);
    })
    (λ is.
    let e : (with_items v ws).items ≡ cs = with_items_is v ws (omega (arith, ap length is, c.deref_mut.ensures.len)) ∙ is ∙ c.deref_mut.ensures.value in
    record {
      within = All-same (IsInLog (length log)) _ _ e c.self.invariant.within;
      room = omega (arith, ap length e, c.self.invariant.room);
    })

pub returns-clause-lines : goal.returns-clause-lines
returns-clause-lines c =
    let settled : slice_get (map (is_settled (length c.self.inside.log.items)) c.self.inside.cursors.items) c.args.place ≡ Some true =
    ap (λ (t : Table). slice_get t.settled c.args.place) c.self.view_is ∙ c.requires.settled in
    let own = own-waits c.self.inside.log.items c.self.inside.cursors.items c.args.place settled in
    grind (arith, common_steps, own)

pub returns-clause-ended : goal.returns-clause-ended
returns-clause-ended c =
    let settled : slice_get (map (is_settled (length c.self.inside.log.items)) c.self.inside.cursors.items) c.args.place ≡ Some true =
    ap (λ (t : Table). slice_get t.settled c.args.place) c.self.view_is ∙ c.requires.settled in
    let own = own-waits c.self.inside.log.items c.self.inside.cursors.items c.args.place settled in
    grind (arith, common_steps, own)

pub returns-clause-rest : goal.returns-clause-rest
returns-clause-rest c =
    let log = c.self.inside.log.items in
    let cs = c.self.inside.cursors.items in
    let settled : slice_get (map (is_settled (length log)) cs) c.args.place ≡ Some true =
    ap (λ (t : Table). slice_get t.settled c.args.place) c.self.view_is ∙ c.requires.settled in
    let rows = rows-taken log cs c.args.place settled c.args.count in
    let flags = settled-taken log cs c.args.place settled c.args.count in
    then-ok c.take_at.result c.take_at.ensures.rest
    (λ is.
    let e = with-at c.self.inside.cursors (cursor_taken c.args.count) c.args.place c.deref_mut.result.now c.take_at.new.cursors is c.deref_mut.ensures.value c.deref_mut.ensures.len in
    grind (arith, common_steps, rows, flags, e))

pub returns-clause-bytes : goal.returns-clause-bytes
returns-clause-bytes c =
    let settled : slice_get (map (is_settled (length c.self.inside.log.items)) c.self.inside.cursors.items) c.args.place ≡ Some true =
    ap (λ (t : Table). slice_get t.settled c.args.place) c.self.view_is ∙ c.requires.settled in
    let own = own-waits c.self.inside.log.items c.self.inside.cursors.items c.args.place settled in
    grind (arith, common_steps, own)
