use Rattle.std.proofs.Common.{◌≡◌, arith, length, map, Some, true, ap}
use Rattle.std.specs.Prelude.{slice_get}
use Rattle.std.proofs.lemmas.Grind.{common_steps}
use Rattle.std.proofs.lemmas.List.Elements.{All-same}
use Rattle.shared_log.specs.Cursors.{cursor_given, IsInLog, is_settled}
use Rattle.shared_log.proofs.Places.{All-at, length-at, with-at}
use Rattle.shared_log.proofs.Tables.{own-kept, rows-given, settled-given}
use Rattle.shared_log.proofs.backlogs.Backlogs.give.Goals as goal

pub invariant_of-self : goal.invariant_of-self
invariant_of-self c =
    let log = c.self.inside.log.items in
    let cs = c.self.inside.cursors.items in
    let is = with-at c.self.inside.cursors (cursor_given c.args.batch) c.args.place c.deref_mut.result.now c.give_at.new.cursors c.give_at.ensures c.deref_mut.ensures.value c.deref_mut.ensures.len in
    record {
      within = All-same (IsInLog (length log)) _ _ is (All-at (IsInLog (length log)) (cursor_given c.args.batch) c.args.place cs (λ x h. h) c.self.invariant.within);
      room = omega (arith, ap length is, length-at (cursor_given c.args.batch) c.args.place cs, c.self.invariant.room);
    }

pub returns : goal.returns
returns c =
    let log = c.self.inside.log.items in
    let cs = c.self.inside.cursors.items in
    let settled : slice_get (map (is_settled (length log)) cs) c.args.place ≡ Some true = cc in
    let rows = rows-given log cs c.args.place settled c.args.batch in
    let flags = settled-given log cs c.args.place settled c.args.batch in
    let is = with-at c.self.inside.cursors (cursor_given c.args.batch) c.args.place c.deref_mut.result.now c.give_at.new.cursors c.give_at.ensures c.deref_mut.ensures.value c.deref_mut.ensures.len in
    grind (arith, common_steps, rows, flags, is)

pub give_at-requires-clause-kept : goal.give_at-requires-clause-kept
give_at-requires-clause-kept c =
    let log = c.self.inside.log.items in
    let cs = c.self.inside.cursors.items in
    let settled : slice_get (map (is_settled (length log)) cs) c.args.place ≡ Some true = cc in
    let kept = own-kept log cs c.args.place settled in
    grind (arith, common_steps, kept)
