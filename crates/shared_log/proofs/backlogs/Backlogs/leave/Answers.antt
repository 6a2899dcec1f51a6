use Rattle.std.proofs.Common.{◌≡◌, arith, length, map, Some, None, true, ap}
use Rattle.std.specs.Prelude.{slice_get}
use Rattle.std.proofs.lemmas.Grind.{common_steps}
use Rattle.std.proofs.lemmas.List.Elements.{All-same}
use Rattle.shared_log.specs.Cursors.{with_tail, IsInLog, is_settled}
use Rattle.shared_log.proofs.Places.{All-at, length-at, with-at}
use Rattle.shared_log.proofs.Tables.{rows-left, settled-left}
use Rattle.shared_log.proofs.backlogs.Backlogs.leave.Goals as goal

pub invariant_of-self : goal.invariant_of-self
invariant_of-self c =
    let log = c.self.inside.log.items in
    let cs = c.self.inside.cursors.items in
    let is = with-at c.self.inside.cursors (with_tail None) c.args.place c.deref_mut.result.now c.set_tail.new.cursors c.set_tail.ensures c.deref_mut.ensures.value c.deref_mut.ensures.len in
    record {
      within = All-same (IsInLog (length log)) _ _ is (All-at (IsInLog (length log)) (with_tail None) c.args.place cs (λ x h. tt) c.self.invariant.within);
      room = omega (arith, ap length is, length-at (with_tail None) c.args.place cs, c.self.invariant.room);
    }

pub returns : goal.returns
returns c =
    let log = c.self.inside.log.items in
    let cs = c.self.inside.cursors.items in
    let settled : slice_get (map (is_settled (length log)) cs) c.args.place ≡ Some true = cc in
    let rows = rows-left log cs c.args.place settled in
    let flags = settled-left log cs c.args.place settled in
    let is = with-at c.self.inside.cursors (with_tail None) c.args.place c.deref_mut.result.now c.set_tail.new.cursors c.set_tail.ensures c.deref_mut.ensures.value c.deref_mut.ensures.len in
    grind (arith, common_steps, rows, flags, is)
