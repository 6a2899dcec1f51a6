use Rattle.std.proofs.Common.{◌-◌, subst, sym, arith, length, drop, take, Some}
use Rattle.outboxes.specs.Backlogs.{Backlog}
use Rattle.shared_log.specs.Cursors.{IsTailWithin}
use Rattle.shared_log.specs.Entries.{after_all}
use Rattle.shared_log.specs.Tallies.{IsTally}
use Rattle.shared_log.proofs.Logs.{after-heard, after-heard-none, never-none}
use Rattle.shared_log.proofs.cursor.Cursor.tally.Goals as goal

pub loop-place-preserved : goal.loop-place-preserved
loop-place-preserved c =
    let log = c.args.log.now.items in
    let own = c.args.self.now.own.backlog in
    let tail = c.in-Some.tail in
    let place = c.loop-place.place in
    let more = after-heard own log tail place c.in-Some-get.entry.now (omega arith) (omega arith) c.in-Some-get.ensures in
    record {
      end = c.loop-place.invariant.end;
      from = omega arith;
      within = omega arith;
      counted =
          subst (λ (b : Backlog). IsTally b c.add.new.self) (sym more)
          (c.add.ensures (after_all own (take (place - tail) (drop tail log))) c.loop-place.invariant.counted);
    }

pub loop-place-init : goal.loop-place-init
loop-place-init c =
    let log = c.args.log.now.items in
    let within : IsTailWithin (length log) (Some c.in-Some.tail) = rw c.in-Some.is at c.requires in
    record {
      end = c.len-place-end.ensures.len;
      from = omega arith;
      within = within;
      counted = subst (λ (b : Backlog). IsTally b c.tally-tally.result) (sym (after-heard-none c.args.self.now.own.backlog log c.in-Some.tail)) c.tally-tally.ensures;
    }

pub unreachable-requires : goal.unreachable-requires
unreachable-requires c = never-none c.args.log.now.items c.loop-place.place (omega arith) c.in-None.ensures
