use Rattle.std.proofs.Common.{◌≡◌, ◌++◌, length, map, take}
use Rattle.outboxes.proofs.batch.push_copies.Given as goal

abbrev pub invariant-loop-line : goal.invariant-loop-line
invariant-loop-line l =
    record {
      start : l.start ≡ length l.fn.lines.items;
      before : take (length l.fn.lines.items) l.lines.items ≡ l.fn.lines.items;
      copied : map (λ line. line.value) l.lines.items ≡ map (λ line. line.value) l.fn.lines.items ++ map (λ line. line.value) (take l.line-index l.more);
    }
