use Rattle.std.proofs.Common.{◌≡◌, ◌++◌, length, map, take}
use Rattle.std.specs.List.{concat}
use Rattle.outboxes.proofs.batch.write_handles.Given as goal

abbrev pub invariant-loop-line : goal.invariant-loop-line
invariant-loop-line l =
    record {
      start : l.start ≡ length l.fn.out.items;
      written : l.out.items ≡ l.fn.out.items ++ concat (map (λ line. line.value) (take l.line-index l.lines));
    }
