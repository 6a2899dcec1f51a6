use Rattle.std.proofs.Common.{◌≡◌, ◌++◌, length, map, take}
use Rattle.std.specs.List.{concat}
use Rattle.outboxes.specs.Places.{line_of}
use Rattle.outboxes.proofs.outbox.write_lines.Given as goal

abbrev pub invariant-loop-place : goal.invariant-loop-place
invariant-loop-place l =
    record {
      start : l.start ≡ length l.fn.out.items;
      written : l.out.items ≡ l.fn.out.items ++ concat (map line_of (take l.place-index l.places));
    }
