use Rattle.std.proofs.Common.{◌≡◌, ◌+◌, ◌≤◌, ◌++◌, length, map}
use Rattle.std.specs.Vec.Iter.{into_iter_items}
use Rattle.outboxes.specs.declared.outbox.Place.TheVariants.{Line}
use Rattle.outboxes.proofs.outbox.add_lines.Given as goal

abbrev pub invariant-loop-line : goal.invariant-loop-line
invariant-loop-line l =
    record {
      lines : l.places.items ++ map Line (into_iter_items l.line-iterator) ≡ l.fn.places.items ++ map Line l.fn.lines.items;
      capacity : l.places.capacity ≡ l.fn.places.capacity;
      room : length l.places.items + length (into_iter_items l.line-iterator) ≤ l.places.capacity;
    }
