use Rattle.std.proofs.Common.{◌≡◌, ◌≤◌, length}
use Rattle.std.specs.Vec.Iter.{into_iter_items}
use Rattle.indexmap.specs.IndexMap.{spare}
use Rattle.inf_fields.specs.Changes.{all_changed}
use Rattle.inf_fields.specs.Stored.{fields_of}
use Rattle.inf_fields.proofs.entries.change_all.Given as goal

abbrev pub invariant-loop-name : goal.invariant-loop-name
invariant-loop-name l =
    (all_changed (fields_of (into_iter_items l.name-iterator)) (fields_of l.entries.entries) ≡ all_changed (fields_of l.fn.pairs.items) (fields_of l.fn.entries.entries))
    × (length (into_iter_items l.name-iterator) ≤ spare l.entries)
