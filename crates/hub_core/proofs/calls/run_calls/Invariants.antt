use Rattle.std.specs.Prelude.{ℕ, List}
use Rattle.std.proofs.Common.{◌+◌, ◌≤◌, length}
use Rattle.std.specs.Arc.{arc_value}
use Rattle.std.specs.Vec.{vec_capacity}
use Rattle.std.specs.Vec.Iter.{into_iter_items}
use Rattle.hub_core.proofs.CallRuns.{AreUnderWay}
use Rattle.hub_core.proofs.calls.run_calls.Given as goal

abbrev pub invariant-loop-asked : goal.invariant-loop-asked
invariant-loop-asked l =
    ((hash : List ℕ → List ℕ) → AreUnderWay (arc_value l.fn.setup) hash l.fn.calls.items l.answers.items l.core (into_iter_items l.asked-iterator))
    × (length l.answers.items + length (into_iter_items l.asked-iterator) ≤ vec_capacity l.answers)
