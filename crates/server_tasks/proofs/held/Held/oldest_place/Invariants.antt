use Rattle.std.proofs.Common.{◌<◌, ℕ, IsTrue}
use Rattle.server_tasks.specs.Lingers.{until_at, is_no_later}
use Rattle.server_tasks.proofs.held.Held.oldest_place.Given as goal

abbrev pub invariant-loop-place : goal.invariant-loop-place
invariant-loop-place g l =
    ((other : ℕ) → other < l.place → IsTrue (is_no_later (until_at l.self.places.items l.oldest) (until_at l.self.places.items other)))
    × (0 < l.place-end → l.oldest < l.place-end)
