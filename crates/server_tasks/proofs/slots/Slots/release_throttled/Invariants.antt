use Rattle.std.proofs.Common.{◌≡◌, length}
use Rattle.server_tasks.specs.Named.{SameIndex}
use Rattle.server_tasks.proofs.LetGo.{Released}
use Rattle.server_tasks.proofs.slots.Slots.release_throttled.Given as goal

abbrev pub invariant-loop-place : goal.invariant-loop-place
invariant-loop-place l =
    Released l.fn.self.held.items l.fn.self.bells l.self.held.items l.self.bells × SameIndex l.fn.self l.self
    × (l.self.sight ≡ l.fn.self.sight) × (l.self.ticks ≡ l.fn.self.ticks) × (l.self.second ≡ l.fn.self.second)

abbrev pub decreases-loop-place : goal.decreases-loop-place
decreases-loop-place l = length l.self.held.items
