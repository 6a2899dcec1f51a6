use Rattle.std.proofs.Common.{◌≡◌, ◌-◌, ℕ}
use Rattle.server_tasks.specs.Rung.{SameSlots, StaysOrIsWoken}
use Rattle.server_tasks.proofs.bells.Bells.cry.Given as goal

abbrev pub invariant-loop-portion : goal.invariant-loop-portion
invariant-loop-portion l =
    ((slot : ℕ) → StaysOrIsWoken l.fn.self l.self slot)
    × (l.self.due ≡ l.fn.self.due - l._portion)
    × (l.self.rings ≡ l.fn.self.rings)
    × SameSlots l.fn.self l.self
