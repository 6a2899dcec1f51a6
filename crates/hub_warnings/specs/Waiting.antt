-- The ends of a queue.
use Rattle.std.specs.Prelude.{◌≡◌, ℕ, List, Bool, false}
use Rattle.hub_warnings.specs.declared.queued.QueueWriter.{QueueWriter}
use Rattle.hub_warnings.specs.declared.queued.QueuedLines.{QueuedLines}

module _ {R : Type 0} where
  -- what came of the line that has not ended yet
  abbrev pub open_bytes : QueueWriter R → List ℕ
  open_bytes queue = queue.line.bytes.items

  -- memory was wanting for a part of that line
  abbrev pub is_part_lost : QueueWriter R → Bool
  is_part_lost queue = queue.line.is_lost

  -- that line has these bytes, unless memory was wanting for a part
  abbrev pub Holds : QueueWriter R → List ℕ → Type 0
  Holds queue bytes = is_part_lost queue ≡ false → open_bytes queue ≡ bytes

-- lines about dropped ones have a priority
abbrev pub is_for_journal : QueuedLines → Bool
is_for_journal lines = lines.has_priorities
