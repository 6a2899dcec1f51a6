-- What becomes of lines that end.
use Rattle.std.specs.Prelude.{◌≡◌, ⊤}
use Rattle.hub_warnings.specs.declared.outcome.Outcome.{Outcome}
use Rattle.hub_warnings.specs.declared.outcome.Outcome.TheVariants.{Sent, Dropped}

-- the line is in the queue, or one more is counted as dropped
abbrev pub IsAccounted : Outcome → Type 0
IsAccounted (Sent word) = ⊤
IsAccounted (Dropped counted) = counted ≡ 1
