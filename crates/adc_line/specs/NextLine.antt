-- The next line of a framer, by the bytes that it has unread.
use Rattle.std.specs.Prelude.{◌≡◌, ℕ, ◌+◌, ◌<◌, ◌≤◌, List, ◌∷◌, ◌++◌, [], length, take}
use Rattle.adc_line.specs.Frames.{lf, max_line, HasNoLf}
use Rattle.adc_line.specs.Stream.{lines}
use Rattle.adc_line.specs.declared.framer.Next.{Next}
use Rattle.adc_line.specs.declared.framer.Next.TheVariants.{Line, More, TooLong}

-- what an answer says of the bytes `unread` and what the vector held before, and `left` and `out` after
abbrev pub IsNext : List ℕ → List ℕ → Next → List ℕ → List ℕ → Type 0
IsNext unread held Line left out = (unread ≡ out ++ lf ∷ left) × HasNoLf out × (length out ≤ max_line)
IsNext unread held More left out = (left ≡ unread) × (out ≡ held) × HasNoLf unread × (length unread ≤ max_line)
IsNext unread held TooLong left out = (left ≡ unread) × (out ≡ held) × (max_line < length unread) × HasNoLf (take (max_line + 1) unread)

-- a line is the first of those that a stream of the unread bytes has; else it has none
abbrev pub IsFirstLine : List ℕ → Next → List ℕ → List ℕ → Type 0
IsFirstLine unread Line left out = lines unread ≡ out ∷ lines left
IsFirstLine unread More left out = lines unread ≡ []
IsFirstLine unread TooLong left out = lines unread ≡ []
