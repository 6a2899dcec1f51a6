-- The calls of one framer, one after another.
use Rattle.std.specs.Prelude.{◌≡◌, ℕ, List, [], ◌∷◌, ◌++◌}
use Rattle.adc_line.specs.declared.framer.Next.{Next}
use Rattle.adc_line.specs.declared.framer.Next.TheVariants.{Line, More, TooLong}
use Rattle.adc_line.specs.NextLine.{IsNext}

-- a piece was fed; or `next` answered, with what the vector held before and after
pub data FramerCall : Type 0 where
  fed : List ℕ → FramerCall
  told : Next → List ℕ → List ℕ → FramerCall

-- the calls, each as its contract says, lead from some unread bytes to others
abbrev pub Follows : List ℕ → List FramerCall → List ℕ → Type 0
Follows unread [] left = left ≡ unread
Follows unread (fed piece ∷ deeds) left = Follows (unread ++ piece) deeds left
Follows unread (told said held out ∷ deeds) left = (between : List ℕ) × IsNext unread held said between out × Follows between deeds left

-- all bytes that were fed
abbrev pub all_fed : List FramerCall → List ℕ
all_fed [] = []
all_fed (fed piece ∷ deeds) = piece ++ all_fed deeds
all_fed (told said held out ∷ deeds) = all_fed deeds

abbrev pub with_line : Next → List ℕ → List (List ℕ) → List (List ℕ)
with_line Line out more = out ∷ more
with_line More out more = more
with_line TooLong out more = more

-- the lines that came out
abbrev pub all_out : List FramerCall → List (List ℕ)
all_out [] = []
all_out (fed piece ∷ deeds) = all_out deeds
all_out (told said held out ∷ deeds) = with_line said out (all_out deeds)
