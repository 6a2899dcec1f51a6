-- Which features a feature word wants and does not want (ADC 1.0, "Message types").
use Rattle.std.specs.Prelude.{ℕ, ◌==◌, Bool, true, false, List, [], ◌∷◌, Option, Some, None, if◌then◌else◌}
use Rattle.adc_line.specs.Header.{is_feature_word}

-- the names of features
pub record Wants : Type 0 where
  pub wanted : List (List ℕ)
  pub unwanted : List (List ℕ)

-- the four characters after each such sign
unfoldable pub names_after : ℕ → List ℕ → List (List ℕ)
names_after wanted (sign ∷ a ∷ b ∷ c ∷ d ∷ more) = if sign == wanted then (a ∷ b ∷ c ∷ d ∷ []) ∷ names_after wanted more else names_after wanted more
names_after wanted rest = []

-- those after `+` are wanted, and those after `-` are not
unfoldable pub wants_of : List ℕ → Wants
wants_of word = record { wanted = names_after 43 word; unwanted = names_after 45 word }

abbrev pub where_it_is : Bool → Wants → Option Wants
where_it_is true wants = Some wants
where_it_is false wants = None

-- what a text wants, where it is a feature word
unfoldable pub want_at : List ℕ → Option Wants
want_at text = where_it_is (is_feature_word text) (wants_of text)
