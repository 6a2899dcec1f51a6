-- A word of a SUP as it is read, one character after another.
use Rattle.std.specs.Prelude.{ℕ, ◌==◌, ◌&&◌, List, [], ◌∷◌, length, slice_index, Option, Some, None, if◌then◌else◌}
use Rattle.std.specs.Option.{option_and_then}
use Rattle.login_state.specs.declared.feature.Mention.{Mention}
use Rattle.login_state.specs.declared.feature.Mention.TheVariants.{Adds, Removes}
use Rattle.login_state.specs.Mentions.{feature_named}

-- what two characters before a feature's name say of it: `AD` or `RM`
unfoldable pub mention_with_sign : ℕ → ℕ → List ℕ → Option Mention
mention_with_sign first second feature =
    if first == 65 && second == 68 then Some (Adds feature)
    else if first == 82 && second == 77 then Some (Removes feature)
    else None

-- what a word says of a feature
abbrev pub read_mention : List ℕ → Option Mention
read_mention word =
    if length word == 6
    then option_and_then (λ (feature : List ℕ). mention_with_sign (slice_index word 0) (slice_index word 1) feature)
    (feature_named (slice_index word 2 ∷ slice_index word 3 ∷ slice_index word 4 ∷ slice_index word 5 ∷ []))
    else None
