-- The spelling of a text within one word (ADC 1.0, "Message syntax"): blank as `\s`, line feed as `\n`, backslash as `\\`.
use Rattle.std.specs.Prelude.{ℕ, ◌==◌, ◌&&◌, ◌||◌, Bool, true, not, List, [], ◌∷◌, Option, Some, None, is_some, if◌then◌else◌}
use Rattle.std.specs.Option.{option_map, option_and_then}
use Rattle.std.specs.List.{flat_map}

abbrev pub backslash : ℕ
backslash = 92

-- the spelling of one byte of a text
abbrev pub escaped_byte : ℕ → List ℕ
escaped_byte b =
    if b == 32 then backslash ∷ 115 ∷ []
    else if b == 10 then backslash ∷ 110 ∷ []
    else if b == backslash then backslash ∷ backslash ∷ []
    else b ∷ []

-- what does not stand for itself: blank, line feed and backslash
abbrev pub is_special : ℕ → Bool
is_special b = b == 32 || b == 10 || b == backslash

-- the one spelling of a text
unfoldable pub escaped_text : List ℕ → List ℕ
escaped_text text = flat_map escaped_byte text

-- what an escape stands for, by the byte behind its backslash
unfoldable pub escape_means : ℕ → Option ℕ
escape_means b =
    if b == 115 then Some 32
    else if b == 110 then Some 10
    else if b == backslash then Some backslash
    else None

-- read left to right, each backslash is the first of an escape
unfoldable pub is_escaped : List ℕ → Bool
is_escaped [] = true
is_escaped (b ∷ []) = not (b == backslash)
is_escaped (b ∷ c ∷ more) = if b == backslash then is_some (escape_means c) && is_escaped more else is_escaped (c ∷ more)

-- the text that a word spells, where it spells one
unfoldable pub unescaped_text : List ℕ → Option (List ℕ)
unescaped_text [] = Some []
unescaped_text (b ∷ []) = if is_special b then None else Some (b ∷ [])
unescaped_text (b ∷ c ∷ more) =
    if b == backslash then option_and_then (λ (meant : ℕ). option_map (λ (text : List ℕ). meant ∷ text) (unescaped_text more)) (escape_means c)
    else if is_special b then None
    else option_map (λ (text : List ℕ). b ∷ text) (unescaped_text (c ∷ more))
