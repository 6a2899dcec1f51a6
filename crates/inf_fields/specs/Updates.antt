-- The update that the words of an INF message say (ADC 1.0, "INF"), where each is a name of two characters and a value.
use Rattle.std.specs.Prelude.{ℕ, ◌&&◌, Bool, nat_le, List, [], ◌∷◌, length, take, drop, slice_index, Result, Ok, Err, if◌then◌else◌}
use Rattle.std.specs.List.{list_all}
use Rattle.std.specs.Option.{unwrap_or}
use Rattle.adc_line.specs.Header.{is_letter, is_letter_or_digit}
use Rattle.inf_fields.specs.Field.{Field, field, value_of, besides}
use Rattle.inf_fields.specs.declared.fault.InfFault.{InfFault}
use Rattle.inf_fields.specs.declared.fault.InfFault.TheVariants.{BadName, TooMany}

-- a word begins with a name: a letter, and a letter or a digit
unfoldable pub is_named : List ℕ → Bool
is_named word = nat_le 2 (length word) && is_letter (slice_index word 0) && is_letter_or_digit (slice_index word 1)

-- the name, and what follows it
abbrev pub field_in : List ℕ → Field
field_in word = field (take 2 word) (drop 2 word)

-- a field before later ones: it has the value that they give its name, where they do, and they do not name it again
abbrev pub before : Field → List Field → List Field
before f later = field f.name (unwrap_or (value_of f.name later) f.value) ∷ besides (f ∷ []) later

-- each name once, at the place of its first word, with the value of its last
unfoldable pub update : List (List ℕ) → List Field
update [] = []
update (word ∷ later) = before (field_in word) (update later)

-- so many names may an update have, and so many fields a user
abbrev pub are_few : List Field → Bool
are_few fields = nat_le (length fields) 40

abbrev pub unless_too_many : List Field → Result (List Field) InfFault
unless_too_many fields = if are_few fields then Ok fields else Err TooMany

-- what words say: each has a name, and there are not too many names
unfoldable pub reading : List (List ℕ) → Result (List Field) InfFault
reading words = if list_all is_named words then unless_too_many (update words) else Err BadName
