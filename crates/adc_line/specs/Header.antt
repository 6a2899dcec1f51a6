-- The header of a message: its type, its command and whom it is from and for (ADC 1.0, "Message types").
use Rattle.std.specs.Prelude.{ℕ, ◌==◌, ◌&&◌, ◌||◌, Bool, true, false, not, nat_le, List, [], ◌∷◌, drop, length, slice_index, Option, Some, None, if◌then◌else◌}
use Rattle.std.specs.Option.{option_map, option_and_then}
use Rattle.std.specs.List.{find, list_all}
use Rattle.adc_base32.specs.Sids.{sid_at}
use Rattle.adc_base32.specs.Spelled.{is_digit}
use Rattle.adc_line.specs.declared.header.Kind.{Kind}
use Rattle.adc_line.specs.declared.header.Kind.TheVariants.{Broadcast, Client, Direct, Echo, Feature, Hub, Info, Udp}
use Rattle.adc_line.specs.declared.header.Head.{Head}
use Rattle.adc_line.specs.declared.header.Header.{Header}
use Rattle.adc_line.specs.Words.{word_at}

-- A to Z
abbrev pub is_letter : ℕ → Bool
is_letter c = nat_le 65 c && nat_le c 90

-- A to Z or 0 to 9
abbrev pub is_letter_or_digit : ℕ → Bool
is_letter_or_digit c = is_letter c || (nat_le 48 c && nat_le c 57)

-- the letter of a type
abbrev pub letter : Kind → ℕ
letter Broadcast = 66
letter Client = 67
letter Direct = 68
letter Echo = 69
letter Feature = 70
letter Hub = 72
letter Info = 73
letter Udp = 85

abbrev pub kinds : List Kind
kinds = Broadcast ∷ Client ∷ Direct ∷ Echo ∷ Feature ∷ Hub ∷ Info ∷ Udp ∷ []

-- the type with a letter
unfoldable pub kind_at : ℕ → Option Kind
kind_at c = find (λ (kind : Kind). c == letter kind) kinds

-- a command's name: a letter, and two letters or digits
abbrev pub is_command : List ℕ → Bool
is_command name =
    length name == 3 && is_letter (slice_index name 0) && is_letter_or_digit (slice_index name 1) && is_letter_or_digit (slice_index name 2)

-- the first word: a type's letter, then a command's name
unfoldable pub head_at : List ℕ → Option Head
head_at word =
    if length word == 4 && is_letter (slice_index word 1) && is_letter_or_digit (slice_index word 2) && is_letter_or_digit (slice_index word 3)
    then option_map (λ (kind : Kind). record { kind = kind; command = drop 1 word }) (kind_at (slice_index word 0))
    else None

-- a client's own identifier in a message over UDP: one or more base32 digits
unfoldable pub is_cid : List ℕ → Bool
is_cid word = not (length word == 0) && list_all is_digit word

-- `+` wants a feature, `-` wants that it is absent
abbrev pub is_sign : ℕ → Bool
is_sign c = c == 43 || c == 45

-- four characters of a feature's name: a letter and three letters or digits
abbrev pub is_named : ℕ → ℕ → ℕ → ℕ → Bool
is_named a b c d = is_letter a && is_letter_or_digit b && is_letter_or_digit c && is_letter_or_digit d

-- a feature's name is these four and nothing else
unfoldable pub is_feature_name : List ℕ → Bool
is_feature_name name = length name == 4 && is_named (slice_index name 0) (slice_index name 1) (slice_index name 2) (slice_index name 3)

-- parts that are each a sign and a feature's name, and nothing else
unfoldable pub are_features : List ℕ → Bool
are_features [] = true
are_features (sign ∷ a ∷ b ∷ c ∷ d ∷ more) = is_sign sign && is_named a b c d && are_features more
are_features rest = false

-- a feature word has one or more of them
unfoldable pub is_feature_word : List ℕ → Bool
is_feature_word word = not (length word == 0) && are_features word

abbrev pub header : Head → Option ℕ → Option ℕ → Header
header head from target = record { head = head; from = from; target = target }

-- a sender
abbrev pub from_own : Head → List ℕ → Option Header
from_own head own = option_map (λ (sid : ℕ). header head (Some sid) None) (sid_at own)

-- a sender, and whom the message is for
abbrev pub from_own_to : Head → List ℕ → List ℕ → Option Header
from_own_to head own target = option_and_then (λ (sid : ℕ). option_map (λ (to : ℕ). header head (Some sid) (Some to)) (sid_at target)) (sid_at own)

-- the header whose first word says `head`, by its type, with the two words that may follow in it
abbrev pub addressed_as : Kind → Head → List ℕ → List ℕ → Option Header
addressed_as Broadcast head own third = from_own head own
addressed_as Direct head own target = from_own_to head own target
addressed_as Echo head own target = from_own_to head own target
addressed_as Feature head own features = if is_feature_word features then from_own head own else None
addressed_as Udp head cid third = if is_cid cid then Some (header head None None) else None
addressed_as kind head second third = Some (header head None None)

-- the header with which words begin, where they begin with one
unfoldable pub header_at : List (List ℕ) → Option Header
header_at ws = option_and_then (λ (head : Head). addressed_as head.kind head (word_at ws 1) (word_at ws 2)) (head_at (word_at ws 0))

-- how many words the header of a type has
abbrev pub header_words : Kind → ℕ
header_words Broadcast = 2
header_words Direct = 3
header_words Echo = 3
header_words Feature = 3
header_words Udp = 2
header_words kind = 1
