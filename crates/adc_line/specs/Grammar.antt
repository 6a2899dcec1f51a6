-- The grammar of a message (ADC 1.0, "Message syntax" and "Message types"), as a reader of the protocol would say it:
-- words with one blank between each two, of which the first ones are the header and the others parameters.
use Rattle.std.specs.Prelude.{◌≡◌, ◌≢◌, ℕ, ◌<◌, ◌≤◌, IsTrue, List, [], ◌∷◌, ◌++◌, length, Option, Some, None}
use Rattle.std.specs.List.{All, flat_map, join_with_byte}
use Rattle.std.specs.Str.{IsUtf8}
use Rattle.adc_base32.specs.Digits.{digit_of}
use Rattle.adc_base32.specs.Sids.{sid_count, sid_text}
use Rattle.adc_line.specs.declared.header.Kind.{Kind}
use Rattle.adc_line.specs.declared.header.Kind.TheVariants.{Broadcast, Client, Direct, Echo, Feature, Hub, Info, Udp}
use Rattle.adc_line.specs.Escapes.{escaped_text}
use Rattle.adc_line.specs.Frames.{max_line}
use Rattle.adc_line.specs.Header.{is_letter, is_letter_or_digit, is_sign, letter}
use Rattle.adc_line.specs.Lines.{Reading}
use Rattle.adc_line.specs.Words.{blank}

-- a command's name: a letter, and two letters or digits
abbrev pub IsCommand : List ℕ → Type 0
IsCommand name =
    (a : ℕ) × (b : ℕ) × (c : ℕ) × (name ≡ a ∷ b ∷ c ∷ []) × IsTrue (is_letter a) × IsTrue (is_letter_or_digit b) × IsTrue (is_letter_or_digit c)

-- one or more base32 digits
abbrev pub IsCid : List ℕ → Type 0
IsCid word = (word ≢ []) × All (λ c. (value : ℕ) × (value < 32) × (c ≡ digit_of value)) word

-- a feature that is wanted or unwanted: a sign, and a name of a letter and three letters or digits
pub record Part : Type 0 where
  pub sign : ℕ
  pub a : ℕ
  pub b : ℕ
  pub c : ℕ
  pub d : ℕ

abbrev pub part_text : Part → List ℕ
part_text p = p.sign ∷ p.a ∷ p.b ∷ p.c ∷ p.d ∷ []

abbrev pub IsPart : Part → Type 0
IsPart p = IsTrue (is_sign p.sign) × IsTrue (is_letter p.a) × IsTrue (is_letter_or_digit p.b) × IsTrue (is_letter_or_digit p.c) × IsTrue (is_letter_or_digit p.d)

-- one or more such parts, with nothing between them
abbrev pub IsFeatureWord : List ℕ → Type 0
IsFeatureWord word = (word ≢ []) × ((parts : List Part) × (word ≡ flat_map part_text parts) × All IsPart parts)

-- the spelling of a text that is not empty
abbrev pub IsParameter : List ℕ → Type 0
IsParameter word = (text : List ℕ) × (text ≢ []) × (word ≡ escaped_text text)

-- the words of the header behind the first, and what they say of the sender, the target and the features
abbrev pub IsAddressed : Kind → List (List ℕ) → Option ℕ → Option ℕ → Option (List ℕ) → Type 0
IsAddressed Broadcast ws from target features =
    (own : ℕ) × (own < sid_count) × (ws ≡ sid_text own ∷ []) × (from ≡ Some own) × (target ≡ None) × (features ≡ None)
IsAddressed Client ws from target features = (ws ≡ []) × (from ≡ None) × (target ≡ None) × (features ≡ None)
IsAddressed Direct ws from target features =
    (own : ℕ) × (to : ℕ) × (own < sid_count) × (to < sid_count) × (ws ≡ sid_text own ∷ sid_text to ∷ []) × (from ≡ Some own) × (target ≡ Some to) × (features ≡ None)
IsAddressed Echo ws from target features =
    (own : ℕ) × (to : ℕ) × (own < sid_count) × (to < sid_count) × (ws ≡ sid_text own ∷ sid_text to ∷ []) × (from ≡ Some own) × (target ≡ Some to) × (features ≡ None)
IsAddressed Feature ws from target features =
    (own : ℕ) × (word : List ℕ) × (own < sid_count) × IsFeatureWord word × (ws ≡ sid_text own ∷ word ∷ []) × (from ≡ Some own) × (target ≡ None) × (features ≡ Some word)
IsAddressed Hub ws from target features = (ws ≡ []) × (from ≡ None) × (target ≡ None) × (features ≡ None)
IsAddressed Info ws from target features = (ws ≡ []) × (from ≡ None) × (target ≡ None) × (features ≡ None)
IsAddressed Udp ws from target features =
    (cid : List ℕ) × IsCid cid × (ws ≡ cid ∷ []) × (from ≡ None) × (target ≡ None) × (features ≡ None)

-- the bytes are this message
pub record Reads (bytes : List ℕ) (line : Reading) : Type 0 where
  pub text : line.text ≡ bytes
  pub short : length bytes ≤ max_line
  pub utf8 : IsUtf8 bytes
  pub command : IsCommand line.command
  pub addresses : List (List ℕ)
  pub addressed : IsAddressed line.kind addresses line.from line.target line.features
  pub params : All IsParameter line.params
  pub spelt : bytes ≡ join_with_byte blank ((letter line.kind ∷ line.command) ∷ (addresses ++ line.params))
