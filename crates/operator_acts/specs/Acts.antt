-- The act that an operator's text asks for: the words of the text are what stands between its blanks.
use Rattle.std.specs.Prelude.{ℕ, ◌==◌, ◌&&◌, nat_le, nat_lt, bytes_eq, chars, codes, Bool, List, [], ◌∷◌, drop, length, slice_index_or, Option, Some, None, option_map, option_and_then, if◌then◌else◌}
use Rattle.std.specs.List.{slice_split, join_with_byte}
use Rattle.std.specs.Str.{all_ascii_digits}
use Rattle.std.specs.Str.Parse.{digits_value}
use Rattle.adc_base32.specs.Spelled.{spelled_bytes}
use Rattle.adc_ids.specs.Nicks.{is_nick}
use Rattle.operator_acts.specs.declared.act.Act.{Act}
use Rattle.operator_acts.specs.declared.act.Act.TheVariants as acts

abbrev pub is_blank : ℕ → Bool
is_blank b = b == 32

-- two blanks together have an empty word between them, and so has a blank at an end
abbrev pub words : List ℕ → List (List ℕ)
words text = slice_split is_blank text

-- the words of what follows a word, if anything does
abbrev pub words_after : Option (List ℕ) → List (List ℕ)
words_after None = []
words_after (Some rest) = words rest

-- the rest of a text: its words with the blanks between them; the empty text where there is none
abbrev pub rest_of : List (List ℕ) → List ℕ
rest_of ws = join_with_byte 32 ws

-- the code points of a nick
unfoldable pub nick_at : List ℕ → Option (List ℕ)
nick_at word = if is_nick (chars word) then Some (chars word) else None

-- one to ten digits, of which leading ones may be zero, with a value below 2^32
abbrev pub is_seconds : List ℕ → Bool
is_seconds word = nat_le 1 (length word) && nat_le (length word) 10 && all_ascii_digits word && nat_lt (digits_value 10 word) 4_294_967_296

unfoldable pub seconds_at : List ℕ → Option ℕ
seconds_at word = if is_seconds word then Some (digits_value 10 word) else None

-- `!kick NICK [reason]`
abbrev pub kick_of : List (List ℕ) → Option Act
kick_of [] = None
kick_of (word ∷ reason) = option_map (λ (nick : List ℕ). acts.Kick nick (rest_of reason)) (nick_at word)

-- `!ban NICK SECONDS [reason]`
abbrev pub ban_of : List (List ℕ) → Option Act
ban_of (word ∷ time ∷ reason) =
    option_and_then (λ (nick : List ℕ). option_map (λ (seconds : ℕ). acts.Ban nick seconds (rest_of reason)) (seconds_at time)) (nick_at word)
ban_of others = None

-- `!unban CID`, and nothing else
abbrev pub unban_of : List (List ℕ) → Option Act
unban_of (cid ∷ []) = option_map (λ (bytes : List ℕ). acts.Unban bytes) (spelled_bytes 24 cid)
unban_of others = None

-- the act with this first word; `!topic [text]` takes any words
unfoldable pub act_of : List ℕ → List (List ℕ) → Option Act
act_of command arguments =
    if bytes_eq command (codes "!kick") then kick_of arguments
    else if bytes_eq command (codes "!ban") then ban_of arguments
    else if bytes_eq command (codes "!unban") then unban_of arguments
    else if bytes_eq command (codes "!topic") then Some (acts.Topic (rest_of arguments))
    else None

-- the act that a text asks for, where it has one of these forms
unfoldable pub act_at : List ℕ → Option Act
act_at text = act_of (slice_index_or (words text) 0 []) (drop 1 (words text))
