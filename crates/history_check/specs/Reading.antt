-- What the readers of a line compute. The laws of the text say that they read its grammar.
use Rattle.std.specs.Prelude.{ℕ, ◌+◌, ◌-◌, ◌*◌, ◌^◌, ◌==◌, ◌&&◌, nat_le, nat_lt, Bool, true, false, List, [], ◌∷◌, length, codes, Option, Some, None, if◌then◌else◌}
use Rattle.std.specs.Char.{is_digit}
use Rattle.std.specs.List.{list_all}
use Rattle.std.specs.Net.Reader.{read_ipv4, whole_value}
use Rattle.std.specs.Option.{option_and_then, option_map}
use Rattle.std.specs.Str.{bytes_eq}
use Rattle.std.specs.Str.Parse.{digits_value}
use Rattle.adc_base32.specs.Spelled.{spelled_bytes}
use Rattle.history_check.specs.declared.written.WrittenCall as written_call
use Rattle.history_check.specs.declared.written.WrittenReply as written_reply
use Rattle.history_check.specs.Written.{call_of, reply_of}
use Rattle.hub_rules.specs.declared.history.Call.{Call}
use Rattle.hub_rules.specs.declared.history.Call.TheVariants.{Join, Line, Quit, Take}
use Rattle.hub_rules.specs.declared.history.Entry.{Entry}
use Rattle.hub_rules.specs.declared.history.Reply.{Reply}
use Rattle.hub_rules.specs.declared.history.Reply.TheVariants.{Joined, Full, JoinsSpent, Said, Left, Took}
use Rattle.hub_rules.specs.declared.history.Verdict.{Verdict}
use Rattle.hub_rules.specs.declared.history.Verdict.TheVariants.{Kept, Ended}

infixl 10 ◌>>=◌
abbrev pub ◌>>=◌ : {A B : Type 0} → Option A → (A → Option B) → Option B
o >>= f = option_and_then f o

-- a call and its reply, as the rules have them
abbrev pub said_of : written_call.WrittenCall × written_reply.WrittenReply → Call × Reply
said_of said = (call_of said.0, reply_of said.1)

abbrev pub is_blank : ℕ → Bool
is_blank byte = byte == 32

-- the word at the front of a text, and what follows the blank behind it
unfoldable pub first_word : List ℕ → List ℕ
first_word [] = []
first_word (c ∷ text) = if is_blank c then [] else c ∷ first_word text

unfoldable pub behind_word : List ℕ → List ℕ
behind_word [] = []
behind_word (c ∷ text) = if is_blank c then text else behind_word text

abbrev pub is_number : List ℕ → Bool
is_number word = nat_lt 0 (length word) && list_all (λ c. is_digit c 10) word && nat_lt (digits_value 10 word) (2 ^ 64)

unfoldable pub read_number : List ℕ → Option ℕ
read_number word = if is_number word then Some (digits_value 10 word) else None

unfoldable pub read_address : List ℕ → Option (List ℕ)
read_address word = whole_value (read_ipv4 word)

-- a number of lines that a take may ask for
unfoldable pub read_count : List ℕ → Option ℕ
read_count word = do
  count ← read_number word
  if nat_le 1 count && nat_le count 256 then Some count else None

-- the value of a hexadecimal digit
unfoldable pub read_digit : ℕ → Option ℕ
read_digit c =
    if nat_le 48 c && nat_le c 57 then Some (c - 48) else (if nat_le 65 c && nat_le c 70 then Some (c - 55) else None)

unfoldable pub read_byte : ℕ → ℕ → Option ℕ
read_byte high low = do
  h ← read_digit high
  l ← read_digit low
  Some (h * 16 + l)

abbrev pub onto : ℕ → Option (List ℕ) → Option (List ℕ)
onto byte bytes = option_map (λ (bs : List ℕ). byte ∷ bs) bytes

unfoldable pub read_bytes : List ℕ → Option (List ℕ)
read_bytes [] = Some []
read_bytes (c ∷ []) = if c == 37 then None else Some (c ∷ [])
read_bytes (c ∷ high ∷ []) = if c == 37 then None else onto c (read_bytes (high ∷ []))
read_bytes (c ∷ high ∷ low ∷ text) =
    if c == 37 then (read_byte high low >>= λ byte. onto byte (read_bytes text)) else onto c (read_bytes (high ∷ low ∷ text))

unfoldable pub read_joined : List ℕ → Option Reply
read_joined text =
    if bytes_eq text (codes "full") then Some Full
    else (if bytes_eq text (codes "joins-spent") then Some JoinsSpent
    else (if bytes_eq (first_word text) (codes "joined") then option_map Joined (read_number (behind_word text)) else None))

unfoldable pub read_join : List ℕ → Option (Call × Reply)
read_join text = do
  peer ← read_address (first_word text)
  challenge ← spelled_bytes 24 (first_word (behind_word text))
  now ← read_number (first_word (behind_word (behind_word text)))
  reply ← read_joined (behind_word (behind_word (behind_word text)))
  Some (Join peer challenge now, reply)

unfoldable pub read_verdict : List ℕ → Option Verdict
read_verdict word = if bytes_eq word (codes "kept") then Some Kept else (if bytes_eq word (codes "ended") then Some Ended else None)

unfoldable pub read_line : List ℕ → Option (Call × Reply)
read_line text = do
  connection ← read_number (first_word text)
  now ← read_number (first_word (behind_word text))
  verdict ← read_verdict (first_word (behind_word (behind_word text)))
  bytes ← read_bytes (behind_word (behind_word (behind_word text)))
  Some (Line connection bytes now, Said verdict)

unfoldable pub read_quit : List ℕ → Option (Call × Reply)
read_quit text = do
  connection ← read_number (first_word text)
  if bytes_eq (behind_word text) (codes "left") then Some (Quit connection, Left) else None

unfoldable pub read_end : List ℕ → Option Bool
read_end word = if bytes_eq word (codes "more") then Some false else (if bytes_eq word (codes "over") then Some true else None)

unfoldable pub read_take : List ℕ → Option (Call × Reply)
read_take text = do
  connection ← read_number (first_word text)
  count ← read_count (first_word (behind_word text))
  lines ← read_number (first_word (behind_word (behind_word text)))
  ended ← read_end (first_word (behind_word (behind_word (behind_word text))))
  bytes ← read_bytes (behind_word (behind_word (behind_word (behind_word text))))
  Some (Take connection count, Took bytes lines ended)

unfoldable pub read_call : List ℕ → List ℕ → Option (Call × Reply)
read_call kind text =
    if bytes_eq kind (codes "join") then read_join text
    else (if bytes_eq kind (codes "line") then read_line text
    else (if bytes_eq kind (codes "quit") then read_quit text
    else (if bytes_eq kind (codes "take") then read_take text else None)))

unfoldable pub read_entry : List ℕ → Option Entry
read_entry line = do
  caller ← read_number (first_word line)
  said ← read_call (first_word (behind_word line)) (behind_word (behind_word line))
  Some (record { caller = caller; call = said.0; reply = said.1 })
