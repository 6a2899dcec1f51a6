-- The text of a written history: what a line writes, and which entries a text writes.
use Rattle.std.specs.Prelude.{◌≡◌, ◌⊎◌, ◌≢◌, ℕ, ◌/◌, ◌%◌, ◌^◌, ◌<◌, ◌≤◌, ◌==◌, Bool, true, false, not, List, [], ◌∷◌, ◌++◌, codes, Some}
use Rattle.std.specs.Fmt.{digit_glyph}
use Rattle.std.specs.List.{AllZip, enumerate_from, filter, join_with_byte, slice_split}
use Rattle.std.specs.Net.Grammar.{IsDotted}
use Rattle.std.specs.Str.Parse.{IsNumeral, digits_value}
use Rattle.adc_base32.specs.Spelled.{spelled_bytes}
use Rattle.hub_rules.specs.declared.history.Call.{Call}
use Rattle.hub_rules.specs.declared.history.Call.TheVariants.{Join, Line, Quit, Take}
use Rattle.hub_rules.specs.declared.history.Entry.{Entry}
use Rattle.hub_rules.specs.declared.history.Reply.{Reply}
use Rattle.hub_rules.specs.declared.history.Reply.TheVariants.{Joined, Full, JoinsSpent, Said, Left, Took}
use Rattle.hub_rules.specs.declared.history.Verdict.{Verdict}
use Rattle.hub_rules.specs.declared.history.Verdict.TheVariants.{Kept, Ended}

-- ---- words

-- words with one blank between them
abbrev pub words : List (List ℕ) → List ℕ
words parts = join_with_byte 32 parts

-- decimal digits and nothing else write a number below 2 ^ 64
abbrev pub IsNumber : List ℕ → ℕ → Type 0
IsNumber word n = IsNumeral 10 word × (digits_value 10 word ≡ n) × (n < 2 ^ 64)

-- 39 digits of base32 write the 24 bytes of a challenge
abbrev pub IsChallenge : List ℕ → List ℕ → Type 0
IsChallenge word challenge = spelled_bytes 24 word ≡ Some challenge

-- the hexadecimal digit of a value below 16; letters are capitals
abbrev pub hex_digit : ℕ → ℕ
hex_digit value = digit_glyph true value

-- `%` and two hexadecimal digits write one byte; any byte but `%` writes itself too
abbrev pub WritesByte : List ℕ → ℕ → Type 0
WritesByte text byte =
    ((text ≡ byte ∷ []) × (byte ≢ 37))
    ⊎ ((text ≡ 37 ∷ hex_digit (byte / 16) ∷ hex_digit (byte % 16) ∷ []) × (byte < 256))

-- the pieces of a text write bytes, one each
abbrev pub WritesBytes : List ℕ → List ℕ → Type 0
WritesBytes text [] = text ≡ []
WritesBytes text (byte ∷ bytes) = (piece rest : List ℕ) × (text ≡ piece ++ rest) × WritesByte piece byte × WritesBytes rest bytes

-- a word and, behind one blank, bytes; the blank may be missing if there are no bytes
abbrev pub EndsWithWord : List ℕ → List ℕ → List ℕ → Type 0
EndsWithWord text word bytes =
    ((text ≡ word) × (bytes ≡ []))
    ⊎ ((written : List ℕ) × (text ≡ words (word ∷ written ∷ [])) × WritesBytes written bytes)

-- ---- lines

abbrev pub call_word : Call → List ℕ
call_word (Join peer challenge now) = codes "join"
call_word (Line c bytes now) = codes "line"
call_word (Quit c) = codes "quit"
call_word (Take c count) = codes "take"

abbrev pub verdict_word : Verdict → List ℕ
verdict_word Kept = codes "kept"
verdict_word Ended = codes "ended"

-- whether no more will ever come
abbrev pub end_word : Bool → List ℕ
end_word true = codes "over"
end_word false = codes "more"

-- the reply to a join
abbrev pub WritesJoinReply : List ℕ → Reply → Type 0
WritesJoinReply text (Joined connection) = (number : List ℕ) × (text ≡ words (codes "joined" ∷ number ∷ [])) × IsNumber number connection
WritesJoinReply text Full = text ≡ codes "full"
WritesJoinReply text JoinsSpent = text ≡ codes "joins-spent"
WritesJoinReply text (Said verdict) = ⊥
WritesJoinReply text Left = ⊥
WritesJoinReply text (Took bytes lines ended) = ⊥

abbrev pub WritesJoin : List ℕ → List ℕ → List ℕ → ℕ → Reply → Type 0
WritesJoin text peer challenge now reply =
    (address spelled moment told : List ℕ) × (text ≡ words (address ∷ spelled ∷ moment ∷ told ∷ []))
    × IsDotted address peer × IsChallenge spelled challenge × IsNumber moment now × WritesJoinReply told reply

abbrev pub WritesLine : List ℕ → ℕ → List ℕ → ℕ → Reply → Type 0
WritesLine text c bytes now reply =
    (verdict : Verdict) × (connection moment told : List ℕ) × (text ≡ words (connection ∷ moment ∷ told ∷ []))
    × IsNumber connection c × IsNumber moment now × EndsWithWord told (verdict_word verdict) bytes × (reply ≡ Said verdict)

abbrev pub WritesQuit : List ℕ → ℕ → Reply → Type 0
WritesQuit text c reply =
    (connection : List ℕ) × (text ≡ words (connection ∷ codes "left" ∷ [])) × IsNumber connection c × (reply ≡ Left)

abbrev pub WritesTake : List ℕ → ℕ → ℕ → Reply → Type 0
WritesTake text c count reply =
    (bytes : List ℕ) × (lines : ℕ) × (ended : Bool) × (connection asked taken told : List ℕ)
    × (text ≡ words (connection ∷ asked ∷ taken ∷ told ∷ []))
    × IsNumber connection c × IsNumber asked count × (1 ≤ count) × (count ≤ 256) × IsNumber taken lines
    × EndsWithWord told (end_word ended) bytes × (reply ≡ Took bytes lines ended)

-- what stands behind the word of a call
abbrev pub WritesCall : List ℕ → Call → Reply → Type 0
WritesCall text (Join peer challenge now) reply = WritesJoin text peer challenge now reply
WritesCall text (Line c bytes now) reply = WritesLine text c bytes now reply
WritesCall text (Quit c) reply = WritesQuit text c reply
WritesCall text (Take c count) reply = WritesTake text c count reply

-- a line writes an entry
abbrev pub Writes : List ℕ → Entry → Type 0
Writes line e =
    (caller text : List ℕ) × (line ≡ words (caller ∷ call_word e.call ∷ text ∷ []))
    × IsNumber caller e.caller × WritesCall text e.call e.reply

-- ---- texts

abbrev pub is_line_feed : ℕ → Bool
is_line_feed byte = byte == 10

-- a line that has no entry: it is empty, or begins with `#`
abbrev pub is_silent : List ℕ → Bool
is_silent [] = true
is_silent (byte ∷ line) = byte == 35

abbrev pub has_entry : ℕ × List ℕ → Bool
has_entry numbered = not (is_silent numbered.1)

-- the lines of a text that have an entry each, with their numbers: the first line of the text is line 1
abbrev pub entry_lines : List ℕ → List (ℕ × List ℕ)
entry_lines text = filter has_entry (enumerate_from 1 (slice_split is_line_feed text))

-- numbered lines write entries, one each
abbrev pub WriteAll : List (ℕ × List ℕ) → List Entry → Type 0
WriteAll lines entries = AllZip (λ numbered e. Writes numbered.1 e) lines entries

-- a text is the written history of these entries, oldest first
abbrev pub IsHistory : List ℕ → List Entry → Type 0
IsHistory text entries = WriteAll (entry_lines text) entries

-- the line of this number is the first that should have an entry and writes none
abbrev pub IsFirstFault : List ℕ → ℕ → Type 0
IsFirstFault text number =
    (before behind : List (ℕ × List ℕ)) × (line : List ℕ) × (entries : List Entry)
    × (entry_lines text ≡ before ++ (number, line) ∷ behind) × WriteAll before entries × ((e : Entry) → Writes line e → ⊥)
