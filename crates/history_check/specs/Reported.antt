-- The report on a text: whether it writes a legal history, or the first line that is at fault.
use Rattle.std.specs.Prelude.{◌≡◌, ◌≢◌, ◌⊎◌, ℕ, ◌/◌, ◌%◌, ◌==◌, ◌||◌, nat_lt, List, [], ◌∷◌, ◌++◌, codes, length, reverse, slice_index, if◌then◌else◌}
use Rattle.std.specs.Fmt.{decimal}
use Rattle.std.specs.List.{flat_map}
use Rattle.history_check.specs.declared.check.Demand.{Demand}
use Rattle.history_check.specs.declared.check.Demand.TheVariants.{NoCall, Gives}
use Rattle.history_check.specs.declared.check.Judgement.{Judgement}
use Rattle.history_check.specs.declared.check.Judgement.TheVariants.{Legal, Fault}
use Rattle.history_check.specs.Read.{line_numbers}
use Rattle.history_check.specs.Text.{IsFirstFault, IsHistory, end_word, hex_digit, verdict_word, words}
use Rattle.history_check.specs.Written.{reply_of}
use Rattle.hub_rules.specs.declared.history.Entry.{Entry}
use Rattle.hub_rules.specs.declared.history.Reply.{Reply}
use Rattle.hub_rules.specs.declared.history.Reply.TheVariants.{Joined, Full, JoinsSpent, Said, Left, Took}
use Rattle.hub_rules.specs.Configured.{Configured}
use Rattle.hub_rules.specs.Facts.{facts}
use Rattle.hub_rules.specs.Legal as rules

-- ---- texts

-- what is said of the line of a number
unfoldable pub line_text : ℕ → List ℕ → List ℕ
line_text number what = words (codes "line" ∷ decimal number ∷ what ∷ [])

-- a byte as a history has it: control characters and `%` are written in hexadecimal digits
abbrev pub written_byte : ℕ → List ℕ
written_byte byte =
    if nat_lt byte 32 || (byte == 37) then 37 ∷ hex_digit (byte / 16) ∷ hex_digit (byte % 16) ∷ [] else byte ∷ []

unfoldable pub written_bytes : List ℕ → List ℕ
written_bytes bytes = flat_map written_byte bytes

-- a reply as a line has it; of a take, the number of lines comes first
unfoldable pub reply_text : Reply → List ℕ
reply_text (Joined connection) = words (codes "joined" ∷ decimal connection ∷ [])
reply_text Full = codes "full"
reply_text JoinsSpent = codes "joins-spent"
reply_text (Said verdict) = verdict_word verdict
reply_text Left = codes "left"
reply_text (Took bytes lines ended) = words (decimal lines ∷ end_word ended ∷ written_bytes bytes ∷ [])

abbrev pub demand_text : Demand → List ℕ
demand_text NoCall = codes "may not be called there"
demand_text (Gives reply) = codes "is to be answered " ++ reply_text (reply_of reply)

-- what is said of a judgement on entries that stand on lines of these numbers
abbrev pub judgement_text : List ℕ → Judgement → List ℕ
judgement_text numbers Legal = codes "legal"
judgement_text numbers (Fault place demand) = line_text (slice_index numbers place) (demand_text demand)

-- ---- what is reported

-- a text writes a history that is legal
abbrev pub IsLegalText : Configured → (List ℕ → List ℕ) → List ℕ → Type 0
IsLegalText setup hash text = (entries : List Entry) × IsHistory text entries × rules.Legal setup hash (reverse entries)

-- a text writes a history; the entries before e are legal, and e stands on the line of this number
abbrev pub IsLegalUpTo : Configured → (List ℕ → List ℕ) → List ℕ → ℕ → List Entry → Entry → Type 0
IsLegalUpTo setup hash text number before e =
    (behind : List Entry) × IsHistory text (before ++ e ∷ behind) × (number ≡ slice_index (line_numbers text) (length before))
    × rules.Legal setup hash (reverse before)

abbrev pub ReportsLegal : Configured → (List ℕ → List ℕ) → List ℕ → List ℕ → Type 0
ReportsLegal setup hash text report = (report ≡ codes "legal") × IsLegalText setup hash text

abbrev pub ReportsNoEntry : List ℕ → List ℕ → Type 0
ReportsNoEntry text report = (number : ℕ) × (report ≡ line_text number (codes "is no entry")) × IsFirstFault text number

-- the call of the first entry that is not legal may not be made there
abbrev pub ReportsNoCall : Configured → (List ℕ → List ℕ) → List ℕ → List ℕ → Type 0
ReportsNoCall setup hash text report =
    (number : ℕ) × (before : List Entry) × (e : Entry) × (report ≡ line_text number (codes "may not be called there"))
    × IsLegalUpTo setup hash text number before e
    × (rules.MayCall (facts setup hash (reverse before)) e.caller e.call → ⊥)

-- the rules give the call of the first entry that is not legal another reply
abbrev pub ReportsReply : Configured → (List ℕ → List ℕ) → List ℕ → List ℕ → Type 0
ReportsReply setup hash text report =
    (number : ℕ) × (before : List Entry) × (e : Entry) × (reply : Reply)
    × (report ≡ line_text number (codes "is to be answered " ++ reply_text reply))
    × IsLegalUpTo setup hash text number before e
    × rules.MayCall (facts setup hash (reverse before)) e.caller e.call
    × (reply ≡ rules.reply setup hash (facts setup hash (reverse before)) e.caller e.call) × (e.reply ≢ reply)

abbrev pub ReportsHistory : Configured → (List ℕ → List ℕ) → List ℕ → List ℕ → Type 0
ReportsHistory setup hash text report =
    ReportsLegal setup hash text report
    ⊎ (ReportsNoEntry text report
    ⊎ (ReportsNoCall setup hash text report
    ⊎ ReportsReply setup hash text report))
