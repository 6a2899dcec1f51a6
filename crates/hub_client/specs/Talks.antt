-- A client's conversation with a hub, by the bytes of its stream where those are known.
use Rattle.std.specs.Prelude.{◌≡◌, ℕ, ◌+◌, ◌<◌, ◌==◌, ◌⊎◌, Bool, true, false, not, List, [], ◌∷◌, ◌++◌, length, map, take, Option, Some, None, Ok}
use Rattle.std.specs.Io.KnownBytes.{Appends, Consumes, IsAtEnd, Keeps, prepend_known}
use Rattle.std.specs.List.{All, filter}
use Rattle.std.specs.Result.{is_ok}
use Rattle.adc_line.specs.Frames.{lf, max_line, HasNoLf}
use Rattle.adc_line.specs.Lines.{Reading, reading}
use Rattle.adc_line.specs.Stream.{joined_lines}
use Rattle.counted_io.specs.Calls.{failures_of, inner_of}
use Rattle.hub_client.specs.declared.client.Client.{Client}
use Rattle.hub_client.specs.declared.fault.ClientFault.{ClientFault}
use Rattle.hub_client.specs.declared.fault.ClientFault.TheVariants.{Memory, Unsayable, TimedOut, Unanswered, Closed, Broken, NotAdc, Refused}

-- the messages of the type INF that came in a login and after it, and those of the type QUI
abbrev pub users_of : {S : Type 0} → Client S → List Reading
users_of client = client.users.items

abbrev pub gone_of : {S : Type 0} → Client S → List Reading
gone_of client = client.gone.items

-- the bytes that the client has still to hear
abbrev pub unheard : {S : Type 0} → (S → Option (List ℕ)) → Client S → Option (List ℕ)
unheard remaining client = prepend_known client.framer (remaining (inner_of client.stream))

-- the client says a line, and does nothing else
abbrev pub Sends : {S : Type 0} → (S → Option (List ℕ)) → Client S → Client S → List ℕ → Type 0
Sends contents before after text =
    (after ≡ record before { stream = after.stream }) × Appends (contents (inner_of before.stream)) (contents (inner_of after.stream)) (text ++ lf ∷ [])

-- an empty line says nothing
abbrev pub has_bytes : List ℕ → Bool
has_bytes frame = not (length frame == 0)

-- from some bytes on, so many were heard that these are the messages of their lines
pub record HearsLines (before after : Option (List ℕ)) (heard : List Reading) : Type 0 where
  pub frames : List (List ℕ)
  pub whole : All HasNoLf frames
  pub taken : Consumes before after (joined_lines frames)
  pub read : map reading (filter has_bytes frames) ≡ map Ok heard

-- the stream is at its end, and no whole line is left
abbrev pub IsStreamOver : {S : Type 0} → (S → Option (List ℕ)) → Client S → Type 0
IsStreamOver remaining client = IsAtEnd (remaining (inner_of client.stream)) × HasNoLf client.framer

-- the next line is no message
abbrev pub IsNoMessage : List ℕ → Type 0
IsNoMessage bytes = (frame : List ℕ) × (left : List ℕ) × (bytes ≡ frame ++ lf ∷ left) × HasNoLf frame × (is_ok (reading frame) ≡ false)

-- the next line is longer than a message may be
abbrev pub IsNextTooLong : List ℕ → Type 0
IsNextTooLong bytes = (max_line < length bytes) × HasNoLf (take (max_line + 1) bytes)

abbrev pub IsJunk : Option (List ℕ) → Type 0
IsJunk None = Unit {0}
IsJunk (Some bytes) = IsNextTooLong bytes ⊎ IsNoMessage bytes

-- how often the client may still read on or take a line out
abbrev pub turns_of : {S : Type 0} → Client S → ℕ
turns_of client = client.turns.left

abbrev pub IsSpent : {S : Type 0} → Client S → Type 0
IsSpent client = turns_of client ≡ 0

-- the last call of the stream failed
abbrev pub HasFailed : {S : Type 0} → Client S → Type 0
HasFailed client = (failures_of client.stream).is_last ≡ true

-- why no bytes came: memory, the stream, or its end
abbrev pub ReadsNone : {S : Type 0} → (S → Option (List ℕ)) → Client S → Client S → ClientFault → Type 0
ReadsNone remaining before after Memory = Unit {0}
ReadsNone remaining before after TimedOut = HasFailed after
ReadsNone remaining before after Broken = HasFailed after
ReadsNone remaining before after Closed =
    Keeps (unheard remaining before) (unheard remaining after) × IsAtEnd (remaining (inner_of after.stream)) × (after.framer ≡ before.framer)
ReadsNone remaining before after NotAdc = ⊥
ReadsNone remaining before after Unsayable = ⊥
ReadsNone remaining before after Unanswered = ⊥
ReadsNone remaining before after (Refused status) = ⊥

-- why no message was heard: memory, the stream, its end, or a line that is none
abbrev pub HearsNone : {S : Type 0} → (S → Option (List ℕ)) → Client S → Client S → ClientFault → Type 0
HearsNone remaining before after Memory = Unit {0}
HearsNone remaining before after TimedOut = HasFailed after
HearsNone remaining before after Broken = HasFailed after ⊎ IsSpent after
HearsNone remaining before after Closed = HearsLines (unheard remaining before) (unheard remaining after) [] × IsStreamOver remaining after
HearsNone remaining before after NotAdc = (left : Option (List ℕ)) × HearsLines (unheard remaining before) left [] × IsJunk left
HearsNone remaining before after Unsayable = ⊥
HearsNone remaining before after Unanswered = ⊥
HearsNone remaining before after (Refused status) = ⊥

-- why a message that came was no use: as above, or it is one that is refused
abbrev pub FailsAt : {S : Type 0} → (S → Option (List ℕ)) → (Reading → ClientFault → Type 0) → Client S → Client S → ClientFault → Type 0
FailsAt remaining faulty before after Memory = Unit {0}
FailsAt remaining faulty before after TimedOut = HasFailed after
FailsAt remaining faulty before after Broken = HasFailed after ⊎ IsSpent after
FailsAt remaining faulty before after Closed = HearsNone remaining before after Closed
FailsAt remaining faulty before after NotAdc =
    HearsNone remaining before after NotAdc ⊎ ((line : Reading) × HearsLines (unheard remaining before) (unheard remaining after) (line ∷ []) × faulty line NotAdc)
FailsAt remaining faulty before after Unsayable = ⊥
FailsAt remaining faulty before after Unanswered = ⊥
FailsAt remaining faulty before after (Refused status) =
    (line : Reading) × HearsLines (unheard remaining before) (unheard remaining after) (line ∷ []) × faulty line (Refused status)

-- the bytes that the client has said
abbrev pub said_by : {S : Type 0} → (S → Option (List ℕ)) → Client S → Option (List ℕ)
said_by contents client = contents (inner_of client.stream)
