-- What a client concludes from the lines that it hears after one that it said.
use Rattle.std.specs.Prelude.{◌≡◌, ◌≢◌, ℕ, ◌⊎◌, List, [], ◌∷◌, ◌++◌, codes, get_or, Option, Some, None}
use Rattle.std.specs.List.{All, filter}
use Rattle.adc_base32.specs.Sids.{sid_at}
use Rattle.adc_line.specs.Lines.{Reading}
use Rattle.hub_client.specs.declared.client.Client.{Client}
use Rattle.hub_client.specs.declared.client.LoginStep.{LoginStep}
use Rattle.hub_client.specs.declared.client.Welcome.{Welcome}
use Rattle.hub_client.specs.declared.fault.ClientFault.{ClientFault}
use Rattle.hub_client.specs.declared.fault.ClientFault.TheVariants.{Memory, Unsayable, TimedOut, Unanswered, Closed, Broken, NotAdc, Refused}
use Rattle.hub_client.specs.declared.status.Status.{Status}
use Rattle.hub_client.specs.Entries.{IsHubInfo, IsLoginStep, IsAnswer, IsBadStatus, IsSentAway, IsSuccess, is_user_line, is_quit_line}
use Rattle.hub_client.specs.Users.{IsTold, IsUntold}
use Rattle.hub_client.specs.declared.user.Who.{Who}
use Rattle.hub_client.specs.Talks.{HasFailed, HearsLines, IsJunk, IsStreamOver, IsSpent, Sends, gone_of, unheard, users_of}

-- a line was said, and then these were heard, up to some bytes
abbrev pub Waits : {S : Type 0} → (S → Option (List ℕ)) → (S → Option (List ℕ)) → Client S → List ℕ → List Reading → Option (List ℕ) → Type 0
Waits {S} remaining contents client text heard left = (sent : Client S) × Sends contents client sent text × HearsLines (unheard remaining sent) left heard

-- a line was said, and of those that were heard the last one gives the answer, by what a line says
abbrev pub Concludes : {S X : Type 0} → (S → Option (List ℕ)) → (S → Option (List ℕ)) → (Reading → Option X → Type 0) → Client S
    → Client S → List ℕ → List Reading → X → Type 0
Concludes remaining contents says before after text heard answer =
    (left : Option (List ℕ)) × (last : Reading) × Waits remaining contents before text heard left × All (λ line. says line None) heard
    × HearsLines left (unheard remaining after) (last ∷ []) × says last (Some answer)

-- a line was said, and of those that were heard each but the last one says nothing; the last one is the fault
abbrev pub EndsByFault : {S : Type 0} → (S → Option (List ℕ)) → (S → Option (List ℕ)) → (Reading → Type 0)
    → (List Reading → Reading → Type 0) → Client S → Client S → List ℕ → Type 0
EndsByFault remaining contents silent faulty before after text =
    (heard : List Reading) × (left : Option (List ℕ)) × (last : Reading) × Waits remaining contents before text heard left × All silent heard
    × HearsLines left (unheard remaining after) (last ∷ []) × faulty heard last

-- a line was said, those that were heard say nothing, and then comes what is no message
abbrev pub EndsInJunk : {S : Type 0} → (S → Option (List ℕ)) → (S → Option (List ℕ)) → (Reading → Type 0) → Client S → List ℕ → Type 0
EndsInJunk remaining contents silent before text =
    (heard : List Reading) × (left : Option (List ℕ)) × Waits remaining contents before text heard left × All silent heard × IsJunk left

-- a line was said, those that were heard say nothing, and they are all that come
abbrev pub EndsClosed : {S : Type 0} → (S → Option (List ℕ)) → (S → Option (List ℕ)) → (Reading → Type 0) → Client S → Client S → List ℕ → Type 0
EndsClosed remaining contents silent before after text =
    (heard : List Reading) × Waits remaining contents before text heard (unheard remaining after) × All silent heard × IsStreamOver remaining after

-- why a conversation failed, by the lines that say nothing and those that are a fault; a stream at fault failed in its last call, and memory has no reason here
abbrev pub Fails : {S : Type 0} → (S → Option (List ℕ)) → (S → Option (List ℕ)) → (Reading → Type 0)
    → (List Reading → Reading → ClientFault → Type 0) → Client S → Client S → List ℕ → ClientFault → Type 0
Fails remaining contents silent faulty before after text Memory = Unit {0}
Fails remaining contents silent faulty before after text TimedOut = HasFailed after
Fails remaining contents silent faulty before after text Broken = HasFailed after ⊎ IsSpent after
Fails remaining contents silent faulty before after text Closed = EndsClosed remaining contents silent before after text
Fails remaining contents silent faulty before after text NotAdc =
    EndsInJunk remaining contents silent before text ⊎ EndsByFault remaining contents silent (λ heard last. faulty heard last NotAdc) before after text
Fails remaining contents silent faulty before after text (Refused status) =
    EndsByFault remaining contents silent (λ heard last. faulty heard last (Refused status)) before after text
Fails remaining contents silent faulty before after text Unsayable = ⊥
Fails remaining contents silent faulty before after text Unanswered = ⊥

-- how far the client of this session identifier came by a login, with the messages of users that came before
abbrev pub Comes : {S : Type 0} → (S → Option (List ℕ)) → (S → Option (List ℕ)) → Client S → Client S → ℕ → List ℕ → LoginStep → Type 0
Comes remaining contents before after sid text entry =
    (heard : List Reading) × Concludes remaining contents (λ line. IsLoginStep line sid) before after text heard entry
    × (users_of after ≡ users_of before ++ filter is_user_line heard) × (gone_of after ≡ gone_of before)

-- the status by which the hub answers a request, with the messages of users and departures that came before
abbrev pub HasStatus : {S : Type 0} → (S → Option (List ℕ)) → (S → Option (List ℕ)) → Client S → Client S → List ℕ → Status → Type 0
HasStatus remaining contents before after text status =
    (heard : List Reading) × Concludes remaining contents IsAnswer before after text heard status
    × (users_of after ≡ users_of before ++ filter is_user_line heard) × (gone_of after ≡ gone_of before ++ filter is_quit_line heard)

-- what is kept of a line that gives no answer
abbrev pub kept_with : {X : Type 0} → Option X → List Reading → List Reading
kept_with None lines = lines
kept_with (Some answer) lines = []

-- how far the client came by the next line, which is kept where it tells of another user
abbrev pub HearsEntry : {S : Type 0} → (S → Option (List ℕ)) → Client S → Client S → ℕ → Option LoginStep → Type 0
HearsEntry remaining before after sid entry =
    (line : Reading) × HearsLines (unheard remaining before) (unheard remaining after) (line ∷ []) × IsLoginStep line sid entry
    × (users_of after ≡ users_of before ++ kept_with entry (filter is_user_line (line ∷ [])))

-- the answer that the next line is, which is kept where it tells of a user
abbrev pub HearsAnswer : {S : Type 0} → (S → Option (List ℕ)) → Client S → Client S → Option Status → Type 0
HearsAnswer remaining before after answer =
    (line : Reading) × HearsLines (unheard remaining before) (unheard remaining after) (line ∷ []) × IsAnswer line answer
    × (users_of after ≡ users_of before ++ kept_with answer (filter is_user_line (line ∷ [])))
    × (gone_of after ≡ gone_of before ++ kept_with answer (filter is_quit_line (line ∷ [])))

-- what a line is for who waits until these words of its own come back: they, or nothing unless it is a status of a failure
abbrev pub IsEcho : List ℕ → Reading → Option (Unit {0}) → Type 0
IsEcho text line (Some done) = line.text ≡ text
IsEcho text line None = (line.text ≢ text) × (IsHubInfo line (codes "STA") → (status : Status) × IsSuccess line status)

-- the hub tells of itself
abbrev pub IsHub : Reading → Type 0
IsHub line = IsHubInfo line (codes "INF")

abbrev pub IsSid : Reading → Type 0
IsSid line = IsHubInfo line (codes "SID")

-- the session identifier that a hub gave last, if it gave one
abbrev pub IsGiven : List Reading → Option ℕ → Type 0
IsGiven heard sid =
    ((sid ≡ None) × All (λ line. IsSid line → ⊥) heard)
    ⊎ ((front : List Reading) × (line : Reading) × (behind : List Reading) × (heard ≡ front ++ line ∷ behind) × IsSid line
    × (sid ≡ sid_at (get_or line.params 0 [])) × All (λ later. IsSid later → ⊥) behind)

-- a line before the one by which a hub tells of itself: no status of a failure
abbrev pub IsPrelude : Reading → Type 0
IsPrelude line = (IsHub line → ⊥) × (IsHubInfo line (codes "STA") → (status : Status) × IsSuccess line status)

-- a status of a failure, one that is no status, or the hub's own words with no session identifier before them
abbrev pub IsNoWelcome : List Reading → Reading → ClientFault → Type 0
IsNoWelcome heard line NotAdc = IsBadStatus line NotAdc ⊎ (IsHub line × IsGiven heard None)
IsNoWelcome heard line (Refused status) = IsBadStatus line (Refused status)
IsNoWelcome heard line Memory = ⊥
IsNoWelcome heard line TimedOut = ⊥
IsNoWelcome heard line Broken = ⊥
IsNoWelcome heard line Closed = ⊥
IsNoWelcome heard line Unsayable = ⊥
IsNoWelcome heard line Unanswered = ⊥

-- a hub's first words: its own message, behind which stands the last session identifier that it gave before
abbrev pub IsWelcome : {S : Type 0} → (S → Option (List ℕ)) → (S → Option (List ℕ)) → Client S → Client S → List ℕ → Welcome → Type 0
IsWelcome remaining contents before after text welcome =
    (heard : List Reading) × (left : Option (List ℕ)) × Waits remaining contents before text heard left × All IsPrelude heard
    × HearsLines left (unheard remaining after) (welcome.hub ∷ []) × IsHub welcome.hub × IsGiven heard (Some welcome.sid)

-- the first departure that names this operator has a user of whom the messages tell what spells no text
abbrev pub IsNotAway : List Reading → List Reading → ℕ → Type 0
IsNotAway gone users operator =
    (front : List Reading) × (line : Reading) × (behind : List Reading) × (sid : ℕ) × (gone ≡ front ++ line ∷ behind)
    × All (λ earlier. (other : ℕ) → IsSentAway earlier other operator → ⊥) front × IsSentAway line sid operator × IsUntold users sid

-- what is known of a user whom an operator sent away, by the first departure that names both
abbrev pub IsAway : List Reading → List Reading → ℕ → Option Who → Type 0
IsAway gone users operator None = All (λ line. (sid : ℕ) → IsSentAway line sid operator → ⊥) gone
IsAway gone users operator (Some who) =
    (front : List Reading) × (line : Reading) × (behind : List Reading) × (sid : ℕ) × (gone ≡ front ++ line ∷ behind)
    × All (λ earlier. (other : ℕ) → IsSentAway earlier other operator → ⊥) front × IsSentAway line sid operator × IsTold users sid who
