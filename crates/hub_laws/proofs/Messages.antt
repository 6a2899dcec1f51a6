-- No rule denies a message to users, but a search within the interval.
use Rattle.std.proofs.Common.{◌≡◌, ◌||◌, ◌++◌, ◌∙◌, ap, ap₂, refl, ℕ, Bool, true, false, not, ◌==◌, List, [], ◌∷◌, length, Some, None, Ok, Err, arith}
use Rattle.std.specs.Prelude.{if◌then◌else◌, codes}
use Rattle.std.specs.List.{join_with_byte}
use Rattle.adc_line.proofs.ReadsLemmas.{reading-of}
use Rattle.adc_line.specs.Grammar.{Reads}
use Rattle.adc_line.specs.Header.{letter}
use Rattle.adc_line.specs.Words.{blank}
use Rattle.login_state.specs.Requests.{is_of_the_hub, is_to_the_hub, to_users}
use Rattle.hub_invariants.specs.Said.{kept_unless}
use Rattle.hub_rules.specs.Denied.{is_search_due, message_denied}
use Rattle.hub_laws.proofs.Words.{Configured, Entry, Facts, Kind, SenderView, PreparedLine, Reading, Request, HubView, accepted_line, bytes_eq, denial_of, eq-eqb, facts, false≢true, names_another, or-parts, own_of}
use Rattle.hub_laws.proofs.Words.{prepared_line, request_at, request_denied, sight_of}
use Rattle.hub_laws.proofs.Words.denials
use Rattle.hub_laws.proofs.Words.kinds
use Rattle.hub_laws.proofs.Words.lines
use Rattle.hub_laws.proofs.Words.requests
use Rattle.hub_laws.proofs.Words.stages
use Rattle.hub_laws.specs.Intervals.{SearchesAreAccepted}
use Rattle.hub_laws.specs.Messages.{IsToUsers, MessagesAreAccepted, goes_to_users, is_hub_command, is_search_command}
use Rattle.hub_laws.proofs.Searches.{search_is_the_last}
use Rattle.hub_laws.proofs.AccountPasswords.{prepared-bytes}

-- ---- what such a message asks for

abbrev search_or_message : Bool → Request
search_or_message true = requests.Search
search_or_message false = requests.Message

users-asked : (of hub search : Bool) → of ≡ false → hub ≡ false
    → (if of || hub then Err denials.Protocol else if search then Ok requests.Search else Ok requests.Message) ≡ Ok (search_or_message search)
users-asked of hub search not-of not-hub = grind arith

to-users : (command : List ℕ) (search : Bool) → is_hub_command command ≡ false → is_search_command command ≡ search
    → (bytes_eq command (codes "INF") ≡ false) × (to_users command ≡ Ok (search_or_message search))
to-users command search other is =
    let inf = or-parts (bytes_eq command (codes "INF")) _ other in
    let sup = or-parts (bytes_eq command (codes "SUP")) _ inf.1 in
    let sid = or-parts (bytes_eq command (codes "SID")) _ sup.1 in
    let qui = or-parts (bytes_eq command (codes "QUI")) _ sid.1 in
    let gpa = or-parts (bytes_eq command (codes "GPA")) _ qui.1 in
    let pas = or-parts (bytes_eq command (codes "PAS")) _ gpa.1 in
    let cmd = or-parts (bytes_eq command (codes "CMD")) _ pas.1 in (
      inf.0,
      ap (λ b. if is_of_the_hub command || is_to_the_hub command then Err denials.Protocol else if b then Ok requests.Search else Ok requests.Message) is
          ∙ users-asked (is_of_the_hub command) (is_to_the_hub command) search
          (ap₂ ◌||◌ (ap₂ ◌||◌ (ap₂ ◌||◌ sid.0 qui.0) gpa.0) cmd.0) (ap₂ ◌||◌ sup.0 pas.0),
    )

asks-users : (kind : Kind) (command : List ℕ) (search : Bool) → goes_to_users kind ≡ true → is_hub_command command ≡ false → is_search_command command ≡ search
    → request_at stages.Normal kind command ≡ Ok (search_or_message search)
unfolding request_at
asks-users kinds.Broadcast command search users other is =
    let to = to-users command search other is in ap (λ b. if b then Ok requests.Update else to_users command) to.0 ∙ to.1
asks-users kinds.Direct command search users other is =
    let to = to-users command search other is in ap (λ b. if b then Err denials.Protocol else to_users command) to.0 ∙ to.1
asks-users kinds.Echo command search users other is =
    let to = to-users command search other is in ap (λ b. if b then Err denials.Protocol else to_users command) to.0 ∙ to.1
asks-users kinds.Feature command search users other is =
    let to = to-users command search other is in ap (λ b. if b then Err denials.Protocol else to_users command) to.0 ∙ to.1
asks-users kinds.Client command search users other is = absurd (false≢true users)
asks-users kinds.Hub command search users other is = absurd (false≢true users)
asks-users kinds.Info command search users other is = absurd (false≢true users)
asks-users kinds.Udp command search users other is = absurd (false≢true users)

own-named : (sid : ℕ) → names_another sid (Some sid) ≡ false
own-named sid = ap not (eq-eqb sid sid refl)

by-request : (hub : HubView) (own : SenderView) (line : PreparedLine) (now : ℕ) (reading : Reading) (search : Bool) → request_denied hub own line now reading (search_or_message search) ≡ message_denied hub own now search
unfolding request_denied
by-request hub own line now reading true = refl
by-request hub own line now reading false = refl

denial-is : (hub : HubView) (own : SenderView) (line : PreparedLine) (now : ℕ) (reading : Reading) (search : Bool) → own.stage ≡ stages.Normal → reading.from ≡ Some own.sender.sid
    → request_at stages.Normal reading.kind reading.command ≡ Ok (search_or_message search)
    → denial_of hub own line now reading ≡ message_denied hub own now search
denial-is hub own line now reading search at from asks = grind (arith, own-named, by-request)

accepted-if : (hub : HubView) (own : SenderView) (line : PreparedLine) (now : ℕ) (reading : Reading) → own.stage ≡ stages.Normal → (length line.bytes == 0) ≡ false
    → lines.reading line.bytes ≡ Ok reading → accepted_line hub own line now ≡ kept_unless (denial_of hub own line now reading) reading
unfolding accepted_line
accepted-if hub own line now reading at some reads = grind arith

more-than-none : (b : ℕ) (bytes : List ℕ) → (length (b ∷ bytes) == 0) ≡ false
more-than-none b bytes = grind arith

-- no message is empty
some-joined : (a : ℕ) (word : List ℕ) (ws : List (List ℕ)) → (length (join_with_byte blank ((a ∷ word) ∷ ws)) == 0) ≡ false
some-joined a word [] = more-than-none a word
some-joined a word (w ∷ ws) = more-than-none a _

pub some-read : (bytes : List ℕ) (line : Reading) → Reads bytes line → (length bytes == 0) ≡ false
some-read bytes line reads = ap (λ (bs : List ℕ). length bs == 0) reads.spelt ∙ some-joined (letter line.kind) line.command (reads.addresses ++ line.params)

kept-search : (hub : HubView) (own : SenderView) (now : ℕ) (line : Reading) (due : Bool) → is_search_due hub.setup.plain own.sender.notes.searched now ≡ due
    → kept_unless (message_denied hub own now true) line ≡ (if due then Some line else None)
kept-search hub own now line due is = grind arith

module _ (setup : Configured) (hash : List ℕ → List ℕ) (h : List Entry) (c : ℕ) (bytes : List ℕ) (now : ℕ) (line : Reading) (message : IsToUsers setup hash h c bytes line) where
  abbrev f : Facts
  f = facts setup hash h

  abbrev hub : HubView
  hub = sight_of setup f

  abbrev own : SenderView
  own = own_of (f.about c)

  abbrev prepared : PreparedLine
  prepared = prepared_line setup hash (f.about c).sender.challenge bytes

  accepted-as : (search : Bool) → is_search_command line.command ≡ search → accepted_line hub own prepared now ≡ kept_unless (message_denied hub own now search) line
  accepted-as search is =
      let same = prepared-bytes setup hash (f.about c).sender.challenge bytes in
      let reads : lines.reading bytes ≡ Ok line = reading-of bytes line message.grammar in
      accepted-if hub own prepared now line message.present (ap (λ (bs : List ℕ). length bs == 0) same ∙ some-read bytes line message.grammar) (ap lines.reading same ∙ reads)
      ∙ ap (λ d. kept_unless d line)
      (denial-is hub own prepared now line search message.present message.from (asks-users line.kind line.command search message.kind message.command is))

pub messages_are_accepted : MessagesAreAccepted
messages_are_accepted setup hash h c bytes now line message other = accepted-as setup hash h c bytes now line message false other

pub searches_are_accepted : SearchesAreAccepted
searches_are_accepted setup hash h c bytes now line message search =
    accepted-as setup hash h c bytes now line message true search
    ∙ kept-search (sight_of setup (facts setup hash h)) (own_of ((facts setup hash h).about c)) now line _ refl
    ∙ ap (λ last. if is_search_due setup.plain last now then Some line else None) (search_is_the_last setup hash h c)
