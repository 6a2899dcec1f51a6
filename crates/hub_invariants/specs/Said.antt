-- The accepted lines of a connection: its SUP, its INF and its searches.
use Rattle.std.specs.Prelude.{◌≡◌, ℕ, ◌==◌, Bool, true, false, List, [], ◌∷◌, ◌++◌, length, Option, Some, None, Result, Ok, Err, if◌then◌else◌}
use Rattle.adc_line.specs.declared.fault.LineFault.{LineFault}
use Rattle.adc_line.specs.Lines as lines
use Rattle.adc_line.specs.Lines.{Reading}
use Rattle.inf_fields.specs.Cleaning.{clean}
use Rattle.inf_fields.specs.Field.{Field}
use Rattle.inf_fields.specs.Merging.{merged_fields}
use Rattle.inf_fields.specs.Updates as updates
use Rattle.inf_fields.specs.declared.fault.InfFault.{InfFault}
use Rattle.login_state.specs.declared.deny.Deny.{Deny}
use Rattle.login_state.specs.declared.fault.SupFault.{SupFault}
use Rattle.login_state.specs.Support.{features_of}
use Rattle.login_state.specs.SupportAnswers.{support_after}
use Rattle.hub_rules.specs.declared.history.Call.{Call}
use Rattle.hub_rules.specs.declared.history.Call.TheVariants.{Line}
use Rattle.hub_rules.specs.declared.history.Entry.{Entry}
use Rattle.login_state.specs.declared.request.Request.{Request}
use Rattle.login_state.specs.declared.request.Request.TheVariants as requests
use Rattle.hub_rules.specs.Configured.{Configured}
use Rattle.hub_rules.specs.Denied.{denial_of}
use Rattle.hub_rules.specs.Effects.{is_over}
use Rattle.hub_rules.specs.Facts.{Facts, facts, own_of, sight_of}
use Rattle.hub_rules.specs.History.{features, info}
use Rattle.hub_rules.specs.Prepared.{prepared_line}
use Rattle.hub_rules.specs.Requests.{request_of}
use Rattle.hub_rules.specs.Views.{SenderView, PreparedLine, HubView}

abbrev pub kept_unless : Option Deny → Reading → Option Reading
kept_unless (Some deny) line = None
kept_unless None line = Some line

abbrev pub unless_refused : HubView → SenderView → PreparedLine → ℕ → Result Reading LineFault → Option Reading
unless_refused hub own line now (Ok reading) = kept_unless (denial_of hub own line now reading) reading
unless_refused hub own line now (Err fault) = None

-- the message that was accepted, if it was: the connection is not shut out, the line is not empty, it is a message, and no rule denies it
unfoldable pub accepted_line : HubView → SenderView → PreparedLine → ℕ → Option Reading
accepted_line hub own line now =
    if is_over own.stage then None
    else if length line.bytes == 0 then None
    else unless_refused hub own line now (lines.reading line.bytes)

abbrev pub words_if : Result (List (List ℕ)) SupFault → List (List ℕ) → Option (List (List ℕ))
words_if (Ok features) words = Some words
words_if (Err fault) words = None

-- the words of a SUP
abbrev pub sup_words : SenderView → Request → Reading → Option (List (List ℕ))
sup_words own requests.Greeting line = words_if (support_after own.sender.features line.params) line.params
sup_words own requests.Support line = words_if (support_after own.sender.features line.params) line.params
sup_words own request line = None

abbrev pub cleaned_update : List ℕ → Result (List Field) InfFault → Option (List Field)
cleaned_update peer (Ok u) = Some (clean u peer)
cleaned_update peer (Err fault) = None

-- what an INF says that may be passed on
abbrev pub inf_update : SenderView → Request → Reading → Option (List Field)
inf_update own requests.Login line = cleaned_update own.sender.peer (updates.reading line.params)
inf_update own requests.Update line = cleaned_update own.sender.peer (updates.reading line.params)
inf_update own request line = None

abbrev pub read_by : {A : Type 0} → (SenderView → Request → Reading → Option A) → SenderView → Option Reading → Option A
read_by read own None = None
read_by read own (Some line) = read own (request_of own.stage line.kind line.command) line

abbrev pub listed_if : {A : Type 0} → Bool → Option A → List A
listed_if true (Some x) = x ∷ []
listed_if true None = []
listed_if false o = []

-- what a call says of connection c, as it is read
abbrev pub said_in : {A : Type 0} → (SenderView → Request → Reading → Option A) → Configured → (List ℕ → List ℕ) → Facts → ℕ → Call → List A
said_in read setup hash f c (Line d bytes now) =
    listed_if (c == d) (read_by read (own_of (f.about d)) (accepted_line (sight_of setup f) (own_of (f.about d)) (prepared_line setup hash (f.about d).sender.challenge bytes) now))
said_in read setup hash f c call = []

-- the words of the accepted SUP of a connection, oldest first
unfoldable pub sups : Configured → (List ℕ → List ℕ) → List Entry → ℕ → List (List (List ℕ))
sups setup hash [] c = []
sups setup hash (e ∷ h) c = sups setup hash h c ++ said_in sup_words setup hash (facts setup hash h) c e.call

-- what its accepted INF say that may be passed on, oldest first
unfoldable pub infs : Configured → (List ℕ → List ℕ) → List Entry → ℕ → List (List Field)
infs setup hash [] c = []
infs setup hash (e ∷ h) c = infs setup hash h c ++ said_in inf_update setup hash (facts setup hash h) c e.call

-- a client supports the features whose last mention in any of its accepted SUP adds them
abbrev pub FeaturesAreLastAdded : Type 0
FeaturesAreLastAdded =
    (setup : Configured) (hash : List ℕ → List ℕ) (h : List Entry) (c : ℕ) → features setup hash h c ≡ features_of (sups setup hash h c)

-- what is known of a user is the merge of all its accepted INF
abbrev pub InfoIsMerged : Type 0
InfoIsMerged = (setup : Configured) (hash : List ℕ → List ℕ) (h : List Entry) (c : ℕ) → info setup hash h c ≡ merged_fields (infs setup hash h c)
