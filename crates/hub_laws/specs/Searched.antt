-- When a connection last searched, and what the users who are present share, over a whole history.
use Rattle.std.specs.Prelude.{◌≡◌, ℕ, ◌==◌, ◌&&◌, Bool, true, false, List, [], ◌∷◌, length, Option, Some, None}
use Rattle.std.specs.List.{sum_by}
use Rattle.std.specs.Option.{option_or}
use Rattle.adc_line.specs.Lines.{Reading}
use Rattle.inf_fields.specs.FieldNames.{share_size_name, shared_files_name}
use Rattle.user_table.specs.Tables.{amount}
use Rattle.hub_rules.specs.declared.history.Call.{Call}
use Rattle.hub_rules.specs.declared.history.Call.TheVariants.{Line}
use Rattle.hub_rules.specs.declared.history.Entry.{Entry}
use Rattle.login_state.specs.declared.request.Request.{Request}
use Rattle.login_state.specs.declared.request.Request.TheVariants as requests
use Rattle.hub_rules.specs.Configured.{Configured}
use Rattle.hub_rules.specs.Facts.{Facts, facts, own_of, sight_of}
use Rattle.hub_rules.specs.History.{about, info, present, totals}
use Rattle.hub_rules.specs.Prepared.{prepared_line}
use Rattle.hub_rules.specs.Requests.{request_of}
use Rattle.hub_invariants.specs.Said.{accepted_line}
use Rattle.hub_rules.specs.Views.{SenderView}

abbrev pub is_search : Request → Bool
is_search requests.Search = true
is_search request = false

-- an accepted message that is a search
abbrev pub searches : SenderView → Option Reading → Bool
searches own None = false
searches own (Some line) = is_search (request_of own.stage line.kind line.command)

abbrev pub moment_if : Bool → ℕ → Option ℕ
moment_if true now = Some now
moment_if false now = None

-- the moment of a call that is an accepted search of connection c
abbrev pub search_in : Configured → (List ℕ → List ℕ) → Facts → ℕ → Call → Option ℕ
search_in setup hash f c (Line d bytes now) =
    moment_if ((c == d) && searches (own_of (f.about d)) (accepted_line (sight_of setup f) (own_of (f.about d)) (prepared_line setup hash (f.about d).sender.challenge bytes) now)) now
search_in setup hash f c call = None

-- the moment of the last of them
unfoldable pub last_search : Configured → (List ℕ → List ℕ) → List Entry → ℕ → Option ℕ
last_search setup hash [] c = None
last_search setup hash (e ∷ h) c = option_or (search_in setup hash (facts setup hash h) c e.call) (last_search setup hash h c)

-- the interval is counted from the last accepted search
abbrev pub SearchIsTheLast : Type 0
SearchIsTheLast =
    (setup : Configured) (hash : List ℕ → List ℕ) (h : List Entry) (c : ℕ) → (about setup hash h c).sender.notes.searched ≡ last_search setup hash h c

-- The totals are the number of users who are present, and the sums of their fields SS and SF, in which a field that is missing or no
-- number counts nothing.
abbrev pub TotalsAreSums : Type 0
TotalsAreSums = (setup : Configured) (hash : List ℕ → List ℕ) (h : List Entry) → totals setup hash h ≡ record {
  users = length (present setup hash h);
  ss = sum_by (λ c. amount share_size_name (info setup hash h c)) (present setup hash h);
  sf = sum_by (λ c. amount shared_files_name (info setup hash h c)) (present setup hash h);
}
