-- A message of a user who is present, in the grammar and under its own SID, is never refused, but a search within the interval of the last.
use Rattle.std.specs.Prelude.{◌≡◌, ℕ, Bool, true, false, List, [], ◌∷◌, codes, Some}
use Rattle.std.specs.List.{list_any}
use Rattle.std.specs.Str.{bytes_eq}
use Rattle.adc_line.specs.Grammar.{Reads}
use Rattle.adc_line.specs.Lines.{Reading}
use Rattle.adc_line.specs.declared.header.Kind.{Kind}
use Rattle.adc_line.specs.declared.header.Kind.TheVariants as kinds
use Rattle.login_state.specs.declared.stage.Stage.TheVariants.{Normal}
use Rattle.hub_rules.specs.declared.history.Entry.{Entry}
use Rattle.hub_rules.specs.Configured.{Configured}
use Rattle.hub_rules.specs.History.{sid, stage}
use Rattle.hub_laws.specs.Refusals.{accepted}

-- the types of messages to users: B, D, E and F
abbrev pub goes_to_users : Kind → Bool
goes_to_users kinds.Broadcast = true
goes_to_users kinds.Direct = true
goes_to_users kinds.Echo = true
goes_to_users kinds.Feature = true
goes_to_users kind = false

-- the commands that only a hub says, or that are said to a hub
abbrev pub is_hub_command : List ℕ → Bool
is_hub_command command =
    list_any (bytes_eq command) (codes "INF" ∷ codes "SUP" ∷ codes "SID" ∷ codes "QUI" ∷ codes "GPA" ∷ codes "PAS" ∷ codes "CMD" ∷ [])

abbrev pub is_search_command : List ℕ → Bool
is_search_command command = bytes_eq command (codes "SCH")

-- the bytes are a message to users, in the grammar, of a user who is present, under its own SID
pub record IsToUsers (setup : Configured) (hash : List ℕ → List ℕ) (h : List Entry) (c : ℕ) (bytes : List ℕ) (line : Reading) : Type 0 where
  pub grammar : Reads bytes line
  pub present : stage setup hash h c ≡ Normal
  pub from : line.from ≡ Some (sid setup hash h c)
  pub kind : goes_to_users line.kind ≡ true
  pub command : is_hub_command line.command ≡ false

-- such a message is accepted, unless it is a search
abbrev pub MessagesAreAccepted : Type 0
MessagesAreAccepted =
    (setup : Configured) (hash : List ℕ → List ℕ) (h : List Entry) (c : ℕ) (bytes : List ℕ) (now : ℕ) (line : Reading) → IsToUsers setup hash h c bytes line
    → is_search_command line.command ≡ false → accepted setup hash h c bytes now ≡ Some line
