-- Each part of a connection after an effect, by what the effect changes. That the rules say the same is a lemma.
use Rattle.std.specs.Prelude.{ℕ, ◌==◌, ◌&&◌, Bool, false, List, [], Option, Some, None, if◌then◌else◌}
use Rattle.inf_fields.specs.Field.{Field}
use Rattle.inf_fields.specs.Merging.{merged_with}
use Rattle.login_state.specs.declared.stage.Stage.{Stage}
use Rattle.login_state.specs.declared.stage.Stage.TheVariants as stages
use Rattle.hub_rules.specs.declared.effect.Change.{Change}
use Rattle.hub_rules.specs.declared.effect.Change.TheVariants as changes
use Rattle.hub_rules.specs.declared.effect.Effect.{Effect}
use Rattle.hub_rules.specs.declared.sender.Notes.{Notes}
use Rattle.hub_rules.specs.declared.sender.SeatChange.{SeatChange}
use Rattle.hub_rules.specs.declared.effect.SenderChange.TheVariants as senders
use Rattle.hub_rules.specs.declared.sender.Sender.{Sender}
use Rattle.hub_rules.specs.Effects.{is_present}
use Rattle.hub_rules.specs.Senders.{is_removal, notes_by}
use Rattle.hub_rules.specs.Shares.{ConnState, change_at, lags_with, owed_with, owes}

abbrev pub features_after : Change → List (List ℕ) → List (List ℕ)
features_after (changes.Sender (senders.Greets features)) before = features
features_after (changes.Sender (senders.Learns features)) before = features
features_after change before = before

abbrev pub searched_after : Change → Option ℕ → Option ℕ
searched_after (changes.Sender (senders.Searches now)) before = Some now
searched_after change before = before

-- what is noted of a connection, whose line made this change
abbrev pub notes_after : Change → Notes → Notes
notes_after change before = record before { searched = searched_after change before.searched }

-- its plain fields
abbrev pub sender_after : Change → Sender → Sender
sender_after change before = record before {
  features = features_after change before.features;
  notes = notes_after change before.notes;
}

abbrev pub stage_after : Change → Stage → Stage
stage_after (changes.Sender (senders.Greets features)) stage = stages.Identify
stage_after (changes.Sender (senders.Waits entrant expected)) stage = stages.Verify
stage_after (changes.Sender senders.Enters) stage = stages.Normal
stage_after (changes.Sender (senders.EntersAs entrant)) stage = stages.Normal
stage_after (changes.Sender senders.Falls) stage = stages.Gone
stage_after change stage = stage

abbrev pub fields_after : Change → List Field → List Field
fields_after (changes.Sender (senders.Waits entrant expected)) before = entrant.user.fields
fields_after (changes.Sender (senders.EntersAs entrant)) before = entrant.user.fields
fields_after (changes.Sender (senders.Updates revision)) before = merged_with before revision.update
fields_after change before = before

abbrev pub expected_after : Change → List ℕ → List ℕ
expected_after (changes.Sender (senders.Waits entrant expected)) before = expected
expected_after (changes.Sender senders.Enters) before = []
expected_after change before = before

-- the change that a line makes of a connection as its sender: none, where another connection sent it
abbrev pub own_change : Bool → Change → Change
own_change is_caller change = if is_caller then change else changes.Nothing

-- an operator's change is of the connection with this session identifier, and shuts it out
abbrev pub is_gone_at : Option (ℕ × SeatChange) → ℕ → Bool
is_gone_at (Some (sid, change)) own = is_removal change && (own == sid)
is_gone_at None own = false

-- what is noted of this connection, of which that is noted after its own line
abbrev pub notes_at : Option (ℕ × SeatChange) → ConnState → Notes → Notes
notes_at (Some (sid, change)) a notes = if is_present a.stage && (a.sender.sid == sid) then notes_by change notes else notes
notes_at None a notes = notes

-- the user whom an operator shuts out
abbrev pub is_removed : Change → ℕ → Bool
is_removed change own = is_gone_at (change_at change) own

-- whether an operator shuts this connection out
abbrev pub removed_by : Effect → ConnState → Bool
removed_by effect a = is_present a.stage && is_removed effect.change a.sender.sid

-- a connection after an effect, part by part
abbrev pub affected_parts : Bool → Effect → ConnState → ConnState
affected_parts is_caller effect a = record a {
  sender = record a.sender {
    features = features_after (own_change is_caller effect.change) a.sender.features;
    notes = notes_at (change_at effect.change) a (notes_after (own_change is_caller effect.change) a.sender.notes);
  };
  stage = if removed_by effect a then stages.Gone else if is_caller then stage_after effect.change a.stage else a.stage;
  fields = if is_caller then fields_after effect.change a.fields else a.fields;
  expected = if is_caller then expected_after effect.change a.expected else a.expected;
  owed = owed_with a (owes is_caller effect a);
  lags = lags_with a (owes is_caller effect a);
}
