-- The share of each connection in one effect, and the connection after it.
use Rattle.std.specs.Prelude.{ℕ, ◌==◌, ◌&&◌, ◌||◌, not, Bool, true, List, [], ◌++◌, drop, Option, Some, None, if◌then◌else◌, nat_le, length, ◌+◌}
use Rattle.feature_route.specs.Audiences.{holds}
use Rattle.inf_fields.specs.Field.{Field}
use Rattle.inf_fields.specs.Merging.{merged_with}
use Rattle.login_state.specs.declared.stage.Stage.{Stage}
use Rattle.login_state.specs.declared.stage.Stage.TheVariants as stages
use Rattle.outboxes.specs.Backlogs.{size_of}
use Rattle.hub_rules.specs.declared.effect.Change.{Change}
use Rattle.hub_rules.specs.declared.effect.Change.TheVariants as changes
use Rattle.hub_rules.specs.declared.effect.Effect.{Effect}
use Rattle.hub_rules.specs.declared.effect.Hearers.{Hearers}
use Rattle.hub_rules.specs.declared.effect.Hearers.TheVariants.{Others, Those}
use Rattle.hub_rules.specs.declared.effect.HubChange.TheVariants as shared
use Rattle.hub_rules.specs.declared.sender.SeatChange.{SeatChange}
use Rattle.hub_rules.specs.declared.sender.SeatChange.TheVariants as seats
use Rattle.hub_rules.specs.declared.effect.SenderChange.{SenderChange}
use Rattle.hub_rules.specs.declared.effect.SenderChange.TheVariants as senders
use Rattle.hub_rules.specs.declared.sender.Sender.{Sender}
use Rattle.hub_rules.specs.Effects.{is_present}
use Rattle.hub_rules.specs.Identities.{su_in}
use Rattle.hub_rules.specs.Senders.{is_removal, notes_by}

-- what belongs to one connection
pub record ConnState : Type 0 where
  -- the caller that joined it
  pub owner : ℕ
  pub sender : Sender
  pub stage : Stage
  -- what is known of its user, or will be once its password is right
  pub fields : List Field
  -- the digest that its password must give, until it does
  pub expected : List ℕ
  -- every line that it was owed so far, oldest first
  pub owed : List (List ℕ)
  -- how many of them were taken
  pub taken : ℕ
  -- whether a share did not fit
  pub lags : Bool

-- ---- who is owed what

-- how many lines may wait for a connection
abbrev pub max_lines : ℕ
max_lines = 1_024

-- how many bytes they may have together
abbrev pub max_bytes : ℕ
max_bytes = 1_048_576

-- the lines that wait
abbrev pub waiting : ConnState → List (List ℕ)
waiting a = drop a.taken a.owed

-- with these lines waiting, there is room for those
abbrev pub has_room_for : List (List ℕ) → List (List ℕ) → Bool
has_room_for waiting share = nat_le (length waiting + length share) max_lines && nat_le (size_of waiting + size_of share) max_bytes

abbrev pub has_room : ConnState → List (List ℕ) → Bool
has_room a share = not a.lags && has_room_for (waiting a) share

-- A share is added whole or not at all. The first that does not fit makes the connection lag, and then nothing is added any more.
unfoldable pub owed_with : ConnState → List (List ℕ) → List (List ℕ)
owed_with a share = if has_room a share then a.owed ++ share else a.owed

unfoldable pub lags_with : ConnState → List (List ℕ) → Bool
lags_with a share = not (has_room a share) || a.lags

abbrev pub hears_those : Bool → Hearers → ConnState → Bool
hears_those is_caller Others a = not is_caller
hears_those is_caller (Those audience) a = holds audience a.sender.sid (su_in a.fields)

-- what an effect owes a connection: what users hear, where its own is present and one of those for whom it is said, and then what the sender of the line
-- alone hears
abbrev pub owes : Bool → Effect → ConnState → List (List ℕ)
owes is_caller effect a = (if is_present a.stage && hears_those is_caller effect.hearers a then effect.others else []) ++ (if is_caller then effect.own else [])

-- ---- what becomes of a connection

-- what its own line changes
abbrev pub changed : SenderChange → ConnState → ConnState
changed (senders.Greets features) a = record a { sender = record a.sender { features = features }; stage = stages.Identify }
changed (senders.Learns features) a = record a { sender = record a.sender { features = features } }
changed (senders.Waits entrant expected) a = record a { stage = stages.Verify; fields = entrant.user.fields; expected = expected }
changed senders.Enters a = record a { stage = stages.Normal; expected = [] }
changed (senders.EntersAs entrant) a = record a { stage = stages.Normal; fields = entrant.user.fields }
changed (senders.Updates revision) a = record a { fields = merged_with a.fields revision.update }
changed (senders.Searches now) a = record a { sender = record a.sender { notes = record a.sender.notes { searched = Some now } } }
changed senders.Falls a = record a { stage = stages.Gone }

abbrev pub changed_by_sender : Bool → Change → ConnState → ConnState
changed_by_sender true (changes.Sender change) a = changed change a
changed_by_sender is_sender change a = a

-- the user whose connection an operator changes, by its session identifier, and the change
abbrev pub change_at : Change → Option (ℕ × SeatChange)
change_at (changes.Hub (shared.At sid change)) = Some (sid, change)
change_at (changes.Hub (shared.Ban banned)) = Some (banned.sid, seats.Gone)
change_at change = None

-- what an operator's change makes of it
abbrev pub operated : SeatChange → ConnState → ConnState
operated change a = record a { sender = record a.sender { notes = notes_by change a.sender.notes }; stage = if is_removal change then stages.Gone else a.stage }

abbrev pub changed_by_operator : Option (ℕ × SeatChange) → ConnState → ConnState
changed_by_operator (Some (sid, change)) a = if is_present a.stage && (a.sender.sid == sid) then operated change a else a
changed_by_operator None a = a

-- A connection after an effect: it changes where it sent the line, or is the one that an operator changes; and it is owed its share.
abbrev pub affected_connection : Bool → Effect → ConnState → ConnState
affected_connection is_sender effect a = record (changed_by_operator (change_at effect.change) (changed_by_sender is_sender effect.change a)) {
  owed = owed_with a (owes is_sender effect a);
  lags = lags_with a (owes is_sender effect a);
}
