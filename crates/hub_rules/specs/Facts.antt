-- The sum of the calls so far. A history is a list of entries, written **newest first**: `e ∷ h` is the history h
-- and then the entry e. So 'h begins with s' says that s is an end of the list h.
use Rattle.std.specs.Prelude.{ℕ, ◌+◌, ◌==◌, ◌&&◌, not, nat_le, Bool, true, false, List, [], ◌∷◌, ◌++◌, length, map, take, filter, if◌then◌else◌}
use Rattle.adc_base32.specs.Turns.{next_free}
use Rattle.login_state.specs.declared.stage.Stage.TheVariants as stages
use Rattle.operator_acts.specs.Bans.{with_ban, without_ban}
use Rattle.operator_acts.specs.declared.ban.Ban.{Ban}
use Rattle.user_table.specs.Listed.{Listed}
use Rattle.hub_rules.specs.declared.effect.Change.{Change}
use Rattle.hub_rules.specs.declared.effect.Change.TheVariants.{Hub}
use Rattle.hub_rules.specs.declared.effect.Effect.{Effect}
use Rattle.hub_rules.specs.declared.effect.HubChange.TheVariants as shared
use Rattle.hub_rules.specs.declared.history.Call.{Call}
use Rattle.hub_rules.specs.declared.history.Call.TheVariants.{Join, Line, Quit, Take}
use Rattle.hub_rules.specs.declared.history.Entry.{Entry}
use Rattle.hub_rules.specs.Configured.{Configured}
use Rattle.hub_rules.specs.Effects.{line_effect, departure, is_present}
use Rattle.hub_rules.specs.Identities.{listed_user}
use Rattle.hub_rules.specs.Prepared.{prepared_line}
use Rattle.hub_rules.specs.Senders.{new_sender}
use Rattle.hub_rules.specs.Shares.{ConnState, affected_connection, changed_by_sender, waiting}
use Rattle.hub_rules.specs.Views.{HubView, SenderView}

-- what belongs to the hub
pub record Facts : Type 0 where
  -- how many joins were accepted; connection c is the c-th of them
  pub joins : ℕ
  -- the session identifier that was given last
  pub last : ℕ
  -- the connections that joined and did not quit, oldest first
  pub opened : List ℕ
  -- those of them whose users are present, in order of entry
  pub present : List ℕ
  pub bans : List (List ℕ × Ban)
  pub topic : List ℕ
  pub about : ℕ → ConnState

-- a connection that never joined
abbrev pub nobody : ConnState
nobody = record { owner = 0; sender = new_sender 0 [] []; stage = stages.Gone; fields = []; expected = []; owed = []; taken = 0; lags = false }

-- before the first call
abbrev pub start : Configured → Facts
start setup = record { joins = 0; last = 0; opened = []; present = []; bans = []; topic = setup.topic; about = λ c. nobody }

-- a connection that has just joined
abbrev pub newcomer : ℕ → ℕ → List ℕ → List ℕ → ConnState
newcomer owner sid peer challenge = record nobody { owner = owner; sender = new_sender sid peer challenge; stage = stages.Protocol }

-- ---- what a decision looks at

abbrev pub user_of : (ℕ → ConnState) → ℕ → Listed
user_of about c = listed_user (about c).sender.sid (about c).fields

abbrev pub sight_of : Configured → Facts → HubView
sight_of setup f = record { setup = setup; users = map (user_of f.about) f.present; bans = f.bans; topic = f.topic }

abbrev pub own_of : ConnState → SenderView
own_of a = record { sender = a.sender; stage = a.stage; fields = a.fields; expected = a.expected }

-- what a line of connection c leads to
abbrev pub effect_of_line : Configured → (List ℕ → List ℕ) → Facts → ℕ → List ℕ → ℕ → Effect
effect_of_line setup hash f c bytes now =
    line_effect (sight_of setup f) (own_of (f.about c)) (prepared_line setup hash (f.about c).sender.challenge bytes) now

-- ---- what an effect does

abbrev pub enters : Change → Bool
enters change = is_present (changed_by_sender true change nobody).stage

-- the connections after an effect of connection c
abbrev pub about_after : ℕ → Effect → (ℕ → ConnState) → ℕ → ConnState
about_after c effect about d = affected_connection (d == c) effect (about d)

-- those whose users are still present, and the one that enters
abbrev pub present_after : ℕ → Effect → (ℕ → ConnState) → List ℕ → List ℕ
present_after c effect about present =
    filter (λ d. is_present (about_after c effect about d).stage) present ++ (if enters effect.change then c ∷ [] else [])

abbrev pub bans_after : Change → List (List ℕ × Ban) → List (List ℕ × Ban)
bans_after (Hub (shared.Ban banned)) bans = with_ban bans banned.cid banned.ban
bans_after (Hub (shared.Unban cid)) bans = without_ban bans cid
bans_after change bans = bans

abbrev pub topic_after : Change → List ℕ → List ℕ
topic_after (Hub (shared.Topic topic)) before = topic
topic_after change before = before

unfoldable pub happens : ℕ → Effect → Facts → Facts
happens c effect f = record f {
  present = present_after c effect f.about f.present;
  bans = bans_after effect.change f.bans;
  topic = topic_after effect.change f.topic;
  about = about_after c effect f.about;
}

-- ---- calls

-- how many joins can be counted
abbrev pub max_joins : ℕ
max_joins = 18_446_744_073_709_551_615

-- a join is accepted where there is room, and joins can still be counted
abbrev pub has_place : Configured → Facts → Bool
has_place setup f = not (nat_le setup.plain.max_users (length f.opened))

abbrev pub has_joins : Facts → Bool
has_joins f = not (nat_le max_joins f.joins)

-- the first identifier after the last one that no open connection has
abbrev pub next_sid : Facts → ℕ
next_sid f = next_free f.last (map (λ c. (f.about c).sender.sid) f.opened)

-- one connection changes, and no other
abbrev pub with_one : ℕ → (ConnState → ConnState) → (ℕ → ConnState) → ℕ → ConnState
with_one c change about d = if d == c then change (about d) else about d

unfoldable pub with_connection : Facts → ℕ → List ℕ → List ℕ → Facts
with_connection f owner peer challenge = record f {
  joins = f.joins + 1;
  last = next_sid f;
  opened = f.opened ++ (f.joins + 1) ∷ [];
  about = with_one (f.joins + 1) (λ a. newcomer owner (next_sid f) peer challenge) f.about;
}

-- a connection that left
unfoldable pub without_connection : ℕ → Facts → Facts
without_connection c f = record f { opened = filter (λ d. not (d == c)) f.opened }

-- so many lines are taken
abbrev pub with_lines_taken : ℕ → ConnState → ConnState
with_lines_taken count a = record a { taken = a.taken + length (take count (waiting a)) }

-- the hub after one call more
unfoldable pub after : Configured → (List ℕ → List ℕ) → Facts → ℕ → Call → Facts
after setup hash f caller (Join peer challenge now) = if has_place setup f && has_joins f then with_connection f caller peer challenge else f
after setup hash f caller (Line c bytes now) = happens c (effect_of_line setup hash f c bytes now) f
after setup hash f caller (Quit c) = without_connection c (happens c (departure (f.about c).stage (f.about c).sender.sid) f)
after setup hash f caller (Take c count) = record f { about = with_one c (with_lines_taken count) f.about }

-- the hub after a history
unfoldable pub facts : Configured → (List ℕ → List ℕ) → List Entry → Facts
facts setup hash [] = start setup
facts setup hash (e ∷ h) = after setup hash (facts setup hash h) e.caller e.call
