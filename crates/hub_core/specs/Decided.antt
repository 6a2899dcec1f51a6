-- The decision on a line, by the seat of the connection that sent it.
use Rattle.std.specs.Prelude.{◌≡◌, ◌≤◌, ℕ, List, [], Option, Some, None}
use Rattle.std.specs.Option.{option_map, unwrap_or}
use Rattle.user_table.specs.Listed.{Listed}
use Rattle.user_table.specs.Tables.{user_by_sid}
use Rattle.hub_core.specs.declared.seat.Phase.{Phase}
use Rattle.hub_core.specs.declared.seat.Phase.TheVariants as phases
use Rattle.hub_core.specs.declared.seat.Seat.{Seat}
use Rattle.hub_core.specs.declared.share.Touched.{Touched}
use Rattle.hub_core.specs.CoreState.{CoreState, noted}
use Rattle.hub_core.specs.Phases.{stage_in}
use Rattle.hub_core.specs.Seats.{in_seat, sid_in}
use Rattle.hub_core.specs.State.{carried_out}
use Rattle.hub_core.specs.TouchedSids.{NamesEffect}
use Rattle.hub_decisions.specs.Known.{IsKnown}
use Rattle.hub_rules.specs.declared.effect.Effect.{Effect}
use Rattle.hub_rules.specs.Effects.{line_effect}
use Rattle.hub_rules.specs.Views.{SenderView, PreparedLine, HubView}
use Rattle.hub_rules.specs.Configured.{most_users}

-- the hub
abbrev pub sight_in : CoreState → HubView
sight_in core = record { setup = core.setup; users = core.users; bans = core.bans; topic = core.topic }

-- the user of a connection at this phase, where it has one
abbrev pub user_at : Phase → ℕ → List Listed → Option Listed
user_at (phases.Verify newcomer expected) sid users = Some newcomer.user
user_at (phases.Normal support) sid users = user_by_sid sid users
user_at phase sid users = None

-- the digest that its password must give
abbrev pub expected_at : Phase → List ℕ
expected_at (phases.Verify newcomer expected) = expected
expected_at phase = []

-- the connection of a seat
abbrev pub own_at : Seat → Option Listed → SenderView
own_at seat user = record {
  sender = seat.sender;
  stage = stage_in seat.phase;
  fields = unwrap_or (option_map (λ (u : Listed). u.fields) user) [];
  expected = expected_at seat.phase;
}

abbrev pub DecidedFor : Option Listed → HubView → Seat → PreparedLine → ℕ → Effect → Type 0
DecidedFor user hub seat line now effect = IsKnown (own_at seat user) user → effect ≡ line_effect hub (own_at seat user) line now

-- of a user who is known by what its fields say, it is what the rules say that the line leads to
abbrev pub Decided : HubView → Seat → PreparedLine → ℕ → Effect → Type 0
Decided hub seat line now effect = DecidedFor (user_at seat.phase seat.sender.sid hub.users) hub seat line now effect

-- so it was decided at the seat of connection c
pub record IsDecided (c : ℕ) (line : PreparedLine) (now : ℕ) (core : CoreState) (effect : Effect) : Type 0 where
  pub seat : Seat
  pub is_seat : seat ≡ in_seat c (λ s. s) seat core.seats
  pub decided : Decided (sight_in core) seat line now effect

-- a line was handled: what was decided was carried out, and whom it concerns is named
pub record IsHandled (c : ℕ) (line : PreparedLine) (now : ℕ) (old new : CoreState) : Type 0 where
  pub effect : Effect
  pub decided : IsDecided c line now old effect
  pub touched : Touched
  pub carried : new ≡ noted touched (carried_out c effect old)
  pub named : NamesEffect touched (sid_in c old.seats) effect
  pub few : old.setup.plain.max_users ≤ most_users
