-- The state of a hub, the state after an effect, and when it stands at a history.
use Rattle.std.specs.Prelude.{◌≡◌, ℕ, ◌==◌, Bool, true, List, [], ◌∷◌, ◌++◌, map, position, Some, if◌then◌else◌}
use Rattle.std.specs.List.{list_any}
use Rattle.user_table.specs.Changes.{given_key}
use Rattle.user_table.specs.Listed.{Listed}
use Rattle.user_table.specs.Tables.{with_update, without_sid}
use Rattle.hub_core.specs.declared.seat.Phase.{Phase}
use Rattle.hub_core.specs.declared.seat.Seat.{Seat}
use Rattle.hub_core.specs.declared.share.Touched.TheVariants.{Nobody}
use Rattle.hub_core.specs.CoreState.{CoreState, noted}
use Rattle.hub_core.specs.Phases.{users_awaited}
use Rattle.hub_core.specs.Seats.{at_seat, changed_seat, phase_in, seat_after_change_at, seat_of, seat_share, sid_in}
use Rattle.hub_core.specs.Backlogs.{backlog_of, given_each}
use Rattle.hub_rules.specs.declared.effect.Change.{Change}
use Rattle.hub_rules.specs.declared.effect.Change.TheVariants.{Hub, Sender}
use Rattle.hub_rules.specs.declared.effect.Effect.{Effect}
use Rattle.hub_rules.specs.declared.effect.HubChange.TheVariants as shared
use Rattle.hub_rules.specs.declared.effect.SenderChange.TheVariants as senders
use Rattle.hub_rules.specs.declared.history.Entry.{Entry}
use Rattle.hub_rules.specs.Configured.{Configured}
use Rattle.hub_rules.specs.Facts.{Facts, bans_after, facts, topic_after, user_of}
use Rattle.hub_rules.specs.Senders.{is_removal}
use Rattle.hub_rules.specs.Shares.{change_at}

-- what is kept of a hub, with no hint
abbrev pub core_of : Configured → Facts → CoreState
core_of setup f = record {
  setup = setup;
  joins = f.joins;
  last = f.last;
  seats = map (seat_of f.about) f.opened;
  backlogs = map (λ c. backlog_of (f.about c)) f.opened;
  users = map (user_of f.about) f.present;
  bans = f.bans;
  topic = f.topic;
  touched = Nobody;
}

-- the hub is as the history has made it, whatever its hint
unfoldable pub Stands : Configured → (List ℕ → List ℕ) → List Entry → CoreState → Type 0
Stands setup hash h core = noted Nobody core ≡ core_of setup (facts setup hash h)

-- a connection has a seat
abbrev pub has_seat : ℕ → List Seat → Bool
has_seat c seats = list_any (λ (seat : Seat). seat.number == c) seats

abbrev pub HasSeat : ℕ → List Seat → Type 0
HasSeat c seats = has_seat c seats ≡ true

-- it stands at this place
abbrev pub IsPlace : ℕ → ℕ → List Seat → Type 0
IsPlace c place seats = position (λ (seat : Seat). seat.number == c) seats ≡ Some place

abbrev pub IsSeated : ℕ → CoreState → Type 0
IsSeated c core = HasSeat c core.seats

-- ---- what an effect makes of the users who are present

-- the line is of the connection with this session identifier, which has come this far
abbrev pub users_after : Change → ℕ → Phase → List Listed → List Listed
users_after (Sender senders.Enters) sid phase users = users ++ users_awaited phase
users_after (Sender (senders.EntersAs newcomer)) sid phase users = users ++ newcomer.user ∷ []
users_after (Sender (senders.Updates revision)) sid phase users = with_update sid revision.update (given_key revision.nick) users
users_after (Sender senders.Falls) sid phase users = without_sid sid users
users_after (Hub (shared.At target change)) sid phase users = if is_removal change then without_sid target users else users
users_after (Hub (shared.Ban banned)) sid phase users = without_sid banned.sid users
users_after change sid phase users = users

-- ---- what an effect of connection c makes of a hub

unfoldable pub carried_out : ℕ → Effect → CoreState → CoreState
carried_out c effect core = record core {
  seats = map (seat_after_change_at (change_at effect.change)) (at_seat c (changed_seat effect.change) core.seats);
  backlogs = given_each (map (seat_share c effect) core.seats) core.backlogs;
  users = users_after effect.change (sid_in c core.seats) (phase_in c core.seats) core.users;
  bans = bans_after effect.change core.bans;
  topic = topic_after effect.change core.topic;
}
