-- What is given for the effect of a line, and what waits then.
use Rattle.std.specs.Prelude.{◌≡◌, ◌≢◌, ◌<◌, ◌+◌, ℕ, Bool, true, false, List, [], ◌∷◌, get_or, length, map, Option, Some, None}
use Rattle.std.specs.List.{All}
use Rattle.hub_core.specs.declared.delivery.Delivery.{Delivery}
use Rattle.hub_core.specs.declared.delivery.Delivery.TheVariants.{All as ToAll, Each}
use Rattle.hub_core.specs.declared.seat.Phase.{Phase}
use Rattle.hub_core.specs.declared.seat.Seat.{Seat}
use Rattle.hub_core.specs.declared.share.Share.{Share}
use Rattle.hub_core.specs.Owed.{shares_from}
use Rattle.hub_core.specs.Phases.{phase_hears, stage_in}
use Rattle.hub_core.specs.Seats.{seat_share}
use Rattle.hub_core.specs.Backlogs.{given_backlog}
use Rattle.hub_rules.specs.declared.effect.Effect.{Effect}
use Rattle.hub_rules.specs.declared.effect.Hearers.{Hearers}
use Rattle.hub_rules.specs.declared.sender.SeatChange.{SeatChange}
use Rattle.hub_rules.specs.Effects.{is_present}
use Rattle.hub_rules.specs.Shares.{change_at}
use Rattle.shared_log.specs.Tables.{Row, Table, IsSettled, at_place, told, with_membership}

-- the user whose connection an operator changes
abbrev pub named_in : Delivery → Option (ℕ × SeatChange)
named_in (ToAll others own) = None
named_in (Each shares named) = named

-- whoever is present hears what is said for others
abbrev pub AreAll : Hearers → Type 0
AreAll hearers = (phase : Phase) (sid : ℕ) → phase_hears phase false hearers sid ≡ is_present (stage_in phase)

-- lines for all, and no operator changes a connection
pub record IsForAll (effect : Effect) : Type 0 where
  pub some : effect.others ≢ []
  pub all : AreAll effect.hearers
  pub unnamed : change_at effect.change ≡ None

-- what an effect of connection c gives, whose seat stands at this place
abbrev pub IsDelivery : Delivery → ℕ → ℕ → Effect → List Seat → Type 0
IsDelivery (ToAll others own) place c effect seats =
    (others ≡ effect.others) × ((d : Seat) → own ≡ seat_share c effect (get_or seats place d)) × IsForAll effect
IsDelivery (Each shares named) place c effect seats = (shares.items ≡ shares_from 0 (seat_share c effect) seats) × (named ≡ change_at effect.change)

-- ---- what waits then

abbrev pub row_given : List (List ℕ) → Row → Row
row_given lines row = record row { backlog = given_backlog lines row.backlog }

-- the members hear lines but the sender, which hears its own and is no member then
abbrev pub given_to_all : List (List ℕ) → List (List ℕ) → ℕ → List Row → List Row
given_to_all others own place rows = at_place place (row_given own) (map (told others) (at_place place (with_membership false) rows))

-- each share goes to its connection
unfoldable pub given_all : List Share → List Row → List Row
given_all [] rows = rows
given_all (share ∷ shares) rows = given_all shares (at_place share.place (row_given share.lines) rows)

-- from this place on these are members
unfoldable pub with_members : ℕ → List Bool → List Row → List Row
with_members place [] rows = rows
with_members place (here ∷ more) rows = with_members (place + 1) more (at_place place (with_membership here) rows)

-- and then those are members who are present
abbrev pub delivered : Delivery → ℕ → List Bool → List Row → List Row
delivered (ToAll others own) place here rows = at_place place (with_membership (get_or here place false)) (given_to_all others own place rows)
delivered (Each shares None) place here rows = at_place place (with_membership (get_or here place false)) (given_all shares.items rows)
delivered (Each shares (Some named)) place here rows = with_members 0 here (given_all shares.items rows)

-- ---- room

-- the same waits for the same members
pub record WaitsAs (old new : Table) : Type 0 where
  pub rows : new.rows ≡ old.rows
  pub cap : new.cap ≡ old.cap
  pub bytes : new.bytes ≡ old.bytes

abbrev pub AreSettled : Table → Type 0
AreSettled table = (place : ℕ) → place < length table.rows → IsSettled place table

abbrev pub HaveRoom : List Share → Table → Type 0
HaveRoom shares table = All (λ (share : Share). share.place < length table.rows → IsSettled share.place table) shares

-- a delivery can be given without memory
abbrev pub AreReady : Delivery → ℕ → Table → Type 0
AreReady (ToAll others own) place table = (table.is_ready ≡ true) × IsSettled place table
AreReady (Each shares None) place table = HaveRoom shares.items table × IsSettled place table
AreReady (Each shares (Some named)) place table = HaveRoom shares.items table × AreSettled table
