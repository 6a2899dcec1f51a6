-- Whom a call of the hub concerned, and the receipts of those who were woken since.
use Rattle.std.specs.Prelude.{◌≡◌, ◌⊎◌, ℕ, Bool, true, false, Option, IsSomeAnd, Result, IfOk, ⊤}
use Rattle.futures.specs.declared.spin.GaveUp.{GaveUp}
use Rattle.adc_sessions.specs.Acts.{BellCall, heard, asked, noted}
use Rattle.adc_sessions.specs.Events.{PortCall, handed, took, refused}
use Rattle.server_tasks.specs.declared.amount.Amount.{Amount}
use Rattle.server_tasks.specs.declared.slots.SlotEvent.{SlotEvent}
use Rattle.server_tasks.specs.declared.slots.SlotEvent.TheVariants.{WokeOne, WokeEverybody, Looked, Wrote}
use Rattle.server_tasks.specs.GivingWay.{IsAnswered}
use Rattle.server_tasks.specs.declared.permission.Permission.{Permission}
use Rattle.hub_core.specs.declared.share.Touched.{Touched}
use Rattle.hub_core.specs.declared.share.Touched.TheVariants as touches
use Rattle.hub_connections.specs.declared.waking.Woken.{Woken}
use Rattle.hub_connections.specs.declared.waking.Woken.TheVariants as woken

-- a receipt has this deed, or the lock was given up
abbrev pub Receives : {A : Type 0} → Result A GaveUp → (A → Type 0) → Type 0
Receives receipt P = IfOk receipt P

-- everybody was woken but the session of this slot, which gave them lines in this second
abbrev pub WakesAll : ℕ → ℕ → SlotEvent → Type 0
WakesAll slot second deed = (given : Amount) × (deed ≡ WokeEverybody slot given second)

-- those whom a call concerned were woken, as the session of this slot had given each a line of so many bytes in this second
abbrev pub AreWoken : Touched → ℕ → ℕ → ℕ → Woken → Type 0
AreWoken touches.Nobody slot bytes second it = ⊤
AreWoken (touches.One sid) slot bytes second it = (receipt : Result SlotEvent GaveUp) × (it ≡ woken.One receipt) × Receives receipt (λ deed. deed ≡ WokeOne sid slot bytes second)
AreWoken (touches.Two one other) slot bytes second it =
    (receipts : Result (SlotEvent × SlotEvent) GaveUp) × (it ≡ woken.Two receipts)
    × Receives receipts (λ deeds. (deeds.0 ≡ WokeOne one slot bytes second) × (deeds.1 ≡ WokeOne other slot bytes second))
AreWoken touches.Everybody slot bytes second it = (receipt : Result SlotEvent GaveUp) × (it ≡ woken.Everybody receipt) × Receives receipt (WakesAll slot second)

-- they were woken, or they are everybody and that is owed
abbrev pub AreWokenOrOwed : Touched → ℕ → Woken → Bool → Type 0
AreWokenOrOwed touched slot it owes = ((touched ≡ touches.Everybody) × (owes ≡ true)) ⊎ ((bytes second : ℕ) × AreWoken touched slot bytes second it)

-- everybody was woken but the session of this slot
abbrev pub HasRung : ℕ → Option (Result SlotEvent GaveUp) → Type 0
HasRung slot rung = IsSomeAnd rung (λ receipt. Receives receipt (λ deed. (second : ℕ) × WakesAll slot second deed))

-- where a wake of everybody was owed, it is owed still, or everybody was woken
abbrev pub OwesOn : Bool → Bool → ℕ → Option (Result SlotEvent GaveUp) → Type 0
OwesOn before after slot rung = before ≡ true → (after ≡ true) ⊎ HasRung slot rung

-- What a call of the port does for those whom it concerns: they are woken, at the latest by the next take. `before` and `after` say whether a wake of
-- everybody was owed before the call and after it.
abbrev pub Wakes : PortCall → Touched → ℕ → Bool → Bool → Woken → Option (Result SlotEvent GaveUp) → Type 0
Wakes (handed line verdict) touched slot before after it rung = AreWokenOrOwed touched slot it after × OwesOn before after slot rung
Wakes (took count bytes taken) touched slot before after it rung = (after ≡ false) × OwesOn before after slot rung
Wakes refused touched slot before after it rung = OwesOn before after slot rung

-- What the bell of this slot has of a call: the receipt of having looked whether this slot was woken, the permission that this slot was given, or the
-- receipt of having counted what a socket took that had been full.
abbrev pub HearsBy : BellCall → ℕ → Option (Result SlotEvent GaveUp) → Option Permission → Option (Result SlotEvent GaveUp) → Type 0
HearsBy (heard was) slot looked permission written = IsSomeAnd looked (λ receipt. Receives receipt (λ deed. deed ≡ Looked slot was))
HearsBy (asked bytes may) slot looked permission written = IsSomeAnd permission (λ given. (on_the_way : Bool) × IsAnswered given slot bytes on_the_way may)
HearsBy (noted bytes was_full) slot looked permission written =
    was_full ≡ true → IsSomeAnd written (λ receipt. Receives receipt (λ deed. deed ≡ Wrote slot bytes))
