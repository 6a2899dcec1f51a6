-- The seconds since 1970, as a clock tells them and as the calendar names them.
use Rattle.std.specs.Prelude.{◌≡◌, ℕ, ◌/◌, ◌%◌, ◌<◌, ◌≤◌, Option, Some, None, pos}
use Rattle.std.specs.Duration.{as_nanos}
use Rattle.std.specs.declared.time.Duration.{Duration}
use Rattle.jiff_core.specs.Date.{epoch_day}
use Rattle.jiff_core.specs.Time.{time_seconds}
use Rattle.hub_warnings.specs.declared.moment.Moment.{Moment}

-- the whole seconds of a reading; 0 where the clock could not be read
abbrev pub seconds_of : Option Duration → ℕ
seconds_of None = 0
seconds_of (Some time) = as_nanos time / 1_000_000_000

-- the seconds of a reading that this clock may give
abbrev pub ReadsSeconds : {C : Type 0} → (C → Option Duration → Type 0) → C → ℕ → Type 0
ReadsSeconds reads clock seconds = (reading : Option Duration) × reads clock reading × (seconds ≡ seconds_of reading)

-- the second of the calendar that begins so many seconds after 1970 did, and the same time of the last day of 9999 where it is later
pub record IsMomentAt (seconds : ℕ) (moment : Moment) : Type 0 where
  pub day : seconds / 86_400 < 2_932_897 → epoch_day moment.date ≡ pos (seconds / 86_400)
  pub late : 2_932_897 ≤ seconds / 86_400 → epoch_day moment.date ≡ pos 2_932_896
  pub time : time_seconds moment.time ≡ seconds % 86_400

-- the moment is one that this clock may tell
abbrev pub IsToldBy : {C : Type 0} → (C → Option Duration → Type 0) → C → Moment → Type 0
IsToldBy reads clock moment = (seconds : ℕ) × ReadsSeconds reads clock seconds × IsMomentAt seconds moment
