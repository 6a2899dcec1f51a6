-- The places in which connections wait for the tasks of their slots.
use Rattle.std.specs.Prelude.{◌≡◌, ◌≢◌, ℕ, Bool, true, false, List, Option, Some, None, length, slice_get}
use Rattle.std.specs.List.{filter_map}
use Rattle.futures.specs.declared.task.Poll.{Poll}
use Rattle.futures.specs.declared.task.Poll.TheVariants.{Ready, Pending}
use Rattle.server_tasks.specs.declared.places.Place.{Place}

-- what the task of a slot is given, for which this was left, if somebody may come still or nobody comes any more
abbrev pub next_of : {T : Type 0} → Option T → Bool → Poll (Option T)
next_of (Some arrival) is_closed = Ready (Some arrival)
next_of None true = Ready None
next_of None false = Pending

-- the place has this connection, and its task was woken
abbrev pub has_left : {T : Type 0} → T → Place T
has_left arrival = record { arrival = Some arrival; waker = None }

-- the connections that are left in these places, from the first place to the last
abbrev pub arrivals_in : {T : Type 0} → List (Place T) → List T
arrivals_in places = filter_map (λ place. place.arrival) places

-- the place as it is once its task was woken
abbrev pub awake : {T : Type 0} → Place T → Place T
awake place = record place { waker = None }

-- all places but one, if any, are as they were
abbrev pub OthersStayLeft : {T : Type 0} → List (Place T) → List (Place T) → ℕ → Type 0
OthersStayLeft old new slot = (length new ≡ length old) × ((other : ℕ) → other ≢ slot → slice_get new other ≡ slice_get old other)
