-- For how long a socket is held whose session is over, and which goes where too many are held.
use Rattle.std.specs.Prelude.{◌≡◌, ◌≢◌, ℕ, ◌+◌, ◌*◌, ◌-◌, ◌==◌, Bool, ◌&&◌, ◌||◌, true, false, nat_le, IsTrue, List, Option, Some, None, IsSomeAnd, Result, Ok, Err, slice_get, option_map, option_and_then, if◌then◌else◌}
use Rattle.std.specs.Time.{instant_nanos}
use Rattle.std.specs.declared.time.Instant.{Instant}
use Rattle.futures.specs.declared.task.Poll.{Poll}
use Rattle.futures.specs.declared.task.Poll.TheVariants.{Ready, Pending}
use Rattle.server_tasks.specs.declared.held.Kept.{Kept}
use Rattle.server_tasks.specs.declared.lingering_socket.LingeringSocket.{LingeringSocket}
use Rattle.server_tasks.specs.declared.lingering_socket.NextStep.{NextStep}
use Rattle.server_tasks.specs.declared.lingering_socket.NextStep.TheVariants.{Over, Rest, Again}

-- the moment is now, or was before
abbrev pub is_past : Instant → Instant → Bool
is_past moment now = nat_le (instant_nanos moment) (instant_nanos now)

-- it is held no longer: until the later moment, or at the end until the sooner one
abbrev pub is_due : Instant → Instant → Instant → Bool → Bool
is_due soon until now is_end = is_past until now || (is_end && is_past soon now)

-- What follows a read, if so many bytes are dropped at most. It is over if the client has closed, or sends too much.
abbrev pub next_by : {E : Type 0} → Poll (Result ℕ E) → ℕ → NextStep
next_by Pending left = Rest
next_by (Ready (Err fault)) left = Over
next_by (Ready (Ok count)) left = if count == 0 then Over else if nat_le count left then Again (left - count) else Over

-- after this the socket is held no longer
abbrev pub is_over : NextStep → Bool
is_over Over = true
is_over Rest = false
is_over (Again left) = false

-- the moment at which the socket of this place is closed at last
abbrev pub until_at : {S : Type 0} → List (Option (LingeringSocket S)) → ℕ → Option Instant
until_at places place = option_and_then (λ held. option_map (λ socket. socket.until) held) (slice_get places place)

-- the first is closed no later than the second, if there is a second
abbrev pub is_no_later : Option Instant → Option Instant → Bool
is_no_later one None = true
is_no_later None (Some other) = false
is_no_later (Some one) (Some other) = is_past one other

-- of those that are held, the one of this place is closed first
abbrev pub IsOldest : {S : Type 0} → List (Option (LingeringSocket S)) → ℕ → Type 0
IsOldest places place = (other : ℕ) → IsTrue (is_no_later (until_at places place) (until_at places other))

-- the place is free, or none is and the oldest of all is held there
abbrev pub IsToGo : {S : Type 0} → List (Option (LingeringSocket S)) → ℕ → Type 0
IsToGo places place =
    ((other : ℕ) → slice_get places other ≡ Some None → slice_get places place ≡ Some None)
    × (slice_get places place ≢ Some None → IsOldest places place)

-- a socket that is held still is not due, and is due when it was
abbrev pub IsHeldOn : {S : Type 0} → Instant → Bool → Option (LingeringSocket S) → Option (LingeringSocket S) → Type 0
IsHeldOn now is_end was held =
    (socket : LingeringSocket _) → held ≡ Some socket →
    (is_due socket.soon socket.until now is_end ≡ false)
    × IsSomeAnd was (λ before. (socket.soon ≡ before.soon) × (socket.until ≡ before.until))

-- from some moment on a socket is held for so many seconds at most, at the end and at last
abbrev pub IsKeptFor : ℕ → ℕ → Kept → Type 0
IsKeptFor at_end longest kept =
    (now : Instant)
    × (instant_nanos kept.soon ≡ instant_nanos now + at_end * 1_000_000_000)
    × (instant_nanos kept.until ≡ instant_nanos now + longest * 1_000_000_000)
