-- When a listener rests, and until when.
use Rattle.std.specs.Prelude.{◌≡◌, ◌≢◌, ◌+◌, ◌⊎◌, Bool, true, false, Option, Some, None, IsSome, MatchOption}
use Rattle.std.specs.IoError.{error_kind, raw_os_error}
use Rattle.std.specs.Time.{instant_nanos, FitsClock}
use Rattle.std.specs.declared.time.Instant.{Instant}
use Rattle.std.specs.declared.io.Error.{Error}
use Rattle.std.specs.declared.io.ErrorKind.TheVariants.{OutOfMemory}
use Rattle.futures.specs.declared.task.context.Context.{Context}
use Rattle.server_tasks.specs.Faults.{error_by}
use Rattle.server_tasks.specs.declared.accept_error.AcceptError.{AcceptError}
use Rattle.server_tasks.specs.declared.accept_error.AcceptError.TheVariants as faults
use Rattle.tokio.specs.Timers.{sleep_deadline}
use Rattle.hub_listener.specs.declared.listener.Listener.{Listener}
use Rattle.hub_listener.specs.Rest.{is_on}
use Rattle.hub_listener.specs.declared.rest.Rest.TheVariants.{Never}

-- the end of a rest that begins at this reading of a clock: 100 ms later, and none if there is no such time or no reading
abbrev pub EndOfRest : Option Instant → Option Instant → Type 0
EndOfRest None until = until ≡ None
EndOfRest (Some now) None = FitsClock (instant_nanos now + 100_000_000) → ⊥
EndOfRest (Some now) (Some until) = instant_nanos until ≡ instant_nanos now + 100_000_000

-- the fault that this error is
abbrev pub IsAcceptFault : Error → AcceptError → Type 0
IsAcceptFault error fault =
    (error_kind error ≡ OutOfMemory → fault ≡ faults.Memory) × (error_kind error ≢ OutOfMemory → fault ≡ error_by (raw_os_error error))

module _ {R L I : Type 0} where
  abbrev pub rests : Listener R L I → Bool
  rests listener = is_on listener.rest

  -- a rest began, which goes on or has ended
  abbrev pub HasBegun : Listener R L I → Type 0
  HasBegun listener = listener.rest ≢ Never

  abbrev pub socket_of : Listener R L I → I
  socket_of listener = listener.socket

  -- it rests until then
  abbrev pub RestsUntil : Listener R L I → Instant → Type 0
  RestsUntil listener until = (rests listener ≡ true) × (sleep_deadline listener.timer ≡ until)

  -- it was asked to rest, and rests from a time that its clock may tell, or answers that there is no such time
  abbrev pub Rests : (R → Option Instant → Type 0) → Listener R L I → Bool → Listener R L I → Type 0
  Rests ticks before result after =
      (now : Option Instant) × (until : Option Instant) × ticks before.rt.now now × EndOfRest now until
      × MatchOption until (result ≡ false) (λ time. (result ≡ true) × RestsUntil after time)

  -- what it does after a fault: it answers whether its socket may be asked again
  abbrev pub GoesOn : (R → Option Instant → Type 0) → Listener R L I → AcceptError → Bool → Listener R L I → Type 0
  GoesOn ticks before faults.Memory result after = Rests ticks before result after
  GoesOn ticks before faults.Room result after = Rests ticks before result after
  GoesOn ticks before faults.Gone result after = (result ≡ true) × (after ≡ before)
  GoesOn ticks before faults.Listener result after = (result ≡ false) × (after ≡ before)

  -- who waits for a connection is woken by a call for help: it has left its waker for one, unless it rests or is polled again at once
  abbrev pub MayBeCalled : Context → Listener R L I → Type 0
  MayBeCalled cx listener = (rests listener ≡ true) ⊎ ((cx.is_woken ≡ true) ⊎ IsSome listener.offer)
