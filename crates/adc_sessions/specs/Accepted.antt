-- Facts of accepting as a whole, from its beginning to its end.
use Rattle.std.specs.Prelude.{◌≡◌, ◌≤◌, ℕ, List, flat_map, Option, Some, IfSome}
use Rattle.adc_sessions.specs.declared.accept.AcceptEnd.{AcceptEnd}
use Rattle.adc_sessions.specs.declared.accept.AcceptEnd.TheVariants.{Stopped, AcceptFailed}
use Rattle.adc_sessions.specs.declared.incoming.Peer.{Peer}
use Rattle.adc_sessions.specs.Arrivals.{Arrival, Brings, who_came, streams, EndsInFaults}

-- why no more streams are accepted
abbrev pub AcceptCause : {S : Type 0} → AcceptEnd → Option ℕ → List (Arrival S) → Type 0
AcceptCause Stopped stop_after arrivals = stop_after ≡ Some (streams arrivals)
AcceptCause AcceptFailed stop_after arrivals = EndsInFaults arrivals

-- what accepting from this source for this starter, at most so many streams where a number is set, comes to
pub record Accepted {I T S : Type 0} (brings : I → Arrival S → I → Type 0) (starts : T → List (S × Peer) → T → Type 0) (incoming : I) (starter : T) (stop_after : Option ℕ) (end : AcceptEnd) : Type 0 where
  pub arrivals : List (Arrival S)
  pub incoming' : I
  pub starter' : T
  -- all calls of the source, in order
  pub brought : Brings brings incoming arrivals incoming'
  -- the streams that came were started in their order, each with its peer
  pub started : starts starter (flat_map who_came arrivals) starter'
  pub few : IfSome stop_after (λ most. streams arrivals ≤ most)
  pub cause : AcceptCause end stop_after arrivals
