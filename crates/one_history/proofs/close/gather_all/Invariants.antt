use Rattle.std.proofs.Common.{◌≡◌, ◌+◌, ◌++◌, length, map, vec_len}
use Rattle.std.specs.List.{All}
use Rattle.one_history.specs.States.{caller_of, IsIdleAt}
use Rattle.one_history.proofs.close.gather_all.Given as goal

abbrev pub invariant-loop-seat : goal.invariant-loop-seat
invariant-loop-seat g l = record {
  others : l.host ≡ record l.fn.host { gathered = l.host.gathered };
  all : map (λ s. caller_of (g.S.Seated.seat s)) l.fn.seats.items ++ l.fn.host.gathered ≡ map (λ s. caller_of (g.S.Seated.seat s)) l.seats.items ++ l.host.gathered;
  room : length l.host.gathered + vec_len l.seats ≡ length l.fn.host.gathered + length l.fn.seats.items;
  left : All (λ s. IsIdleAt l.lock (g.S.Seated.seat s)) l.seats.items;
}

abbrev pub decreases-loop-seat : goal.decreases-loop-seat
decreases-loop-seat g l = vec_len l.seats
