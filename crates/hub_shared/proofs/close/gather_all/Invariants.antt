use Rattle.std.proofs.Common.{◌≡◌, ◌<◌, ◌^◌, ◌+◌, ◌++◌, length, vec_len}
use Rattle.std.specs.List.{All}
use Rattle.one_history.specs.States.{callers_of, home_of}
use Rattle.hub_shared.specs.Callers.{seat_of}
use Rattle.hub_shared.specs.Close.{HasQuit}
use Rattle.hub_shared.proofs.close.gather_all.Given as goal

abbrev pub invariant-loop-visitor : goal.invariant-loop-visitor
invariant-loop-visitor g l = record {
  others : l.host ≡ record l.fn.host { gathered = l.host.gathered };
  all : callers_of seat_of l.fn.visitors.items ≡ callers_of seat_of l.visitors.items ++ l.host.gathered;
  room : length l.host.gathered + vec_len l.visitors < 2 ^ 64;
  left : All (λ v. v.home ≡ home_of l.lock) l.visitors.items;
  quit : All (λ g. HasQuit g.mine) l.host.gathered;
}

abbrev pub decreases-loop-visitor : goal.decreases-loop-visitor
decreases-loop-visitor g l = vec_len l.visitors
