use Rattle.std.proofs.Common.{◌≡◌, ◌≤◌, ◌+◌, Some, vec_len, vec_capacity}
use Rattle.std.specs.List.{All}
use Rattle.hub_connections.specs.NamedHub.{home_in}
use Rattle.hub_connections.specs.Visits.{HasVisited}
use Rattle.adc_sessions.specs.Events.{StreamStep}
use Rattle.hub_connections.proofs.all_free.leave.Given as goal

abbrev pub invariant-loop-visitor : goal.invariant-loop-visitor
invariant-loop-visitor g l =
    ((home : _) → home_in g.B.OfHub.hub ≡ Some home → All (λ v. v.home ≡ home) l.visitors.items)
    × All (λ v. HasVisited (StreamStep g.S.AsyncRead.reads g.S.AsyncRead.is_at_end g.S.AsyncRead.fails g.S.AsyncWrite.writes g.S.AsyncWrite.is_full g.S.AsyncWrite.fails) g.B.OfHub.may_read g.B.OfHub.arrives v) l.visitors.items
    × (vec_len l.fn.free.free + vec_len l.fn.visitors ≤ vec_capacity l.fn.visitors
    → (vec_len l.free.free + vec_len l.visitors ≡ vec_len l.fn.free.free + vec_len l.fn.visitors) × (vec_capacity l.fn.visitors ≤ vec_capacity l.visitors))

-- one less is left at each turn
abbrev pub decreases-loop-visitor : goal.decreases-loop-visitor
decreases-loop-visitor g l = vec_len l.free.free
