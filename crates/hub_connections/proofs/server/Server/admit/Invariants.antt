use Rattle.std.proofs.Common.{◌≡◌, ◌≤◌}
use Rattle.hub_connections.proofs.server.Server.admit.Given as goal

abbrev pub invariant-loop-slot : goal.invariant-loop-slot
invariant-loop-slot g l = (l.host ≡ record { home = l.self.hub.now.home; admitted = l.slot }) × (l.count ≤ 65_536)
