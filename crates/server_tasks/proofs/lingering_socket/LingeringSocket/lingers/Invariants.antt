use Rattle.std.proofs.Common.{◌≡◌, ◌≤◌, true, false}
use Rattle.futures.specs.Task.{Keeps}
use Rattle.server_tasks.proofs.lingering_socket.LingeringSocket.lingers.Given as goal

abbrev pub invariant-loop-read : goal.invariant-loop-read
invariant-loop-read g l =
    Keeps l.fn.cx l.cx × (l.self.soon ≡ l.fn.self.soon) × (l.self.until ≡ l.fn.self.until) × (l.self.left ≤ l.fn.self.left) × (l.self.is_shut ≡ true) × (l.self.is_over ≡ false)
