use Rattle.std.proofs.Common.{◌≡◌}
use Rattle.tests_hub.proofs.shared.chatting.chats.Given as goal

abbrev pub invariant-loop-number : goal.invariant-loop-number
invariant-loop-number g l = l.guest.pass.home ≡ l.hall.hub.home
