use Rattle.hub_core.specs.Moves.{entry}
use Rattle.hub_rules.specs.declared.history.Call.TheVariants.{Quit}
use Rattle.hub_rules.specs.declared.history.Reply.TheVariants.{Left}
use Rattle.hub_shared.proofs.hub.Hub.quit.Given as goal

abbrev pub ghosts-enter : goal.ghosts-enter
ghosts-enter g a = record { entry = entry a.seat.now.number (Quit a.note.now) Left }
