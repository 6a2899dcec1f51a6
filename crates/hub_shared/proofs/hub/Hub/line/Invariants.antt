use Rattle.hub_core.specs.Moves.{entry}
use Rattle.hub_rules.specs.declared.history.Call.TheVariants.{Line}
use Rattle.hub_rules.specs.declared.history.Reply.TheVariants.{Said}
use Rattle.hub_shared.proofs.hub.Hub.line.Given as goal

abbrev pub ghosts-enter : goal.ghosts-enter
ghosts-enter g a = record { entry = entry a.seat.now.number (Line a.note.now.0 a.note.now.1.value.bytes a.note.now.2) (Said a.note.now.3) }
