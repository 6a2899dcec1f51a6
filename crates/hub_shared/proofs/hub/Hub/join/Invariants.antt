use Rattle.hub_core.specs.Moves.{entry}
use Rattle.hub_rules.specs.declared.history.Call.TheVariants.{Join}
use Rattle.hub_shared.proofs.JoinCounts.{join_answer}
use Rattle.hub_shared.proofs.hub.Hub.join.Given as goal

abbrev pub ghosts-enter : goal.ghosts-enter
ghosts-enter g a = record { entry = entry a.seat.now.number (Join a.note.now.0 a.note.now.1 a.note.now.2) (join_answer a.note.now.3) }
