use Rattle.hub_core.specs.Moves.{entry}
use Rattle.hub_rules.specs.declared.history.Call.TheVariants.{Take}
use Rattle.hub_rules.specs.declared.history.Reply.TheVariants.{Took}
use Rattle.hub_shared.specs.Calls.{behind}
use Rattle.hub_shared.proofs.hub.Hub.take.Given as goal

abbrev pub ghosts-enter : goal.ghosts-enter
ghosts-enter g a = record {
  entry =
      entry a.seat.now.number (Take a.note.now.0 a.note.now.1) (Took (behind a.note.now.2.value.items a.note.now.3.value.items) a.note.now.4.lines a.note.now.4.ended);
}
