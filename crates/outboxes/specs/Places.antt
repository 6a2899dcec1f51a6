-- Which line each place of an outbox stands for.
use Rattle.std.specs.Prelude.{ℕ, List}
use Rattle.outboxes.specs.declared.outbox.Place.{Place}
use Rattle.outboxes.specs.declared.outbox.Place.TheVariants.{Line, Quit}
use Rattle.outboxes.specs.Quits.{quit_line}

abbrev pub line_of : Place → List ℕ
line_of (Line line) = line.value
line_of (Quit sid) = quit_line sid
