-- The handles of a batch's lines, in order.
use Rattle.std.specs.Prelude.{List, [], ◌∷◌}
use Rattle.std.specs.Global.{Global}
use Rattle.std.specs.declared.sync.Arc.{Arc}
use Rattle.bytes.specs.declared.shared.Bytes.{Bytes}
use Rattle.outboxes.specs.declared.batch.Lines.{Lines}
use Rattle.outboxes.specs.declared.batch.Lines.TheVariants.{Nothing, One, Many}

abbrev pub handles : Lines → List (Arc (Bytes Global) Global)
handles Nothing = []
handles (One line) = line ∷ []
handles (Many lines) = lines.value.items
