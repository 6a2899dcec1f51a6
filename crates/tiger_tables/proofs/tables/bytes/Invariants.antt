use Rattle.std.proofs.Common.{◌≡◌, ◌*◌, length}
use Rattle.tiger_tables.proofs.tables.bytes.Given as goal

abbrev pub invariant-loop-word : goal.invariant-loop-word
invariant-loop-word l = length l.bytes.items ≡ 8 * l.word-index
