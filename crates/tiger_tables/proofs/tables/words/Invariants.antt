use Rattle.std.proofs.Common.{◌≡◌, length}
use Rattle.tiger_tables.proofs.tables.words.Given as goal

abbrev pub invariant-loop-word : goal.invariant-loop-word
invariant-loop-word l = length l.words.items ≡ l.word

abbrev pub invariant-loop-time : goal.invariant-loop-time
invariant-loop-time l = length l.words.items ≡ 1024
