use Rattle.std.proofs.Common.{◌≡◌, drop}
use Rattle.adc_line.specs.WordsLeft.{words_left}
use Rattle.adc_line.proofs.words.Words.after.Given as goal

abbrev pub invariant-loop-taken : goal.invariant-loop-taken
invariant-loop-taken l = words_left l.words ≡ drop l._taken (words_left l.fn.self)
