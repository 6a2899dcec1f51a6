use Rattle.std.proofs.Common.{◌≡◌, ◌++◌, map}
use Rattle.std.specs.Map.Iter.{deref}
use Rattle.adc_line.specs.WordsLeft.{words_left}
use Rattle.hub_setup.proofs.inf.words_of.Given as goal

abbrev pub invariant-loop-word : goal.invariant-loop-word
invariant-loop-word l = map deref l.words.items ++ words_left l.word-iterator ≡ l.line.params
