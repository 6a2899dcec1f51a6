use Rattle.std.proofs.Common.{◌≡◌}
use Rattle.std.specs.List.{list_all}
use Rattle.adc_line.specs.Parameters.{is_parameter}
use Rattle.adc_line.specs.WordsLeft.{words_left}
use Rattle.adc_line.proofs.line.are_parameters.Given as goal

abbrev pub invariant-loop-word : goal.invariant-loop-word
invariant-loop-word l = list_all is_parameter (words_left l.word-iterator) ≡ list_all is_parameter (words_left l.fn.words)
