use Rattle.std.proofs.Common.{◌≡◌}
use Rattle.adc_line.specs.WordsLeft.{words_left}
use Rattle.login_state.specs.SupportAnswers.{are_mentions}
use Rattle.login_state.proofs.features.are_mentions.Given as goal

abbrev pub invariant-loop-word : goal.invariant-loop-word
invariant-loop-word l = are_mentions (words_left l.word-iterator) ≡ are_mentions (words_left l.fn.words)
