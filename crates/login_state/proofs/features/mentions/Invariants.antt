use Rattle.std.proofs.Common.{◌≡◌, ◌++◌}
use Rattle.adc_line.specs.WordsLeft.{words_left}
use Rattle.login_state.specs.Support.{mentions_in}
use Rattle.login_state.proofs.features.mentions.Given as goal

-- the mentions so far and those in the words that are left are all
abbrev pub invariant-loop-word : goal.invariant-loop-word
invariant-loop-word l = l.mentions.items ++ mentions_in (words_left l.word-iterator) ≡ mentions_in (words_left l.fn.words)
