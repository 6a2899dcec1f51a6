use Rattle.std.proofs.Common.{lit<}
use Rattle.adc_line.proofs.WordLemmas.{words-cut, words-whole}
use Rattle.adc_line.proofs.words.split_word.Goals as goal

pub returns-in-Some : goal.returns-in-Some
returns-in-Some c = words-cut _ _ _ (c.in-Some.ensures.byte (lit< tt) (λ w o f. f))

pub returns-in-None : goal.returns-in-None
returns-in-None c = words-whole _ (c.in-None.ensures.byte (lit< tt) (λ w o f. f))
