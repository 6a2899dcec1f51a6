use Rattle.std.proofs.Common.{lit<}
use Rattle.operator_acts.proofs.Cuts.{words-cut, words-whole}
use Rattle.operator_acts.proofs.act.split_word.Goals as goal

pub returns-in-Some : goal.returns-in-Some
returns-in-Some c = words-cut _ _ _ (c.in-Some.ensures.byte (lit< tt) (λ w o f. f))

pub returns-in-None : goal.returns-in-None
returns-in-None c = words-whole _ (c.in-None.ensures.byte (lit< tt) (λ w o f. f))
