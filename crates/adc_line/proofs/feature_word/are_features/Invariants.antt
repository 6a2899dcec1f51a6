use Rattle.std.proofs.Common.{◌≡◌, length}
use Rattle.adc_line.specs.Header.{are_features}
use Rattle.adc_line.proofs.feature_word.are_features.Given as goal

abbrev pub invariant-parts : goal.invariant-parts
invariant-parts l = are_features l.rest ≡ are_features l.word

abbrev pub decreases-parts : goal.decreases-parts
decreases-parts l = length l.rest
