use Rattle.std.proofs.Common.{◌<◌, ℕ, IsSome, slice_index_or}
use Rattle.adc_base32.specs.Digits.{value_at}
use Rattle.adc_base32.proofs.decoding.are_digits.Given as goal

abbrev pub invariant-loop-character : goal.invariant-loop-character
invariant-loop-character l = (k d : ℕ) → k < l.character-index → IsSome (value_at (slice_index_or l.text k d))
