-- The words that the iterator over a text has left.
use Rattle.std.specs.Prelude.{ℕ, List, []}
use Rattle.std.specs.Option.{option_map_or}
use Rattle.adc_line.specs.declared.words.Words.{Words as WordIterator}
use Rattle.adc_line.specs.Words.{words}

abbrev pub words_left : WordIterator → List (List ℕ)
words_left it = option_map_or (λ rest. words rest.now) it.rest []
