use Rattle.std.proofs.Common.{◌≡◌, ◌++◌, List, ℕ}
use Rattle.std.specs.List.{All}
use Rattle.adc_line.specs.WordsLeft.{words_left}
use Rattle.hub_client.specs.Fields.{Lacks}
use Rattle.hub_client.proofs.fields.field_among.Given as goal

-- the words that are behind do not have the name
abbrev pub invariant-words : goal.invariant-words
invariant-words l = record {
  next : (goal.iterator-words).can_next l.words;
  finite : (goal.iterator-words).is_finite l.words;
  behind : (before : List (List ℕ)) × (words_left l.fn.words ≡ before ++ words_left l.words) × All (Lacks l.name) before;
}
