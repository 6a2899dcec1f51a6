-- Which users have what a feature word wants. A user's features are the words of the INF field SU, between its commas
-- (ADC 1.0, "INF"); a user without that field has the empty text.
use Rattle.std.specs.Prelude.{ℕ, ◌==◌, ◌&&◌, not, bytes_eq, Bool, true, false, List, [], length, fold}
use Rattle.std.specs.List.{slice_split, filter, list_any, list_all}
use Rattle.std.specs.Ordering.{nat_cmp}
use Rattle.std.specs.Cmp.Lexicographic.{slice_cmp}
use Rattle.std.specs.BTreeSet.{insert_key}
use Rattle.feature_route.specs.Wants.{Wants}

-- what stands between the commas of a text; the empty text is one empty word, which is no feature's name
abbrev pub su_words : List ℕ → List (List ℕ)
su_words su = slice_split (λ (c : ℕ). c == 44) su

-- whether a name is among such words
abbrev pub has : List (List ℕ) → List ℕ → Bool
has words name = list_any (bytes_eq name) words

-- they hold every wanted feature, and none that is not wanted
unfoldable pub meets : Wants → List (List ℕ) → Bool
meets wants words = list_all (has words) wants.wanted && not (list_any (has words) wants.unwanted)

-- whether a feature that is had or not is as its sign asks: had after `+`, and not had after `-`
abbrev pub suits_by : Bool → Bool → Bool → Bool
suits_by true minus had = had
suits_by false true had = not had
suits_by false false had = true

abbrev pub suits : ℕ → Bool → Bool
suits sign had = suits_by (sign == 43) (sign == 45) had

-- whether a user with this SU has what is wanted
abbrev pub matches : Wants → List ℕ → Bool
matches wants su = meets wants (su_words su)

-- a user's features as a set: the words of four characters in order, each once
unfoldable pub feature_set : List ℕ → List (List ℕ)
feature_set su = fold (insert_key (slice_cmp nat_cmp)) [] (filter (λ (word : List ℕ). length word == 4) (su_words su))
