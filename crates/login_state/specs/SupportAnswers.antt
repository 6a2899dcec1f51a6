-- The answers where the words of a SUP are read.
use Rattle.std.specs.Prelude.{◌≡◌, ◌≢◌, ℕ, Bool, not, nat_lt, List, [], ◌∷◌, ◌++◌, length, is_some, IfOk, Result, Ok, Err, if◌then◌else◌}
use Rattle.std.specs.List.{list_all}
use Rattle.login_state.specs.declared.fault.SupFault.{SupFault}
use Rattle.login_state.specs.declared.fault.SupFault.TheVariants.{Memory, Bad, TooMany}
use Rattle.login_state.specs.Mentions.{mention_at}
use Rattle.login_state.specs.Support.{features_of, supported_after, mentions_in}

-- how many features a client may have
abbrev pub most_features : ℕ
most_features = 64

-- each word says something of a feature
abbrev pub are_mentions : List (List ℕ) → Bool
are_mentions words = list_all (λ (word : List ℕ). is_some (mention_at word)) words

-- the features, unless they are too many
abbrev pub unless_too_many : List (List ℕ) → Result (List (List ℕ)) SupFault
unless_too_many features = if nat_lt most_features (length features) then Err TooMany else Ok features

-- what is supported after these words: each must be a mention, and then at most 64 features may be left
unfoldable pub support_after : List (List ℕ) → List (List ℕ) → Result (List (List ℕ)) SupFault
support_after before words = if not (are_mentions words) then Err Bad else unless_too_many (supported_after before (mentions_in words))

-- the answer is the one that is wanted; `Memory` may stand in place of it, but not of `Bad`, which takes no memory to find
abbrev pub GivesSupport : Result (List (List ℕ)) SupFault → Result (List (List ℕ)) SupFault → Type 0
GivesSupport (Ok features) wanted = wanted ≡ Ok features
GivesSupport (Err Memory) wanted = wanted ≢ Err Bad
GivesSupport (Err Bad) wanted = wanted ≡ Err Bad
GivesSupport (Err TooMany) wanted = wanted ≡ Err TooMany

-- what is supported after these words, where the features before are those of a client that sent some SUP: those after this one too
abbrev pub GoesOnLineByLine : List (List ℕ) → List (List ℕ) → Result (List (List ℕ)) SupFault → Type 0
GoesOnLineByLine before words answer =
    (lines : List (List (List ℕ))) → before ≡ features_of lines → IfOk answer (λ features. features ≡ features_of (lines ++ words ∷ []))
