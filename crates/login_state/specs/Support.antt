-- Which features a client supports (ADC 1.0, "SUP"): those whose last mention adds them.
use Rattle.std.specs.Prelude.{◌≡◌, ℕ, Bool, false, not, List, [], ◌∷◌, ◌++◌, if◌then◌else◌}
use Rattle.std.specs.List.{list_any, filter, filter_map, flat_map, fold}
use Rattle.std.specs.Str.{bytes_eq}
use Rattle.login_state.specs.declared.feature.Mention.{Mention}
use Rattle.login_state.specs.declared.feature.Mention.TheVariants.{Adds, Removes}
use Rattle.login_state.specs.Mentions.{mention_at}

abbrev pub speaks_of : List ℕ → Mention → Bool
speaks_of feature (Adds other) = bytes_eq feature other
speaks_of feature (Removes other) = bytes_eq feature other

abbrev pub is_mentioned : List ℕ → List Mention → Bool
is_mentioned feature mentions = list_any (speaks_of feature) mentions

-- a feature is among these
abbrev pub has_feature : List ℕ → List (List ℕ) → Bool
has_feature feature features = list_any (bytes_eq feature) features

-- the last mention of a feature adds it
abbrev pub IsLastAdded : List ℕ → List Mention → Type 0
IsLastAdded feature mentions =
    (before : List Mention) × (after : List Mention) × (mentions ≡ before ++ Adds feature ∷ after) × (is_mentioned feature after ≡ false)

-- what a mention adds, if it is the last of its feature
abbrev pub features_added : Mention → List Mention → List (List ℕ)
features_added (Adds feature) later = if is_mentioned feature later then [] else feature ∷ []
features_added (Removes feature) later = []

-- the features whose last mention adds them, the latest of these mentions first
unfoldable pub features_left : List Mention → List (List ℕ)
features_left [] = []
features_left (mention ∷ later) = features_left later ++ features_added mention later

abbrev pub without : List ℕ → List (List ℕ) → List (List ℕ)
without feature features = filter (λ (other : List ℕ). not (bytes_eq other feature)) features

-- what one mention makes of the features: what it adds comes first
abbrev pub with_mention : List (List ℕ) → Mention → List (List ℕ)
with_mention features (Adds feature) = feature ∷ without feature features
with_mention features (Removes feature) = without feature features

-- what mentions make of the features, one after another
unfoldable pub supported_after : List (List ℕ) → List Mention → List (List ℕ)
supported_after before mentions = fold with_mention before mentions

-- what the words of a SUP say
unfoldable pub mentions_in : List (List ℕ) → List Mention
mentions_in words = filter_map mention_at words

-- what the words of several say, one after another
abbrev pub all_said : List (List (List ℕ)) → List Mention
all_said lines = flat_map mentions_in lines

-- the features of a client that sent these SUP: those whose last mention in any of them adds them
abbrev pub features_of : List (List (List ℕ)) → List (List ℕ)
features_of lines = features_left (all_said lines)
