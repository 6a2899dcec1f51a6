-- Features by their last mention: what more mentions change, and which features are left.
use Rattle.std.proofs.Common.{◌≡◌, ◌∙◌, sym, ap, subst, refl, ℕ, List, [], ◌∷◌, ◌++◌, append_assoc, true, false, not, cond, Bool}
use Rattle.std.specs.Prelude.{◌||◌}
use Rattle.std.specs.List.{IsDistinct, filter}
use Rattle.std.specs.Str.{bytes_eq}
use Rattle.std.proofs.lemmas.Bool.{false≢true}
use Rattle.std.proofs.lemmas.Cmp.{nat_list_eq_equiv}
use Rattle.std.proofs.lemmas.Grind.{flat_map-append}
use Rattle.std.proofs.lemmas.List.{append-nil}
use Rattle.std.proofs.lemmas.List.Folds.{list_any-append}
use Rattle.std.proofs.lemmas.List.Elements.{filter-append}
use Rattle.std.proofs.lemmas.Map.Keys.{IsDistinct-push}
use Rattle.std.proofs.lemmas.Slice.Eq.{bytes_eq-Decides}
use Rattle.login_state.specs.declared.feature.Mention.{Mention}
use Rattle.login_state.specs.declared.feature.Mention.TheVariants.{Adds, Removes}
use Rattle.login_state.specs.Support.{speaks_of, is_mentioned, has_feature, IsLastAdded, features_added, features_left, without, supported_after, mentions_in, all_said, features_of}

-- those that are not mentioned
abbrev pub without_mentioned : List Mention → List (List ℕ) → List (List ℕ)
without_mentioned mentions features = filter (λ feature. not (is_mentioned feature mentions)) features

-- what is mentioned again is not added
unless-later : (a b : Bool) (feature : List ℕ) (later : List Mention) → is_mentioned feature later ≡ b
    → cond (a || b) [] (feature ∷ []) ≡ without_mentioned later (cond a [] (feature ∷ []))
unless-later true b feature later e = refl
unless-later false true feature later e = ap (λ t. cond (not t) (feature ∷ []) []) (sym e)
unless-later false false feature later e = ap (λ t. cond (not t) (feature ∷ []) []) (sym e)

added-append : (mention : Mention) (mentions later : List Mention) → features_added mention (mentions ++ later) ≡ without_mentioned later (features_added mention mentions)
added-append (Removes feature) mentions later = refl
added-append (Adds feature) mentions later =
    ap (λ t. cond t [] (feature ∷ [])) (list_any-append (speaks_of feature) mentions later)
    ∙ unless-later (is_mentioned feature mentions) (is_mentioned feature later) feature later refl

-- what earlier mentions left stays, unless it is mentioned later
pub supported-append : (mentions later : List Mention) → features_left (mentions ++ later) ≡ features_left later ++ without_mentioned later (features_left mentions)
unfolding features_left
supported-append [] later = sym (append-nil (features_left later))
supported-append (mention ∷ mentions) later =
    ap (λ features. features ++ features_added mention (mentions ++ later)) (supported-append mentions later)
    ∙ append_assoc (features_left later) (without_mentioned later (features_left mentions)) (features_added mention (mentions ++ later))
    ∙ ap (λ features. features_left later ++ features)
    (ap (λ features. without_mentioned later (features_left mentions) ++ features) (added-append mention mentions later)
    ∙ sym (filter-append (λ feature. not (is_mentioned feature later)) (features_left mentions) (features_added mention mentions)))

all-kept : (features : List (List ℕ)) → features ≡ without_mentioned [] features
all-kept [] = refl
all-kept (feature ∷ features) = ap (λ more. feature ∷ more) (all-kept features)

-- those that neither this nor a later mention speaks of
without-first : (feature : List ℕ) (later : List Mention) (before : List (List ℕ))
    → without_mentioned later (without feature before) ≡ filter (λ other. not (bytes_eq other feature || is_mentioned other later)) before
without-first feature later [] = refl
without-first feature later (other ∷ before) =
    let kept : List ℕ → Bool = λ x. not (bytes_eq x feature || is_mentioned x later) in
    let more = without-first feature later before in
    let go : (same : Bool) → without_mentioned later (cond (not same) (other ∷ without feature before) (without feature before)) ≡ cond (not (same || is_mentioned other later)) (other ∷ filter kept before) (filter kept before) =
    elim [
      | true ↦ more
      | false ↦ ap (λ rest. cond (not (is_mentioned other later)) (other ∷ rest) rest) more
    ] in
    go (bytes_eq other feature)

moved : (again : Bool) (feature : List ℕ) (left kept : List (List ℕ)) → left ++ cond (not again) (feature ∷ kept) kept ≡ (left ++ cond again [] (feature ∷ [])) ++ kept
moved true feature left kept = ap (λ features. features ++ kept) (sym (append-nil left))
moved false feature left kept = sym (append_assoc left (feature ∷ []) kept)

-- after all mentions: what they leave, and behind it what was there before and is not mentioned
pub supported-parts : (before : List (List ℕ)) (mentions : List Mention) → supported_after before mentions ≡ features_left mentions ++ without_mentioned mentions before
unfolding supported_after features_left
supported-parts before [] = all-kept before
supported-parts before (Adds feature ∷ later) =
    supported-parts (feature ∷ without feature before) later
    ∙ moved (is_mentioned feature later) feature (features_left later) (without_mentioned later (without feature before))
    ∙ ap (λ kept. (features_left later ++ features_added (Adds feature) later) ++ kept) (without-first feature later before)
supported-parts before (Removes feature ∷ later) =
    supported-parts (without feature before) later
    ∙ ap (λ left. left ++ without_mentioned later (without feature before)) (sym (append-nil (features_left later)))
    ∙ ap (λ kept. (features_left later ++ []) ++ kept) (without-first feature later before)

-- no SUP, no feature
pub features_of-nil : features_of [] ≡ []
unfolding features_left
features_of-nil = refl

-- one SUP more
pub features_of-push : (lines : List (List (List ℕ))) (words : List (List ℕ)) → features_of (lines ++ words ∷ []) ≡ supported_after (features_of lines) (mentions_in words)
features_of-push lines words =
    ap features_left (flat_map-append mentions_in lines (words ∷ []) ∙ ap (λ more. all_said lines ++ more) (append-nil (mentions_in words)))
    ∙ supported-append (all_said lines) (mentions_in words)
    ∙ sym (supported-parts (features_of lines) (mentions_in words))

-- a longer list ends with the same mention
earlier-last : (feature : List ℕ) (mention : Mention) (mentions : List Mention) → IsLastAdded feature mentions → IsLastAdded feature (mention ∷ mentions)
earlier-last feature mention mentions found = (mention ∷ found.0, found.1, ap (λ more. mention ∷ more) found.2, found.3)

no_left : (a b : Bool) → (a || b) ≡ false → a ≡ false
no_left true b h = h
no_left false b h = refl

no_right : (a b : Bool) → (a || b) ≡ false → b ≡ false
no_right true true h = h
no_right true false h = refl
no_right false b h = h

or_true : (a : Bool) → (a || true) ≡ true
or_true true = refl
or_true false = refl

or_false : (a : Bool) → (a || false) ≡ a
or_false true = refl
or_false false = refl

-- an addition that is mentioned no more is the last one
last-added : (feature other : List ℕ) (later : List Mention) (again : Bool) → is_mentioned other later ≡ again
    → has_feature feature (cond again [] (other ∷ [])) ≡ true → IsLastAdded feature (Adds other ∷ later)
last-added feature other later true e h = absurd (false≢true h)
last-added feature other later false e h =
    let same : feature ≡ other = (bytes_eq-Decides feature other).0 (sym (or_false (bytes_eq feature other)) ∙ h) in
    ([], later, ap (λ f. Adds f ∷ later) (sym same), ap (λ f. is_mentioned f later) same ∙ e)

added-is_last : (feature : List ℕ) (mention : Mention) (later : List Mention) → has_feature feature (features_added mention later) ≡ true → IsLastAdded feature (mention ∷ later)
added-is_last feature (Removes other) later h = absurd (false≢true h)
added-is_last feature (Adds other) later h = last-added feature other later (is_mentioned other later) refl h

-- by whether a later mention left the feature already
last-by : (feature : List ℕ) (mention : Mention) (later : List Mention) (already : Bool)
    → (already ≡ true → IsLastAdded feature later) → (already || has_feature feature (features_added mention later)) ≡ true → IsLastAdded feature (mention ∷ later)
last-by feature mention later true before h = earlier-last feature mention later (before refl)
last-by feature mention later false before h = added-is_last feature mention later h

pub last-from_has : (feature : List ℕ) (mentions : List Mention) → has_feature feature (features_left mentions) ≡ true → IsLastAdded feature mentions
unfolding features_left
last-from_has feature [] h = absurd (false≢true h)
last-from_has feature (mention ∷ later) h =
    last-by feature mention later (has_feature feature (features_left later)) (last-from_has feature later)
    (sym (list_any-append (bytes_eq feature) (features_left later) (features_added mention later)) ∙ h)

has-added : (feature : List ℕ) (later : List Mention) → is_mentioned feature later ≡ false → has_feature feature (features_left (Adds feature ∷ later)) ≡ true
unfolding features_left
has-added feature later e =
    ap (λ again. has_feature feature (features_left later ++ cond again [] (feature ∷ []))) e
    ∙ list_any-append (bytes_eq feature) (features_left later) (feature ∷ [])
    ∙ ap (λ same. has_feature feature (features_left later) || (same || false)) (nat_list_eq_equiv.refl feature)
    ∙ or_true (has_feature feature (features_left later))

pub has-from_last : (feature : List ℕ) (mentions : List Mention) → IsLastAdded feature mentions → has_feature feature (features_left mentions) ≡ true
has-from_last feature mentions found =
    let later : List Mention = Adds feature ∷ found.1 in
    ap (λ all. has_feature feature (features_left all)) found.2
    ∙ ap (has_feature feature) (supported-append found.0 later)
    ∙ list_any-append (bytes_eq feature) (features_left later) (without_mentioned later (features_left found.0))
    ∙ ap (λ b. b || has_feature feature (without_mentioned later (features_left found.0))) (has-added feature found.1 found.3)

absent-unless : (feature other : List ℕ) (again : Bool) → bytes_eq feature other ≡ false → has_feature feature (cond again [] (other ∷ [])) ≡ false
absent-unless feature other true e = refl
absent-unless feature other false e = ap (λ same. same || false) e

absent-added : (feature : List ℕ) (mention : Mention) (later : List Mention) → speaks_of feature mention ≡ false → has_feature feature (features_added mention later) ≡ false
absent-added feature (Removes other) later e = refl
absent-added feature (Adds other) later e = absent-unless feature other (is_mentioned other later) e

-- what is not mentioned is not there
absent : (feature : List ℕ) (mentions : List Mention) → is_mentioned feature mentions ≡ false → has_feature feature (features_left mentions) ≡ false
unfolding features_left
absent feature [] h = refl
absent feature (mention ∷ later) h =
    list_any-append (bytes_eq feature) (features_left later) (features_added mention later)
    ∙ ap (λ b. b || has_feature feature (features_added mention later)) (absent feature later (no_right (speaks_of feature mention) (is_mentioned feature later) h))
    ∙ absent-added feature mention later (no_left (speaks_of feature mention) (is_mentioned feature later) h)

distinct-more : (features : List (List ℕ)) (other : List ℕ) (again : Bool) → IsDistinct bytes_eq features
    → (again ≡ false → has_feature other features ≡ false) → IsDistinct bytes_eq (features ++ cond again [] (other ∷ []))
distinct-more features other true apart away = subst (IsDistinct bytes_eq) (sym (append-nil features)) apart
distinct-more features other false apart away = IsDistinct-push nat_list_eq_equiv features other apart (away refl)

distinct-added : (mention : Mention) (later : List Mention) → IsDistinct bytes_eq (features_left later) → IsDistinct bytes_eq (features_left later ++ features_added mention later)
distinct-added (Removes feature) later apart = subst (IsDistinct bytes_eq) (sym (append-nil (features_left later))) apart
distinct-added (Adds feature) later apart = distinct-more (features_left later) feature (is_mentioned feature later) apart (absent feature later)

-- no feature stands there twice
pub supported-distinct : (mentions : List Mention) → IsDistinct bytes_eq (features_left mentions)
unfolding features_left IsDistinct
supported-distinct [] = tt
supported-distinct (mention ∷ later) = distinct-added mention later (supported-distinct later)
