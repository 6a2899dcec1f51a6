-- Mentions taken into account from the last to the first, with a set of the features that were seen.
use Rattle.std.proofs.Common.{◌≡◌, ◌∙◌, sym, ap, refl, ℕ, List, [], ◌∷◌, ◌++◌, append_assoc, true, false, not, cond, Bool, length, drop, ◌≤◌, arith}
use Rattle.std.specs.Prelude.{◌||◌}
use Rattle.std.specs.List.{filter}
use Rattle.std.specs.Ordering.{is_eq, nat_cmp}
use Rattle.std.specs.Cmp.Lexicographic.{slice_cmp}
use Rattle.std.specs.Str.{bytes_eq}
use Rattle.std.proofs.lemmas.Cmp.{nat_list_eq_equiv}
use Rattle.std.proofs.lemmas.List.{append-nil, drop_all}
use Rattle.std.proofs.lemmas.List.Folds.{list_any-append}
use Rattle.std.proofs.lemmas.List.Elements.{filter-append, filter_agree}
use Rattle.std.proofs.lemmas.Map.Text.{is_eq-slice_cmp}
use Rattle.login_state.specs.declared.feature.Mention.{Mention}
use Rattle.login_state.specs.Seen.{unseen}
use Rattle.login_state.specs.Support.{speaks_of, is_mentioned, features_added, features_left}
use Rattle.login_state.proofs.Mentioned.{supported-append, without_mentioned}

-- the set after an insertion has one feature more
pub seen-more : (feature other : List ℕ) (now before : Bool) → now ≡ cond (is_eq (slice_cmp nat_cmp feature other)) true before → now ≡ (before || bytes_eq other feature)
seen-more feature other now before e =
    e ∙ ap (λ same. cond same true before) (is_eq-slice_cmp feature other ∙ nat_list_eq_equiv.symm feature other) ∙ turned before (bytes_eq other feature)
  where
    turned : (a b : Bool) → cond b true a ≡ (a || b)
    turned true true = refl
    turned true false = refl
    turned false true = refl
    turned false false = refl

-- two filters one after the other
kept_twice : (a b : Bool) (x : List ℕ) (both twice : List (List ℕ)) → both ≡ twice
    → cond (not (a || b)) (x ∷ both) both ≡ cond (not b) (cond (not a) (x ∷ twice) twice) twice
kept_twice true true x both twice e = e
kept_twice true false x both twice e = e
kept_twice false true x both twice e = e
kept_twice false false x both twice e = ap (λ xs. x ∷ xs) e

filter_cond : (p : List ℕ → Bool) (b : Bool) (x : List ℕ) (xs : List (List ℕ)) → filter p (cond b (x ∷ xs) xs) ≡ cond b (cond (p x) (x ∷ filter p xs) (filter p xs)) (filter p xs)
filter_cond p true x xs = refl
filter_cond p false x xs = refl

unseen-twice : (s t : List ℕ → Bool) (xs : List (List ℕ)) → filter (λ x. not (s x || t x)) xs ≡ unseen s (unseen t xs)
unseen-twice s t [] = refl
unseen-twice s t (x ∷ xs) =
    kept_twice (s x) (t x) x (filter (λ y. not (s y || t y)) xs) (unseen s (unseen t xs)) (unseen-twice s t xs)
    ∙ sym (filter_cond (λ y. not (s y)) (not (t x)) x (unseen t xs))

or_false : (b : Bool) → (b || false) ≡ b
or_false true = refl
or_false false = refl

-- one mention, by itself
one : (mention : Mention) (feature : List ℕ) → is_mentioned feature (mention ∷ []) ≡ speaks_of feature mention
one mention feature = or_false (speaks_of feature mention)

-- the features of the mentions that are left, but for those that were seen: one mention less
pub names-step : (s t : List ℕ → Bool) (mention : Mention) (left all : List Mention) (names now whole : List (List ℕ))
    → ((feature : List ℕ) → t feature ≡ (s feature || speaks_of feature mention))
    → all ≡ left ++ mention ∷ []
    → names ++ unseen s (features_left all) ≡ whole
    → now ≡ names ++ unseen s (features_added mention [])
    → now ++ unseen t (features_left left) ≡ whole
unfolding features_left
names-step s t mention left all names now whole more parts so_far is_now =
    let spoken : List ℕ → Bool = λ feature. speaks_of feature mention in
    let rest : unseen t (features_left left) ≡ unseen s (without_mentioned (mention ∷ []) (features_left left)) =
    filter_agree (λ x. not (t x)) (λ x. not (s x || spoken x)) (λ x. ap not (more x)) (features_left left)
    ∙ unseen-twice s spoken (features_left left)
    ∙ ap (unseen s) (filter_agree (λ x. not (spoken x)) (λ x. not (is_mentioned x (mention ∷ []))) (λ x. ap not (sym (one mention x))) (features_left left)) in
    ap (λ now. now ++ unseen t (features_left left)) is_now
    ∙ append_assoc names (unseen s (features_added mention [])) (unseen t (features_left left))
    ∙ ap (λ more. names ++ (unseen s (features_added mention []) ++ more)) rest
    ∙ ap (λ more. names ++ more) (sym (filter-append (λ x. not (s x)) (features_added mention []) (without_mentioned (mention ∷ []) (features_left left))))
    ∙ ap (λ features. names ++ unseen s features) (sym (ap features_left parts ∙ supported-append left (mention ∷ [])))
    ∙ so_far

-- what was seen and what is mentioned in the rest: one mention less
pub seen-step : (feature : List ℕ) (s t whole : Bool) (mention : Mention) (left all : List Mention)
    → t ≡ (s || speaks_of feature mention)
    → all ≡ left ++ mention ∷ []
    → (s || is_mentioned feature all) ≡ whole
    → (t || is_mentioned feature left) ≡ whole
seen-step feature s t whole mention left all more parts so_far =
    ap (λ b. b || is_mentioned feature left) more
    ∙ turned s (speaks_of feature mention) (is_mentioned feature left)
    ∙ ap (λ b. s || b) (sym (ap (is_mentioned feature) parts ∙ list_any-append (speaks_of feature) left (mention ∷ []) ∙ ap (λ b. is_mentioned feature left || b) (one mention feature)))
    ∙ so_far
  where
    turned : (a b c : Bool) → ((a || b) || c) ≡ (a || (c || b))
    turned true b c = refl
    turned false true true = refl
    turned false true false = refl
    turned false false true = refl
    turned false false false = refl

-- nothing was seen
pub unseen-none : (s : List ℕ → Bool) → ((feature : List ℕ) → s feature ≡ false) → (xs : List (List ℕ)) → unseen s xs ≡ xs
unseen-none s none [] = refl
unseen-none s none (x ∷ xs) = ap (λ b. cond (not b) (x ∷ unseen s xs) (unseen s xs)) (none x) ∙ ap (λ more. x ∷ more) (unseen-none s none xs)

-- no mention is left
pub names-whole : (s : List ℕ → Bool) (left : List Mention) (names whole : List (List ℕ)) → length left ≡ 0 → names ++ unseen s (features_left left) ≡ whole → names ≡ whole
unfolding features_left
names-whole s [] names whole none so_far = sym (append-nil names) ∙ so_far
names-whole s (mention ∷ left) names whole none so_far = absurd (omega (arith, none))

-- what was seen is what is mentioned
pub unseen-unmentioned : (s : List ℕ → Bool) (mentions : List Mention) (before : List (List ℕ)) → ((feature : List ℕ) → s feature ≡ is_mentioned feature mentions)
    → unseen s before ≡ without_mentioned mentions before
unseen-unmentioned s mentions before same = filter_agree (λ x. not (s x)) (λ x. not (is_mentioned x mentions)) (λ x. ap not (same x)) before

-- all that were there before were looked at
pub names-end : (s : List ℕ → Bool) (before names whole : List (List ℕ)) (i : ℕ) → length before ≤ i → names ++ unseen s (drop i before) ≡ whole → names ≡ whole
names-end s before names whole i past so_far =
    sym (append-nil names) ∙ ap (λ rest. names ++ unseen s rest) (sym (drop_all i before past)) ∙ so_far
