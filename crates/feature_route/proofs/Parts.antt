-- The parts of a feature word, met one after another.
use Rattle.std.proofs.Common.{◌≡◌, ◌∙◌, sym, ap, ap₂, refl, ℕ, ◌<◌, ◌≤◌, Bool, true, false, ◌&&◌, ◌||◌, not, List, [], ◌∷◌, length, get_or, drop, arith, cond}
use Rattle.std.specs.Prelude.{◌==◌}
use Rattle.std.specs.List.{list_any, list_all}
use Rattle.std.proofs.lemmas.Bool.Decides.{Decides-eqb}
use Rattle.feature_route.specs.Wants.{names_after, wants_of}
use Rattle.feature_route.specs.Matching.{has, meets, suits, suits_by, su_words, feature_set, matches}
use Rattle.feature_route.proofs.Names.{has-feature_set}

-- a list is met as another where both have the same names of four characters
all-same : (p q : List ℕ → Bool) → ((name : List ℕ) → length name ≡ 4 → p name ≡ q name) → (sign : ℕ) (word : List ℕ) → list_all p (names_after sign word) ≡ list_all q (names_after sign word)
unfolding names_after
all-same p q same sign [] = refl
all-same p q same sign (_ ∷ []) = refl
all-same p q same sign (_ ∷ _ ∷ []) = refl
all-same p q same sign (_ ∷ _ ∷ _ ∷ []) = refl
all-same p q same sign (_ ∷ _ ∷ _ ∷ _ ∷ []) = refl
all-same p q same sign (s ∷ a ∷ b ∷ c ∷ d ∷ more) =
    let rest = all-same p q same sign more in
    let go : (m : Bool) → list_all p (cond m ((a ∷ b ∷ c ∷ d ∷ []) ∷ (names_after sign more)) (names_after sign more)) ≡ list_all q (cond m ((a ∷ b ∷ c ∷ d ∷ []) ∷ (names_after sign more)) (names_after sign more)) =
    elim [
      | true ↦ ap₂ (λ x y. x && y) (same (a ∷ b ∷ c ∷ d ∷ []) refl) rest
      | false ↦ rest
    ] in
    go (s == sign)

any-same : (p q : List ℕ → Bool) → ((name : List ℕ) → length name ≡ 4 → p name ≡ q name) → (sign : ℕ) (word : List ℕ) → list_any p (names_after sign word) ≡ list_any q (names_after sign word)
unfolding names_after
any-same p q same sign [] = refl
any-same p q same sign (_ ∷ []) = refl
any-same p q same sign (_ ∷ _ ∷ []) = refl
any-same p q same sign (_ ∷ _ ∷ _ ∷ []) = refl
any-same p q same sign (_ ∷ _ ∷ _ ∷ _ ∷ []) = refl
any-same p q same sign (s ∷ a ∷ b ∷ c ∷ d ∷ more) =
    let rest = any-same p q same sign more in
    let go : (m : Bool) → list_any p (cond m ((a ∷ b ∷ c ∷ d ∷ []) ∷ (names_after sign more)) (names_after sign more)) ≡ list_any q (cond m ((a ∷ b ∷ c ∷ d ∷ []) ∷ (names_after sign more)) (names_after sign more)) =
    elim [
      | true ↦ ap₂ (λ x y. x || y) (same (a ∷ b ∷ c ∷ d ∷ []) refl) rest
      | false ↦ rest
    ] in
    go (s == sign)

-- a set made of an SU is matched as the SU
pub meets-feature_set : (word su : List ℕ) → meets (wants_of word) (feature_set su) ≡ matches (wants_of word) su
unfolding meets wants_of
meets-feature_set word su =
    let same = has-feature_set su in
    ap₂ (λ x y. x && not y)
    (all-same (has (feature_set su)) (has (su_words su)) same 43 word)
    (any-same (has (feature_set su)) (has (su_words su)) same 45 word)

and-group : (h a n : Bool) → ((h && a) && n) ≡ (h && (a && n))
and-group true a n = refl
and-group false a n = refl

and-not : (h a r : Bool) → (a && not (h || r)) ≡ (not h && (a && not r))
and-not true true r = refl
and-not true false r = refl
and-not false a r = refl

first-by : (plus minus : Bool) → (plus ≡ true → minus ≡ true → ⊥) → (name : List ℕ) (words wanted unwanted : List (List ℕ))
    → (list_all (has words) (cond plus (name ∷ wanted) wanted) && not (list_any (has words) (cond minus (name ∷ unwanted) unwanted)))
    ≡ (suits_by plus minus (has words name) && (list_all (has words) wanted && not (list_any (has words) unwanted)))
first-by true true apart name words wanted unwanted = absurd (apart refl refl)
first-by true false apart name words wanted unwanted = and-group (has words name) (list_all (has words) wanted) (not (list_any (has words) unwanted))
first-by false true apart name words wanted unwanted = and-not (has words name) (list_all (has words) wanted) (list_any (has words) unwanted)
first-by false false apart name words wanted unwanted = refl

-- the first part of a feature word, and the others
first-part : (xs : List ℕ) (words : List (List ℕ)) → 5 ≤ length xs
    → meets (wants_of xs) words
    ≡ (suits (get_or xs 0 0) (has words (get_or xs 1 0 ∷ get_or xs 2 0 ∷ get_or xs 3 0 ∷ get_or xs 4 0 ∷ [])) && meets (wants_of (drop 5 xs)) words)
unfolding meets wants_of names_after
first-part [] words h = absurd (omega arith)
first-part (_ ∷ []) words h = absurd (omega arith)
first-part (_ ∷ _ ∷ []) words h = absurd (omega arith)
first-part (_ ∷ _ ∷ _ ∷ []) words h = absurd (omega arith)
first-part (_ ∷ _ ∷ _ ∷ _ ∷ []) words h = absurd (omega arith)
first-part (s ∷ a ∷ b ∷ c ∷ d ∷ more) words h =
    first-by (s == 43) (s == 45) (λ p m. let e : s ≡ 43 = (Decides-eqb s 43).0 p in let f : s ≡ 45 = (Decides-eqb s 45).0 m in absurd (omega arith)) (a ∷ b ∷ c ∷ d ∷ []) words (names_after 43 more) (names_after 45 more)

pub meets-no : (xs : List ℕ) (words : List (List ℕ)) (had : Bool) → 5 ≤ length xs → had ≡ has words (get_or xs 1 0 ∷ get_or xs 2 0 ∷ get_or xs 3 0 ∷ get_or xs 4 0 ∷ [])
    → suits (get_or xs 0 0) had ≡ false → meets (wants_of xs) words ≡ false
meets-no xs words had h is bad =
    first-part xs words h ∙ ap (λ b. suits (get_or xs 0 0) b && meets (wants_of (drop 5 xs)) words) (sym is) ∙ ap (λ b. b && meets (wants_of (drop 5 xs)) words) bad

pub meets-yes : (xs : List ℕ) (words : List (List ℕ)) (had : Bool) → 5 ≤ length xs → had ≡ has words (get_or xs 1 0 ∷ get_or xs 2 0 ∷ get_or xs 3 0 ∷ get_or xs 4 0 ∷ [])
    → suits (get_or xs 0 0) had ≡ true → meets (wants_of xs) words ≡ meets (wants_of (drop 5 xs)) words
meets-yes xs words had h is good =
    first-part xs words h ∙ ap (λ b. suits (get_or xs 0 0) b && meets (wants_of (drop 5 xs)) words) (sym is) ∙ ap (λ b. b && meets (wants_of (drop 5 xs)) words) good

pub meets-short : (xs : List ℕ) (words : List (List ℕ)) → length xs < 5 → meets (wants_of xs) words ≡ true
unfolding meets wants_of names_after
meets-short [] words h = refl
meets-short (_ ∷ []) words h = refl
meets-short (_ ∷ _ ∷ []) words h = refl
meets-short (_ ∷ _ ∷ _ ∷ []) words h = refl
meets-short (_ ∷ _ ∷ _ ∷ _ ∷ []) words h = refl
meets-short (_ ∷ _ ∷ _ ∷ _ ∷ _ ∷ more) words h = absurd (omega arith)
