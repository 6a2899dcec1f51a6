-- A name is among the words of four characters in order where it is among the words as they came.
use Rattle.std.proofs.Common.{◌≡◌, ◌∙◌, sym, ap, refl, ℕ, Bool, true, false, ◌||◌, nat_eq, List, [], ◌∷◌, length, arith, cond}
use Rattle.std.specs.Prelude.{bytes_eq, fold, ◌==◌}
use Rattle.std.specs.List.{list_any, filter}
use Rattle.std.specs.Ordering.{nat_cmp, is_eq, match_ordering}
use Rattle.std.specs.declared.cmp.Ordering.{Ordering}
use Rattle.std.specs.declared.cmp.Ordering.TheVariants.{Less, Equal, Greater}
use Rattle.std.specs.Cmp.Lexicographic.{slice_cmp}
use Rattle.std.specs.BTreeMap.{is_at}
use Rattle.std.specs.BTreeSet.{insert_key}
use Rattle.std.specs.Cmp.Lexicographic.{unequal}
use Rattle.std.proofs.lemmas.Bool.{false≢true, eq-eqb}
use Rattle.std.proofs.lemmas.Bool.Decides.{nat_tests}
use Rattle.std.proofs.lemmas.Cmp.{same_from_slice_cmp}
use Rattle.std.proofs.lemmas.Map.Lookups.{exact_bytes}
use Rattle.feature_route.specs.Matching.{has, su_words, feature_set}

-- `==` and the order agree
pub equal-bytes : (x y : List ℕ) → is_eq (slice_cmp nat_cmp x y) ≡ bytes_eq x y
equal-bytes x y = same_from_slice_cmp nat_cmp is_eq bytes_eq refl (λ _ _. refl) (λ _ _. refl) (λ x y xs ys o h. grind (arith, nat_tests)) x y _ refl

-- what a look-up among names in order finds
pub has-ordered : (names : List (List ℕ)) (name : List ℕ) → list_any (is_at (slice_cmp nat_cmp name)) names ≡ has names name
has-ordered [] name = refl
has-ordered (x ∷ xs) name = ap (λ b. b || list_any (is_at (slice_cmp nat_cmp name)) xs) (equal-bytes name x) ∙ ap (λ b. bytes_eq name x || b) (has-ordered xs name)

or-twice : (b r : Bool) → (b || r) ≡ (b || (b || r))
or-twice true r = refl
or-twice false r = refl

or-swap : (b c r : Bool) → (b || (c || r)) ≡ (c || (b || r))
or-swap true true r = refl
or-swap true false r = refl
or-swap false c r = refl

or-false : (b : Bool) → b ≡ (b || false)
or-false true = refl
or-false false = refl

or-flip : (b c : Bool) → (b || c) ≡ (c || b)
or-flip true true = refl
or-flip true false = refl
or-flip false true = refl
or-flip false false = refl

or-group : (b c r : Bool) → ((b || c) || r) ≡ (b || (c || r))
or-group true c r = refl
or-group false c r = refl

-- a word of four characters joins the others at its place in their order, where it is not there yet
abbrev pub with_name : List (List ℕ) → List ℕ → List (List ℕ)
with_name names word = cond (length word == 4) (insert_key (slice_cmp nat_cmp) names word) names

fold-four : (names words : List (List ℕ)) → fold with_name names words ≡ fold (insert_key (slice_cmp nat_cmp)) names (filter (λ (word : List ℕ). length word == 4) words)
fold-four names [] = refl
fold-four names (word ∷ words) =
    let four : List (List ℕ) = filter (λ (w : List ℕ). length w == 4) words in
    let go : (m : Bool) → fold with_name (cond m (insert_key (slice_cmp nat_cmp) names word) names) words ≡ fold (insert_key (slice_cmp nat_cmp)) names (cond m (word ∷ four) four) =
    elim [
      | true ↦ fold-four (insert_key (slice_cmp nat_cmp) names word) words
      | false ↦ fold-four names words
    ] in
    go (length word == 4)

-- the words of a text, one after another
pub feature_set-fold : (su : List ℕ) → fold with_name [] (su_words su) ≡ feature_set su
unfolding feature_set
feature_set-fold su = fold-four [] (su_words su)

-- one more name
pub has-insert : (names : List (List ℕ)) (word name : List ℕ) → has (insert_key (slice_cmp nat_cmp) names word) name ≡ (bytes_eq name word || has names name)
has-insert [] word name = refl
has-insert (x ∷ xs) word name =
    let e : List ℕ → Bool = bytes_eq name in
    let go : (o : Ordering) → slice_cmp nat_cmp word x ≡ o → has (match_ordering o (word ∷ x ∷ xs) (x ∷ xs) (x ∷ insert_key (slice_cmp nat_cmp) xs word)) name ≡ (e word || (e x || has xs name)) =
    elim [
      | Less ↦ λ is. refl
      | Equal ↦ λ is. or-twice (e x) (has xs name) ∙ ap (λ y. e y || (e x || has xs name)) (sym (exact_bytes word x is))
      | Greater ↦ λ is. ap (λ b. e x || b) (has-insert xs word name) ∙ or-swap (e x) (e word) (has xs name)
    ] in
    go (slice_cmp nat_cmp word x) refl

-- words of other lengths are not the name
apart : (name word : List ℕ) → length name ≡ 4 → (length word == 4) ≡ false → bytes_eq name word ≡ false
apart name word long other = unequal nat_eq name word (λ same. false≢true (sym other ∙ eq-eqb (length word) 4 (sym same ∙ long)))

has-with_name : (names : List (List ℕ)) (word name : List ℕ) → length name ≡ 4 → has (with_name names word) name ≡ (has names name || bytes_eq name word)
has-with_name names word name long =
    let go : (m : Bool) → (length word == 4) ≡ m → has (cond m (insert_key (slice_cmp nat_cmp) names word) names) name ≡ (has names name || bytes_eq name word) =
    elim [
      | true ↦ λ is. has-insert names word name ∙ or-flip (bytes_eq name word) (has names name)
      | false ↦ λ is. or-false (has names name) ∙ ap (λ b. has names name || b) (sym (apart name word long is))
    ] in
    go (length word == 4) refl

has-fold : (names words : List (List ℕ)) (name : List ℕ) → length name ≡ 4 → has (fold with_name names words) name ≡ (has names name || has words name)
has-fold names [] name long = or-false (has names name)
has-fold names (word ∷ words) name long =
    has-fold (with_name names word) words name long
    ∙ ap (λ b. b || has words name) (has-with_name names word name long)
    ∙ or-group (has names name) (bytes_eq name word) (has words name)

-- the set of an SU has the names of four characters that its words have
pub has-feature_set : (su name : List ℕ) → length name ≡ 4 → has (feature_set su) name ≡ has (su_words su) name
has-feature_set su name long = ap (λ names. has names name) (sym (feature_set-fold su)) ∙ has-fold [] (su_words su) name long
