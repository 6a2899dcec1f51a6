-- A loop that changes one element after the other.
use Rattle.std.proofs.Common.{◌≡◌, ◌<◌, ◌≤◌, ◌+◌, ◌⊎◌, ℕ, zero, suc, List, length, set, Some, slice_get, refl, sym, ◌∙◌, ap, subst, inl, inr, arith, length-set, take, drop, ◌++◌}
use Rattle.std.proofs.lemmas.Option.{same_Some, none-some, slice_get_past, slice_get_within}
use Rattle.std.proofs.Math.Seq.{take-append_seam}
use Rattle.server_tasks.specs.Becomes.{EachBecomes}
use Rattle.server_tasks.proofs.Indexes.{get_set_other, get_set_here, get_set_same, same_or_not}

-- the elements below the bound were changed, and no others
abbrev pub ChangedBelow : {A : Type 0} → (A → A) → List A → ℕ → List A → Type 0
ChangedBelow f old bound new =
    (length new ≡ length old)
    × ((place : ℕ) (was : _) → slice_get old place ≡ Some was → place < bound → slice_get new place ≡ Some (f was))
    × ((place : ℕ) (was : _) → slice_get old place ≡ Some was → bound ≤ place → slice_get new place ≡ Some was)

pub none_changed : {A : Type 0} (f : A → A) (xs : List A) → ChangedBelow f xs 0 xs
none_changed f xs = (refl, λ place was got lt. absurd (omega (arith, lt)), λ place was got le. got)

-- one more is changed
pub one_more_changed : {A : Type 0} (f : A → A) (old mid : List A) (bound : ℕ) (now after : A) → ChangedBelow f old bound mid → bound < length mid →
    slice_get mid bound ≡ Some now → after ≡ f now → ChangedBelow f old (bound + 1) (set mid bound after)
one_more_changed f old mid bound now after were lt here is = (
  length-set mid bound after ∙ were.0,
  (λ place was got lt_next. elim (same_or_not bound place) [
    | inl same ↦
        let at : slice_get old bound ≡ Some was = subst (λ k. slice_get old k ≡ Some was) same got in
        let now_was : now ≡ was = same_Some now was (sym here ∙ were.2 bound was at (omega arith)) in
        subst (λ k. slice_get (set mid bound after) k ≡ Some (f was)) (sym same) (get_set_here mid bound after lt ∙ ap Some (is ∙ ap f now_was))
    | inr other ↦ get_set_other mid bound after place other ∙ were.1 place was got (omega (arith, other, lt_next))
  ]),
  (λ place was got le. get_set_other mid bound after place (λ same. omega (arith, same, le)) ∙ were.2 place was got (omega (arith, le))),
)

within_or_past : (i n : ℕ) → (i < n) ⊎ (n ≤ i)
within_or_past i zero = inr (omega arith)
within_or_past zero (suc n) = inl (omega arith)
within_or_past (suc i) (suc n) = elim (within_or_past i n) [ inl lt ↦ inl (omega (arith, lt)) | inr le ↦ inr (omega (arith, le)) ]

-- once the bound is past all of them, each is changed
pub all_changed : {A : Type 0} (f : A → A) (old new : List A) (bound : ℕ) → length new ≤ bound → ChangedBelow f old bound new → EachBecomes f old new
all_changed f old new bound past were = (
  were.0,
  λ place was got. elim (within_or_past place (length old)) [
    | inl lt ↦ were.1 place was got (omega (arith, lt, past, were.0))
    | inr le ↦ absurd (none-some was (sym (slice_get_past old place le) ∙ got))
  ],
)

-- the elements below the bound became what this says, and no others
abbrev pub RelatedBelow : {A : Type 0} → (A → A → Type 0) → List A → ℕ → List A → Type 0
RelatedBelow R old bound new =
    (length new ≡ length old)
    × ((place : ℕ) (was now : _) → slice_get old place ≡ Some was → slice_get new place ≡ Some now → place < bound → R was now)
    × ((place : ℕ) → bound ≤ place → slice_get new place ≡ slice_get old place)

pub none_related : {A : Type 0} (R : A → A → Type 0) (xs : List A) → RelatedBelow R xs 0 xs
none_related R xs = (refl, λ place was now got here lt. absurd (omega (arith, lt)), λ place le. refl)

-- one more became so
pub one_more_related : {A : Type 0} (R : A → A → Type 0) (old mid : List A) (bound : ℕ) (before after : A) → RelatedBelow R old bound mid →
    slice_get mid bound ≡ Some before → R before after → RelatedBelow R old (bound + 1) (set mid bound after)
one_more_related R old mid bound before after were here is = (
  length-set mid bound after ∙ were.0,
  (λ place was now got there lt_next. elim (same_or_not bound place) [
    | inl same ↦
        let at : slice_get old bound ≡ Some was = subst (λ k. slice_get old k ≡ Some was) same got in
        let was_before : was ≡ before = same_Some was before (sym at ∙ sym (were.2 bound (omega arith)) ∙ here) in
        let at_new : slice_get (set mid bound after) bound ≡ Some now = subst (λ k. slice_get (set mid bound after) k ≡ Some now) same there in
        let after_now : after ≡ now = get_set_same mid bound after now at_new in
        subst (λ x. R x now) (sym was_before) (subst (R before) after_now is)
    | inr other ↦ were.1 place was now got (sym (get_set_other mid bound after place other) ∙ there) (omega (arith, other, lt_next))
  ]),
  (λ place le. get_set_other mid bound after place (λ same. omega (arith, same, le)) ∙ were.2 place (omega (arith, le))),
)

-- what a loop over all elements leaves of a list
pub all_written : {A : Type 0} (xs ys : List A) (n : ℕ) → n ≡ length ys → length xs ≡ length ys → take n (xs ++ drop (length xs) ys) ≡ xs
all_written xs ys n is same = ap (λ k. take k (xs ++ drop (length xs) ys)) (is ∙ sym same) ∙ take-append_seam xs (drop (length xs) ys)

-- once the bound is past all of them, each became so
pub all_related : {A : Type 0} (R : A → A → Type 0) (old new : List A) (bound : ℕ) → length new ≤ bound → RelatedBelow R old bound new →
    (place : ℕ) (was now : A) → slice_get old place ≡ Some was → slice_get new place ≡ Some now → R was now
all_related R old new bound past were place was now got there =
    let lt : place < length new = slice_get_within new place now there in
    were.1 place was now got there (omega (arith, lt, past))
