-- The order of a user's fields: that of the updates since which each is there, and then of the place in them.
use Rattle.std.proofs.Common.{◌≡◌, ℕ, suc, ◌+◌, Bool, true, false, not, ◌&&◌, ◌||◌, List, [], ◌∷◌, ◌++◌, length, filter, drop, get_or, cond, refl, sym, ap, ap₂, ◌∙◌, inl, inr, zero, subst, append_assoc, add-one, arith}
use Rattle.std.specs.Prelude.{◌==◌}
use Rattle.std.specs.List.{flat_map, range_with_len, AllByRecursion}
use Rattle.std.proofs.Math.Dec.{eqb-suc-suc, eqb-zero-suc}
use Rattle.std.proofs.lemmas.Bool.{cases_Bool, cond-true, cond-false}
use Rattle.std.proofs.lemmas.List.Elements.{filter-append}
use Rattle.inf_fields.specs.Field.{Field, field, has_name, besides}
use Rattle.inf_fields.specs.Merging.{leave, latest, settled_fields, merged_fields}
use Rattle.inf_fields.specs.Order.{start, since, in_order}
use Rattle.inf_fields.proofs.Changes.{has-here}
use Rattle.inf_fields.proofs.MergingLaws.{settled-stays, settled-goes, has_name-settled}
use Rattle.inf_fields.proofs.NameLemmas.{bytes_eq-same, has_name-append}

-- ---- a test of names passes the same fields before as after updates

module _ (test : List ℕ → Bool) where
  filter-settled : (updates : List (List Field)) (xs : List Field) → filter (λ f. test f.name) (settled_fields updates xs) ≡ settled_fields updates (filter (λ f. test f.name) xs)
  filter-settled updates [] = refl
  filter-settled updates (x ∷ xs) =
      let kept = filter (λ f. test f.name) xs in
      let there = field x.name (latest updates x.name x.value) in
      let rest = filter-settled updates xs in
      elim (cases_Bool (test x.name)) [
        | inl yes' ↦
            elim (cases_Bool (leave updates x.name)) [
              | inl stays ↦
                  ap (filter (λ f. test f.name)) (settled-stays updates x xs stays) ∙ cond-true _ (there ∷ filter (λ f. test f.name) (settled_fields updates xs)) (filter (λ f. test f.name) (settled_fields updates xs)) yes'
                  ∙ ap (λ fs. there ∷ fs) rest ∙ sym (ap (settled_fields updates) (cond-true _ (x ∷ kept) kept yes') ∙ settled-stays updates x kept stays)
              | inr goes ↦
                  ap (filter (λ f. test f.name)) (settled-goes updates x xs goes) ∙ rest
                  ∙ sym (ap (settled_fields updates) (cond-true _ (x ∷ kept) kept yes') ∙ settled-goes updates x kept goes)
            ]
        | inr no' ↦
            (elim (cases_Bool (leave updates x.name)) [
              | inl stays ↦
                  ap (filter (λ f. test f.name)) (settled-stays updates x xs stays)
                  ∙ cond-false _ (there ∷ filter (λ f. test f.name) (settled_fields updates xs)) (filter (λ f. test f.name) (settled_fields updates xs)) no'
              | inr goes ↦ ap (filter (λ f. test f.name)) (settled-goes updates x xs goes)
            ])
            ∙ rest ∙ sym (ap (settled_fields updates) (cond-false _ (x ∷ kept) kept no'))
      ]

-- ---- the first update

-- every field of a list has a name there
has_own-name : (before xs : List Field) → AllByRecursion (λ (f : Field). has_name f.name (before ++ xs) ≡ true) xs
has_own-name before [] = tt
has_own-name before (x ∷ xs) = (
  has_name-append x.name before (x ∷ xs) ∙ ap (λ b. has_name x.name before || b) (has-here x.name x xs (bytes_eq-same x.name)) ∙ or_last (has_name x.name before),
  subst' (append_assoc before (x ∷ []) xs) (has_own-name (before ++ x ∷ []) xs),
)
  where
    or_last : (b : Bool) → (b || true) ≡ true
    or_last true = refl
    or_last false = refl

    subst' : {ys zs : List Field} → ys ≡ zs → AllByRecursion (λ (f : Field). has_name f.name ys ≡ true) xs → AllByRecursion (λ (f : Field). has_name f.name zs ≡ true) xs
    subst' e h = subst (λ ws. AllByRecursion (λ (f : Field). has_name f.name ws ≡ true) xs) e h

start-first : (name : List ℕ) (u : List Field) (later : List (List Field)) → has_name name u ≡ true → leave (u ∷ later) name ≡ true → start name (u ∷ later) ≡ 0
start-first name u later has stays = cond-true _ 0 (suc (start name later)) (ap₂ ◌&&◌ has stays)

since-first : (u : List Field) (later : List (List Field)) (xs : List Field) → AllByRecursion (λ (f : Field). has_name f.name u ≡ true) xs
    → settled_fields (u ∷ later) (filter (λ f. start f.name (u ∷ later) == 0) xs) ≡ settled_fields (u ∷ later) xs
since-first u later [] own = refl
since-first u later (x ∷ xs) own =
    let all = u ∷ later in
    let kept = filter (λ f. start f.name all == 0) xs in
    let rest = since-first u later xs own.1 in
    elim (cases_Bool (leave all x.name)) [
      | inl stays ↦
          ap (settled_fields all) (cond-true _ (x ∷ kept) kept (ap (λ n. n == 0) (start-first x.name u later own.0 stays))) ∙ settled-stays all x kept stays
          ∙ ap (λ fs. field x.name (latest all x.name x.value) ∷ fs) rest ∙ sym (settled-stays all x xs stays)
      | inr goes ↦
          (elim (cases_Bool (start x.name all == 0)) [
            | inl first ↦ ap (settled_fields all) (cond-true _ (x ∷ kept) kept first) ∙ settled-goes all x kept goes
            | inr other ↦ ap (settled_fields all) (cond-false _ (x ∷ kept) kept other)
          ])
          ∙ rest ∙ sym (settled-goes all x xs goes)
    ]

-- ---- the later updates

-- a later update's fields are those that are not there since the first
start-later : (name : List ℕ) (u : List Field) (later : List (List Field)) (i : ℕ) → (start name (u ∷ later) == i + 1) ≡ (not (leave (u ∷ later) name && has_name name u) && (start name later == i))
start-later name u later i = by (has_name name u) (leave (u ∷ later) name)
  where
    next : i + 1 ≡ suc i
    next = omega arith

    by : (has stays : Bool) → (cond (has && stays) 0 (suc (start name later)) == i + 1) ≡ (not (stays && has) && (start name later == i))
    by true true = ap (λ n. 0 == n) next ∙ eqb-zero-suc i
    by true false = ap (λ n. suc (start name later) == n) next ∙ eqb-suc-suc (start name later) i
    by false true = ap (λ n. suc (start name later) == n) next ∙ eqb-suc-suc (start name later) i
    by false false = ap (λ n. suc (start name later) == n) next ∙ eqb-suc-suc (start name later) i

filter-both : (p q : List ℕ → Bool) (r : List ℕ → Bool) → ((n : List ℕ) → r n ≡ (p n && q n)) → (xs : List Field)
    → filter (λ f. r f.name) xs ≡ filter (λ f. p f.name) (filter (λ f. q f.name) xs)
filter-both p q r both [] = refl
filter-both p q r both (x ∷ xs) =
    let inner = filter (λ f. q f.name) xs in
    let outer = filter (λ f. p f.name) inner in
    let rest = filter-both p q r both xs in
    elim (cases_Bool (q x.name)) [
      | inl yes' ↦
          elim (cases_Bool (p x.name)) [
            | inl also ↦
                cond-true _ _ _ (both x.name ∙ ap₂ ◌&&◌ also yes') ∙ ap (λ fs. x ∷ fs) rest
                ∙ sym (ap (filter (λ f. p f.name)) (cond-true _ (x ∷ inner) inner yes') ∙ cond-true _ (x ∷ outer) outer also)
            | inr not_p ↦
                cond-false _ _ _ (both x.name ∙ ap₂ ◌&&◌ not_p yes') ∙ rest
                ∙ sym (ap (filter (λ f. p f.name)) (cond-true _ (x ∷ inner) inner yes') ∙ cond-false _ (x ∷ outer) outer not_p)
          ]
      | inr no' ↦
          cond-false _ _ _ (both x.name ∙ ap (λ b. p x.name && b) no' ∙ never (p x.name)) ∙ rest ∙ sym (ap (filter (λ f. p f.name)) (cond-false _ (x ∷ inner) inner no'))
    ]
  where
    never : (b : Bool) → (b && false) ≡ false
    never true = refl
    never false = refl

since-later : (u : List Field) (later : List (List Field)) (i : ℕ) → since (u ∷ later) (i + 1) ≡ besides (settled_fields (u ∷ later) u) (since later i)
since-later u later i =
    let all = u ∷ later in
    let first = settled_fields all u in
    let here = get_or later i [] in
    ap (λ n. settled_fields (drop n all) (filter (λ f. start f.name all == i + 1) (get_or all n []))) (add-one i)
    ∙ ap (settled_fields (drop i later))
    (filter-both (λ n. not (has_name n first)) (λ n. start n later == i) (λ n. start n all == i + 1)
    (λ n. start-later n u later i ∙ ap (λ b. not b && (start n later == i)) (sym (has_name-settled n all u)))
    here)
    ∙ sym (filter-settled (λ n. not (has_name n first)) (drop i later) (filter (λ f. start f.name later == i) here))

-- ---- all updates

flat_map-next : (g h : ℕ → List Field) → ((i : ℕ) → g (i + 1) ≡ h i) → (a n : ℕ) → flat_map g (range_with_len (a + 1) n) ≡ flat_map h (range_with_len a n)
flat_map-next g h next a zero = refl
flat_map-next g h next a (suc n) = ap₂ ◌++◌ (next a) (flat_map-next g h next (a + 1) n)

besides-flat_map : (others : List Field) (g : ℕ → List Field) (ns : List ℕ) → besides others (flat_map g ns) ≡ flat_map (λ n. besides others (g n)) ns
besides-flat_map others g [] = refl
besides-flat_map others g (n ∷ ns) = filter-append (λ f. not (has_name f.name others)) (g n) (flat_map g ns) ∙ ap (λ fs. besides others (g n) ++ fs) (besides-flat_map others g ns)

pub merged-in_order : (updates : List (List Field)) → merged_fields updates ≡ in_order updates
unfolding merged_fields
merged-in_order [] = refl
merged-in_order (u ∷ later) =
    let first = settled_fields (u ∷ later) u in
    ap₂ ◌++◌ (sym (since-first u later u (has_own-name [] u)))
    (ap (besides first) (merged-in_order later) ∙ besides-flat_map first (since later) (range_with_len 0 (length later))
    ∙ sym (flat_map-next (since (u ∷ later)) (λ i. besides first (since later i)) (since-later u later) 0 (length later)))
