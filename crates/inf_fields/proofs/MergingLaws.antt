-- One update more makes of what is known of a user what all updates together make of it.
use Rattle.std.proofs.Common.{◌≡◌, ℕ, Bool, true, false, not, ◌&&◌, ◌||◌, List, [], ◌∷◌, ◌++◌, map, filter, cond, refl, sym, ap, ap₂, ◌∙◌, inl, inr, append_assoc, append-nil}
use Rattle.std.specs.Prelude.{Option, Some, None, fold, is_some}
use Rattle.std.specs.Option.{unwrap_or, option_or, option_map}
use Rattle.std.proofs.lemmas.Bool.{cases_Bool, cond-true, cond-false, not_from_true, not_from_false}
use Rattle.std.proofs.lemmas.List.{map-append}
use Rattle.std.proofs.lemmas.List.Elements.{filter-append, filter_agree}
use Rattle.std.proofs.lemmas.List.Folds.{list_all-append}
use Rattle.inf_fields.specs.Field.{Field, field, value_of, has_name, besides}
use Rattle.inf_fields.specs.Merging.{is_empty_value, leave, latest, settled_fields, followed_by, merged_fields, renewed, merged_with, last_value, if_filled}
use Rattle.inf_fields.proofs.NameLemmas.{value_of-append, value_of-filter, value_of-map, value_of-besides, has_name-append, has_name-besides}

-- ---- what updates leave of fields

pub settled-append : (updates : List (List Field)) (xs ys : List Field) → settled_fields updates (xs ++ ys) ≡ settled_fields updates xs ++ settled_fields updates ys
settled-append updates xs ys =
    ap (map (λ (f : Field). field f.name (latest updates f.name f.value))) (filter-append (λ (f : Field). leave updates f.name) xs ys)
    ∙ map-append (λ (f : Field). field f.name (latest updates f.name f.value)) (filter (λ f. leave updates f.name) xs) (filter (λ f. leave updates f.name) ys)

pub value_of-settled : (name : List ℕ) (updates : List (List Field)) (xs : List Field)
    → value_of name (settled_fields updates xs) ≡ option_map (latest updates name) (cond (leave updates name) (value_of name xs) None)
value_of-settled name updates xs =
    value_of-map (latest updates) name (filter (λ f. leave updates f.name) xs) ∙ ap (option_map (latest updates name)) (value_of-filter (leave updates) name xs)

is_some-settled : {A : Type 0} (b : Bool) (h : A → A) (o : Option A) → is_some (option_map h (cond b o None)) ≡ (b && is_some o)
is_some-settled false h o = refl
is_some-settled true h None = refl
is_some-settled true h (Some x) = refl

pub has_name-settled : (name : List ℕ) (updates : List (List Field)) (xs : List Field) → has_name name (settled_fields updates xs) ≡ (leave updates name && has_name name xs)
has_name-settled name updates xs = ap is_some (value_of-settled name updates xs) ∙ is_some-settled (leave updates name) (latest updates name) (value_of name xs)

latest-append : (us vs : List (List Field)) (name value : List ℕ) → latest (us ++ vs) name value ≡ latest vs name (latest us name value)
latest-append [] vs name value = refl
latest-append (u ∷ us) vs name value = latest-append us vs name (unwrap_or (value_of name u) value)

-- a field that updates leave is there with its last value
pub settled-stays : (updates : List (List Field)) (x : Field) (xs : List Field) → leave updates x.name ≡ true
    → settled_fields updates (x ∷ xs) ≡ field x.name (latest updates x.name x.value) ∷ settled_fields updates xs
settled-stays updates x xs stays =
    ap (map (λ (f : Field). field f.name (latest updates f.name f.value))) (cond-true _ (x ∷ filter (λ f. leave updates f.name) xs) (filter (λ f. leave updates f.name) xs) stays)

-- and one that they empty is not
pub settled-goes : (updates : List (List Field)) (x : Field) (xs : List Field) → leave updates x.name ≡ false → settled_fields updates (x ∷ xs) ≡ settled_fields updates xs
settled-goes updates x xs goes =
    ap (map (λ (f : Field). field f.name (latest updates f.name f.value))) (cond-false _ (x ∷ filter (λ f. leave updates f.name) xs) (filter (λ f. leave updates f.name) xs) goes)

pub settled-settled : (us vs : List (List Field)) (xs : List Field) → settled_fields (us ++ vs) xs ≡ settled_fields vs (settled_fields us xs)
settled-settled us vs [] = refl
settled-settled us vs (x ∷ xs) =
    let both = list_all-append (λ u. not (is_empty_value (value_of x.name u))) us vs in
    elim (cases_Bool (leave us x.name)) [
      | inl stays ↦
          let first = settled-stays us x xs stays in
          elim (cases_Bool (leave vs x.name)) [
            | inl also ↦
                settled-stays (us ++ vs) x xs (both ∙ ap₂ ◌&&◌ stays also) ∙ ap₂ (λ v fs. field x.name v ∷ fs) (latest-append us vs x.name x.value) (settled-settled us vs xs)
                ∙ sym (ap (settled_fields vs) first ∙ settled-stays vs (field x.name (latest us x.name x.value)) (settled_fields us xs) also)
            | inr goes ↦
                settled-goes (us ++ vs) x xs (both ∙ ap₂ ◌&&◌ stays goes) ∙ settled-settled us vs xs
                ∙ sym (ap (settled_fields vs) first ∙ settled-goes vs (field x.name (latest us x.name x.value)) (settled_fields us xs) goes)
          ]
      | inr goes ↦ settled-goes (us ++ vs) x xs (both ∙ ap (λ b. b && leave vs x.name) goes) ∙ settled-settled us vs xs ∙ sym (ap (settled_fields vs) (settled-goes us x xs goes))
    ]

-- ---- what others do not have

pub besides-has : (others : List Field) (x : Field) (xs : List Field) → has_name x.name others ≡ true → besides others (x ∷ xs) ≡ besides others xs
besides-has others x xs has = cond-false _ (x ∷ besides others xs) (besides others xs) (not_from_true _ has)

pub besides-lacks : (others : List Field) (x : Field) (xs : List Field) → has_name x.name others ≡ false → besides others (x ∷ xs) ≡ x ∷ besides others xs
besides-lacks others x xs lacks = cond-true _ (x ∷ besides others xs) (besides others xs) (not_from_false _ lacks)

pub besides-nil : (xs : List Field) → besides [] xs ≡ xs
besides-nil [] = refl
besides-nil (x ∷ xs) = ap (λ fs. x ∷ fs) (besides-nil xs)

pub besides-settled : (updates : List (List Field)) (others xs : List Field) → besides (settled_fields updates others) (settled_fields updates xs) ≡ settled_fields updates (besides others xs)
besides-settled updates others [] = refl
besides-settled updates others (x ∷ xs) =
    let has = has_name-settled x.name updates others in
    let rest = besides-settled updates others xs in
    elim (cases_Bool (leave updates x.name)) [
      | inl stays ↦
          let there = field x.name (latest updates x.name x.value) in
          ap (besides (settled_fields updates others)) (settled-stays updates x xs stays)
          ∙ (elim (cases_Bool (has_name x.name others)) [
            | inl yes' ↦
                besides-has (settled_fields updates others) there (settled_fields updates xs) (has ∙ ap₂ ◌&&◌ stays yes') ∙ rest ∙ sym (ap (settled_fields updates) (besides-has others x xs yes'))
            | inr no' ↦
                besides-lacks (settled_fields updates others) there (settled_fields updates xs) (has ∙ ap₂ ◌&&◌ stays no') ∙ ap (λ fs. there ∷ fs) rest
                ∙ sym (ap (settled_fields updates) (besides-lacks others x xs no') ∙ settled-stays updates x (besides others xs) stays)
          ])
      | inr goes ↦
          ap (besides (settled_fields updates others)) (settled-goes updates x xs goes) ∙ rest
          ∙ (elim (cases_Bool (has_name x.name others)) [
            | inl yes' ↦ sym (ap (settled_fields updates) (besides-has others x xs yes'))
            | inr no' ↦ sym (ap (settled_fields updates) (besides-lacks others x xs no') ∙ settled-goes updates x (besides others xs) goes)
          ])
    ]

has_name-followed : (name : List ℕ) (xs ys : List Field) → has_name name (followed_by xs ys) ≡ (has_name name xs || (not (has_name name xs) && has_name name ys))
has_name-followed name xs ys = has_name-append name xs (besides xs ys) ∙ ap (λ b. has_name name xs || b) (has_name-besides name xs ys)

pub besides-besides : (first second xs : List Field) → besides first (besides second xs) ≡ besides (followed_by first second) xs
besides-besides first second [] = refl
besides-besides first second (x ∷ xs) =
    let has = has_name-followed x.name first second in
    let rest = besides-besides first second xs in
    elim (cases_Bool (has_name x.name first)) [
      | inl yes' ↦
          let now = has ∙ ap (λ b. b || (not b && has_name x.name second)) yes' in
          (elim (cases_Bool (has_name x.name second)) [
            | inl also ↦ ap (besides first) (besides-has second x xs also)
            | inr not_second ↦ ap (besides first) (besides-lacks second x xs not_second) ∙ besides-has first x (besides second xs) yes'
          ])
          ∙ rest ∙ sym (besides-has (followed_by first second) x xs now)
      | inr no' ↦
          elim (cases_Bool (has_name x.name second)) [
            | inl also ↦
                ap (besides first) (besides-has second x xs also) ∙ rest
                ∙ sym (besides-has (followed_by first second) x xs (has ∙ ap₂ (λ b c. b || (not b && c)) no' also))
            | inr not_second ↦
                ap (besides first) (besides-lacks second x xs not_second) ∙ besides-lacks first x (besides second xs) no' ∙ ap (λ fs. x ∷ fs) rest
                ∙ sym (besides-lacks (followed_by first second) x xs (has ∙ ap₂ (λ b c. b || (not b && c)) no' not_second))
          ]
    ]

-- ---- the laws

and_true : (b : Bool) → b ≡ (b && true)
and_true true = refl
and_true false = refl

-- one update leaves of fields what it leaves of them and of its own others
pub merged_with-settled : (fields u : List Field) → merged_with fields u ≡ settled_fields (u ∷ []) (followed_by fields u)
unfolding merged_with
merged_with-settled fields u =
    ap (map (renewed u)) (filter_agree (λ (f : Field). not (is_empty_value (value_of f.name u))) (λ (f : Field). leave (u ∷ []) f.name) (λ f. and_true _) (fields ++ besides fields u))

merged_fields-more : (updates : List (List Field)) (u : List Field) → merged_fields (updates ++ u ∷ []) ≡ settled_fields (u ∷ []) (followed_by (merged_fields updates) u)
unfolding merged_fields
merged_fields-more [] u = append-nil (settled_fields (u ∷ []) u) ∙ ap (settled_fields (u ∷ [])) (sym (besides-nil u))
merged_fields-more (first ∷ later) u =
    let stands = settled_fields (first ∷ later) first in
    let rest = merged_fields later in
    let one = u ∷ [] in
    ap₂ followed_by (settled-settled (first ∷ later) one first) (merged_fields-more later u)
    ∙ ap (λ fs. settled_fields one stands ++ fs) (besides-settled one stands (followed_by rest u))
    ∙ sym (settled-append one stands (besides stands (followed_by rest u)))
    ∙ ap (settled_fields one)
    (ap (λ fs. stands ++ fs) (filter-append (λ f. not (has_name f.name stands)) rest (besides rest u) ∙ ap (λ fs. besides stands rest ++ fs) (besides-besides stands rest u))
    ∙ sym (append_assoc stands (besides stands rest) (besides (followed_by stands rest) u)))

pub merged-more : (updates : List (List Field)) (u : List Field) → merged_fields (updates ++ u ∷ []) ≡ merged_with (merged_fields updates) u
merged-more updates u = merged_fields-more updates u ∙ sym (merged_with-settled (merged_fields updates) u)

merged-from : (done rest : List (List Field)) → fold merged_with (merged_fields done) rest ≡ merged_fields (done ++ rest)
merged-from done [] = ap merged_fields (sym (append-nil done))
merged-from done (u ∷ rest) =
    ap (λ fs. fold merged_with fs rest) (sym (merged-more done u)) ∙ merged-from (done ++ u ∷ []) rest ∙ ap merged_fields (append_assoc done (u ∷ []) rest)

-- updates merged one after another, beginning with no fields
pub merged-all : (updates : List (List Field)) → fold merged_with [] updates ≡ merged_fields updates
unfolding merged_fields
merged-all updates = merged-from [] updates

-- what updates said last
latest-last : (updates : List (List Field)) (name value : List ℕ) → latest updates name value ≡ unwrap_or (last_value name updates) value
latest-last [] name value = refl
latest-last (u ∷ later) name value = latest-last later name (unwrap_or (value_of name u) value) ∙ by (last_value name later) (value_of name u)
  where
    by : (o p : Option (List ℕ)) → unwrap_or o (unwrap_or p value) ≡ unwrap_or (option_or o p) value
    by None p = refl
    by (Some x) p = refl

-- where updates leave a name, the last value is not empty, and else there is one
record Last (kept : Bool) (value : Option (List ℕ)) : Type 0 where
  filled : kept ≡ true → if_filled value ≡ value
  said : kept ≡ false → is_some value ≡ true

last_of : (name : List ℕ) (updates : List (List Field)) → Last (leave updates name) (last_value name updates)
last_of name [] = record { filled = λ _. refl; said = λ e. cc }
last_of name (u ∷ later) = by (value_of name u) (last_value name later) (leave later name) (last_of name later)
  where
    by : (o later : Option (List ℕ)) (kept : Bool) → Last kept later → Last (not (is_empty_value o) && kept) (option_or later o)
    by None None kept h = h
    by None (Some x) kept h = h
    by (Some []) None kept h = record { filled = λ e. cc; said = λ _. refl }
    by (Some []) (Some x) kept h = record { filled = λ e. cc; said = λ _. refl }
    by (Some (b ∷ more)) None kept h = record { filled = λ _. refl; said = λ _. refl }
    by (Some (b ∷ more)) (Some x) kept h = h

-- A field is there where the last update that names it gives it a value that is not empty, and has that value.
pub value_of-merged : (name : List ℕ) (updates : List (List Field)) → value_of name (merged_fields updates) ≡ if_filled (last_value name updates)
unfolding merged_fields
value_of-merged name [] = refl
value_of-merged name (u ∷ later) =
    value_of-append name (settled_fields (u ∷ later) u) (besides (settled_fields (u ∷ later) u) (merged_fields later))
    ∙ ap (option_or (value_of name (settled_fields (u ∷ later) u))) (value_of-besides name (settled_fields (u ∷ later) u) (merged_fields later))
    ∙ first_or (value_of name (settled_fields (u ∷ later) u)) (value_of name (merged_fields later))
    ∙ ap₂ option_or (value_of-settled name (u ∷ later) u) (value_of-merged name later)
    ∙ in_all (value_of name u) (last_value name later) (leave later name) (latest (u ∷ later) name) (last_of name later) (latest-last (u ∷ later) name)
  where
    first_or : (o p : Option (List ℕ)) → option_or o (cond (not (is_some o)) p None) ≡ option_or o p
    first_or None p = refl
    first_or (Some x) p = refl

    in_all : (o l : Option (List ℕ)) (kept : Bool) (h : List ℕ → List ℕ) → Last kept l → ((v : List ℕ) → h v ≡ unwrap_or (option_or l o) v)
        → option_or (option_map h (cond (not (is_empty_value o) && kept) o None)) (if_filled l) ≡ if_filled (option_or l o)
    in_all None None true h last is = refl
    in_all None None false h last is = refl
    in_all None (Some x) true h last is = refl
    in_all None (Some x) false h last is = refl
    in_all (Some []) None kept h last is = refl
    in_all (Some []) (Some x) kept h last is = refl
    in_all (Some (b ∷ more)) None true h last is = ap Some (is (b ∷ more))
    in_all (Some (b ∷ more)) None false h last is = let bad : false ≡ true = last.said refl in cc
    in_all (Some (b ∷ more)) (Some x) true h last is = ap Some (is (b ∷ more)) ∙ sym (last.filled refl)
    in_all (Some (b ∷ more)) (Some x) false h last is = refl
