-- The fields of an update, taken one after another, change fields as the update does; and how many there are then.
use Rattle.std.proofs.Common.{◌≡◌, ℕ, ◌+◌, Bool, true, false, not, ◌&&◌, List, [], ◌∷◌, ◌++◌, length, cond, refl, sym, ap, ap₂, ◌∙◌, inl, inr, append-nil, append_assoc, arith}
use Rattle.std.specs.Prelude.{Option, Some, None}
use Rattle.std.specs.Option.{unwrap_or}
use Rattle.std.specs.Str.{bytes_eq}
use Rattle.std.proofs.lemmas.Bool.{cases_Bool, cond-true, cond-false}
use Rattle.std.proofs.lemmas.List.Elements.{filter-append}
use Rattle.inf_fields.specs.Changes.{without_first, put, changed_fields, changed_to, all_changed}
use Rattle.inf_fields.specs.Field.{Field, field, is_called, value_of, has_name, besides}
use Rattle.inf_fields.specs.Merging.{is_empty_value, leave, latest, settled_fields, merged_with}
use Rattle.inf_fields.proofs.Changes.{Apart, Apart-changed, changed-settled, has_name-changed, settled-lacks, value_of-lacks, lacks-here, lacks-behind, has-here, has-behind}
use Rattle.inf_fields.proofs.MergingLaws.{settled-append, settled-settled, settled-stays, settled-goes, besides-has, besides-lacks, merged_with-settled}
use Rattle.inf_fields.proofs.NameLemmas.{same_bytes, bytes_eq-flip, has_name-besides}

-- updates that do the same to each name do the same to fields
settled-agree : (us vs : List (List Field)) → ((n : List ℕ) → leave us n ≡ leave vs n) → ((n v : List ℕ) → latest us n v ≡ latest vs n v) → (xs : List Field) → settled_fields us xs ≡ settled_fields vs xs
settled-agree us vs leaves lasts [] = refl
settled-agree us vs leaves lasts (x ∷ xs) =
    elim (cases_Bool (leave us x.name)) [
      | inl stays ↦
          settled-stays us x xs stays ∙ ap₂ (λ v fs. field x.name v ∷ fs) (lasts x.name x.value) (settled-agree us vs leaves lasts xs)
          ∙ sym (settled-stays vs x xs (sym (leaves x.name) ∙ stays))
      | inr goes ↦ settled-goes us x xs goes ∙ settled-agree us vs leaves lasts xs ∙ sym (settled-goes vs x xs (sym (leaves x.name) ∙ goes))
    ]

-- the first field of an update alone, and then the others
settled-split : (f : Field) (u xs : List Field) → has_name f.name u ≡ false → settled_fields ((f ∷ u) ∷ []) xs ≡ settled_fields (u ∷ []) (settled_fields ((f ∷ []) ∷ []) xs)
settled-split f u xs lacks = settled-agree ((f ∷ u) ∷ []) ((f ∷ []) ∷ u ∷ []) leaves lasts xs ∙ settled-settled ((f ∷ []) ∷ []) (u ∷ []) xs
  where
    no_more : (n : List ℕ) → bytes_eq n f.name ≡ true → value_of n u ≡ None
    no_more n same = value_of-lacks n u (ap (λ m. has_name m u) (same_bytes n f.name same) ∙ lacks)

    leaves_by : (b : Bool) (o : Option (List ℕ)) → (b ≡ true → o ≡ None)
        → (not (is_empty_value (cond b (Some f.value) o)) && true) ≡ (not (is_empty_value (cond b (Some f.value) None)) && (not (is_empty_value o) && true))
    leaves_by true o none = ap (λ p. not (is_empty_value (Some f.value)) && (not (is_empty_value p) && true)) (sym (none refl))
    leaves_by false o none = refl

    lasts_by : (v : List ℕ) (b : Bool) (o : Option (List ℕ)) → (b ≡ true → o ≡ None) → unwrap_or (cond b (Some f.value) o) v ≡ unwrap_or o (unwrap_or (cond b (Some f.value) None) v)
    lasts_by v true o none = ap (λ p. unwrap_or p f.value) (sym (none refl))
    lasts_by v false o none = refl

    leaves : (n : List ℕ) → leave ((f ∷ u) ∷ []) n ≡ leave ((f ∷ []) ∷ u ∷ []) n
    leaves n = leaves_by (bytes_eq n f.name) (value_of n u) (no_more n)

    lasts : (n v : List ℕ) → latest ((f ∷ u) ∷ []) n v ≡ latest ((f ∷ []) ∷ u ∷ []) n v
    lasts n v = lasts_by v (bytes_eq n f.name) (value_of n u) (no_more n)

-- a change of one field leaves what others there are of other names
besides-changed : (f : Field) (xs u : List Field) → has_name f.name u ≡ false → besides (changed_fields f xs) u ≡ besides xs u
besides-changed f xs [] lacks = refl
besides-changed f xs (x ∷ u) lacks =
    let same = has_name-changed f x.name xs (bytes_eq-flip x.name f.name ∙ lacks-here f.name x u lacks) in
    let rest = besides-changed f xs u (lacks-behind f.name x u lacks) in
    elim (cases_Bool (has_name x.name xs)) [
      | inl has ↦ besides-has (changed_fields f xs) x u (same ∙ has) ∙ rest ∙ sym (besides-has xs x u has)
      | inr hasnt ↦ besides-lacks (changed_fields f xs) x u (same ∙ hasnt) ∙ ap (λ fs. x ∷ fs) rest ∙ sym (besides-lacks xs x u hasnt)
    ]

pub merged_with-step : (f : Field) (u xs : List Field) → has_name f.name u ≡ false → Apart xs → merged_with xs (f ∷ u) ≡ merged_with (changed_fields f xs) u
merged_with-step f u xs lacks h =
    let first = (f ∷ []) ∷ [] in
    let others = besides xs u in
    merged_with-settled xs (f ∷ u)
    ∙ settled-split f u (xs ++ besides xs (f ∷ u)) lacks
    ∙ ap (settled_fields (u ∷ []))
    (ap (λ fs. settled_fields first (xs ++ fs)) (filter-append (λ x. not (has_name x.name xs)) (f ∷ []) u) ∙ ap (settled_fields first) (sym (append_assoc xs (besides xs (f ∷ [])) others))
    ∙ settled-append first (xs ++ besides xs (f ∷ [])) others
    ∙ ap₂ ◌++◌ (sym (changed-settled f xs h)) (settled-lacks f others (has_name-besides f.name xs u ∙ ap (λ b. not (has_name f.name xs) && b) lacks ∙ never (not (has_name f.name xs))))
    ∙ ap (λ fs. changed_fields f xs ++ fs) (sym (besides-changed f xs u lacks)))
    ∙ sym (merged_with-settled (changed_fields f xs) u)
  where
    never : (b : Bool) → (b && false) ≡ false
    never true = refl
    never false = refl

settled-none : (xs : List Field) → settled_fields ([] ∷ []) xs ≡ xs
settled-none [] = refl
settled-none (x ∷ xs) = ap (λ fs. x ∷ fs) (settled-none xs)

pub merged_with-none : (xs : List Field) → merged_with xs [] ≡ xs
merged_with-none xs = merged_with-settled xs [] ∙ ap (settled_fields ([] ∷ [])) (append-nil xs) ∙ settled-none xs

pub all_changed-merged : (u xs : List Field) → Apart u → Apart xs → all_changed u xs ≡ merged_with xs u
all_changed-merged [] xs h k = sym (merged_with-none xs)
all_changed-merged (f ∷ u) xs h k = all_changed-merged u (changed_fields f xs) h.1 (Apart-changed f xs k) ∙ sym (merged_with-step f u xs h.0 k)

-- ---- how many fields

-- how many more fields a field makes, whose name is there or not
abbrev pub gain : Bool → List ℕ → ℕ
gain true value = 0
gain false [] = 0
gain false (b ∷ more) = 1

-- and how many fewer
abbrev pub loss : Bool → List ℕ → ℕ
loss true [] = 1
loss true (b ∷ more) = 0
loss false value = 0

abbrev pub gains : List Field → List Field → ℕ
gains xs [] = 0
gains xs (f ∷ more) = gain (has_name f.name xs) f.value + gains xs more

abbrev pub losses : List Field → List Field → ℕ
losses xs [] = 0
losses xs (f ∷ more) = loss (has_name f.name xs) f.value + losses xs more

length-changed : (value name : List ℕ) (xs : List Field)
    → length (changed_to value (field name value) xs) + loss (has_name name xs) value ≡ length xs + gain (has_name name xs) value
length-changed [] name [] = refl
length-changed (b ∷ more) name [] = refl
length-changed [] name (x ∷ xs) =
    elim (cases_Bool (is_called name x)) [
      | inl yes' ↦
          let f = field name [] in
          let there = has-here name x xs yes' in
          let gone = cond-true _ xs (x ∷ without_first name xs) yes' in
          let bare : length xs + 1 ≡ length (x ∷ xs) + 0 = omega arith in
          ap₂ (λ (fs : List Field) b. length fs + loss b []) gone there ∙ bare ∙ ap (λ b. length (x ∷ xs) + gain b []) (sym there)
      | inr no' ↦
          let behind = has-behind name x xs no' in
          let rest = length-changed [] name xs in
          let kept = cond-false _ xs (x ∷ without_first name xs) no' in
          let bare : length (x ∷ without_first name xs) + loss (has_name name xs) [] ≡ length (x ∷ xs) + gain (has_name name xs) [] = omega (arith, rest) in
          ap₂ (λ (fs : List Field) b. length fs + loss b []) kept behind ∙ bare ∙ ap (λ b. length (x ∷ xs) + gain b []) (sym behind)
    ]
length-changed (b ∷ more) name (x ∷ xs) =
    let f = field name (b ∷ more) in
    elim (cases_Bool (is_called name x)) [
      | inl yes' ↦
          let there = has-here name x xs yes' in
          let put_there = cond-true _ (field x.name (b ∷ more) ∷ xs) (x ∷ put f xs) yes' in
          let bare : length (field x.name (b ∷ more) ∷ xs) + 0 ≡ length (x ∷ xs) + 0 = omega arith in
          ap₂ (λ (fs : List Field) t. length fs + loss t (b ∷ more)) put_there there ∙ bare ∙ ap (λ t. length (x ∷ xs) + gain t (b ∷ more)) (sym there)
      | inr no' ↦
          let behind = has-behind name x xs no' in
          let rest = length-changed (b ∷ more) name xs in
          let kept = cond-false _ (field x.name (b ∷ more) ∷ xs) (x ∷ put f xs) no' in
          let bare : length (x ∷ put f xs) + loss (has_name name xs) (b ∷ more) ≡ length (x ∷ xs) + gain (has_name name xs) (b ∷ more) = omega (arith, rest) in
          ap₂ (λ (fs : List Field) t. length fs + loss t (b ∷ more)) kept behind ∙ bare ∙ ap (λ t. length (x ∷ xs) + gain t (b ∷ more)) (sym behind)
    ]

gains-changed : (f : Field) (xs u : List Field) → has_name f.name u ≡ false → gains (changed_fields f xs) u ≡ gains xs u
gains-changed f xs [] lacks = refl
gains-changed f xs (x ∷ u) lacks =
    ap₂ (λ b n. gain b x.value + n) (has_name-changed f x.name xs (bytes_eq-flip x.name f.name ∙ lacks-here f.name x u lacks)) (gains-changed f xs u (lacks-behind f.name x u lacks))

losses-changed : (f : Field) (xs u : List Field) → has_name f.name u ≡ false → losses (changed_fields f xs) u ≡ losses xs u
losses-changed f xs [] lacks = refl
losses-changed f xs (x ∷ u) lacks =
    ap₂ (λ b n. loss b x.value + n) (has_name-changed f x.name xs (bytes_eq-flip x.name f.name ∙ lacks-here f.name x u lacks)) (losses-changed f xs u (lacks-behind f.name x u lacks))

pub length-merged_with : (u xs : List Field) → Apart u → Apart xs → length (merged_with xs u) + losses xs u ≡ length xs + gains xs u
length-merged_with [] xs h k = ap (λ fs. length fs + 0) (merged_with-none xs)
length-merged_with (f ∷ u) xs h k =
    let rest = length-merged_with u (changed_fields f xs) h.1 (Apart-changed f xs k) in
    let step = ap length (merged_with-step f u xs h.0 k) in
    let one = length-changed f.value f.name xs in
    omega (arith, rest, step, one, gains-changed f xs u h.0, losses-changed f xs u h.0)
