-- Fields changed one at a time: by each field of an update in turn they become what the update makes of them.
use Rattle.std.proofs.Common.{◌≡◌, ◌≢◌, Bor, ℕ, Bool, true, false, not, ◌&&◌, List, [], ◌∷◌, ◌++◌, length, cond, refl, sym, ap, ap₂, ◌∙◌, inl, inr, append-nil, true≢false, arith}
use Rattle.std.specs.Prelude.{◌==◌, Option, Some, None, is_some}
use Rattle.std.specs.Option.{option_copied, unwrap_or, IfSome}
use Rattle.std.specs.Str.{bytes_eq}
use Rattle.std.proofs.lemmas.Bool.{cases_Bool, cond-true, cond-false, eqb-true}
use Rattle.inf_fields.specs.Changes.{without_first, put, changed_to, changed_fields, all_changed}
use Rattle.inf_fields.specs.Field.{Field, field, is_called, value_of, has_name, besides}
use Rattle.inf_fields.specs.FieldsView.{AreFilled}
use Rattle.inf_fields.specs.Merging.{is_empty_value, leave, latest, settled_fields, followed_by}
use Rattle.inf_fields.proofs.MergingLaws.{settled-stays, settled-goes, besides-has}
use Rattle.inf_fields.proofs.NameLemmas.{same_bytes, bytes_eq-same, bytes_eq-flip}

-- no name stands twice
abbrev pub Apart : List Field → Type 0
Apart [] = Unit {0}
Apart (x ∷ xs) = (has_name x.name xs ≡ false) × Apart xs

-- ---- which names there are

pub has-here : (name : List ℕ) (x : Field) (xs : List Field) → is_called name x ≡ true → has_name name (x ∷ xs) ≡ true
has-here name x xs yes' = ap is_some (cond-true _ (Some x.value) (value_of name xs) yes')

pub has-behind : (name : List ℕ) (x : Field) (xs : List Field) → is_called name x ≡ false → has_name name (x ∷ xs) ≡ has_name name xs
has-behind name x xs no' = ap is_some (cond-false _ (Some x.value) (value_of name xs) no')

pub lacks-here : (name : List ℕ) (x : Field) (xs : List Field) → has_name name (x ∷ xs) ≡ false → is_called name x ≡ false
lacks-here name x xs lacks =
    elim (cases_Bool (is_called name x)) [
      | inl yes' ↦ absurd (true≢false (sym (has-here name x xs yes') ∙ lacks))
      | inr no' ↦ no'
    ]

pub lacks-behind : (name : List ℕ) (x : Field) (xs : List Field) → has_name name (x ∷ xs) ≡ false → has_name name xs ≡ false
lacks-behind name x xs lacks = sym (has-behind name x xs (lacks-here name x xs lacks)) ∙ lacks

pub value_of-lacks : (name : List ℕ) (xs : List Field) → has_name name xs ≡ false → value_of name xs ≡ None
value_of-lacks name xs lacks = by (value_of name xs) lacks
  where
    by : (o : Option (List ℕ)) → is_some o ≡ false → o ≡ None
    by None e = refl
    by (Some x) e = cc

removed-here : (name : List ℕ) (x : Field) (xs : List Field) → is_called name x ≡ true → without_first name (x ∷ xs) ≡ xs
removed-here name x xs yes' = cond-true _ xs (x ∷ without_first name xs) yes'

removed-behind : (name : List ℕ) (x : Field) (xs : List Field) → is_called name x ≡ false → without_first name (x ∷ xs) ≡ x ∷ without_first name xs
removed-behind name x xs no' = cond-false _ xs (x ∷ without_first name xs) no'

put-here : (f x : Field) (xs : List Field) → is_called f.name x ≡ true → put f (x ∷ xs) ≡ field x.name f.value ∷ xs
put-here f x xs yes' = cond-true _ (field x.name f.value ∷ xs) (x ∷ put f xs) yes'

put-behind : (f x : Field) (xs : List Field) → is_called f.name x ≡ false → put f (x ∷ xs) ≡ x ∷ put f xs
put-behind f x xs no' = cond-false _ (field x.name f.value ∷ xs) (x ∷ put f xs) no'

-- a name that the change does not concern
has_name-removed : (name other : List ℕ) (xs : List Field) → bytes_eq other name ≡ false → has_name other (without_first name xs) ≡ has_name other xs
has_name-removed name other [] apart = refl
has_name-removed name other (x ∷ xs) apart =
    elim (cases_Bool (is_called name x)) [
      | inl yes' ↦
          ap (has_name other) (removed-here name x xs yes') ∙ sym (has-behind other x xs (ap (bytes_eq other) (sym (same_bytes name x.name yes')) ∙ apart))
      | inr no' ↦
          ap (has_name other) (removed-behind name x xs no')
          ∙ (elim (cases_Bool (is_called other x)) [
            | inl same ↦ has-here other x (without_first name xs) same ∙ sym (has-here other x xs same)
            | inr differs ↦ has-behind other x (without_first name xs) differs ∙ has_name-removed name other xs apart ∙ sym (has-behind other x xs differs)
          ])
    ]

has_name-put : (f : Field) (other : List ℕ) (xs : List Field) → bytes_eq other f.name ≡ false → has_name other (put f xs) ≡ has_name other xs
has_name-put f other [] apart = has-behind other f [] apart
has_name-put f other (x ∷ xs) apart =
    elim (cases_Bool (is_called f.name x)) [
      | inl yes' ↦
          let differs = ap (bytes_eq other) (sym (same_bytes f.name x.name yes')) ∙ apart in
          ap (has_name other) (put-here f x xs yes') ∙ has-behind other (field x.name f.value) xs differs ∙ sym (has-behind other x xs differs)
      | inr no' ↦
          ap (has_name other) (put-behind f x xs no')
          ∙ (elim (cases_Bool (is_called other x)) [
            | inl same ↦ has-here other x (put f xs) same ∙ sym (has-here other x xs same)
            | inr differs ↦ has-behind other x (put f xs) differs ∙ has_name-put f other xs apart ∙ sym (has-behind other x xs differs)
          ])
    ]

pub has_name-changed : (f : Field) (other : List ℕ) (xs : List Field) → bytes_eq other f.name ≡ false → has_name other (changed_fields f xs) ≡ has_name other xs
has_name-changed f other xs apart = by f.value
  where
    by : (value : List ℕ) → has_name other (changed_to value f xs) ≡ has_name other xs
    by [] = has_name-removed f.name other xs apart
    by (b ∷ more) = has_name-put f other xs apart

-- ---- names stay apart

lacks-removed : (name other : List ℕ) (xs : List Field) → has_name other xs ≡ false → has_name other (without_first name xs) ≡ false
lacks-removed name other [] lacks = refl
lacks-removed name other (x ∷ xs) lacks =
    elim (cases_Bool (is_called name x)) [
      | inl yes' ↦ ap (has_name other) (removed-here name x xs yes') ∙ lacks-behind other x xs lacks
      | inr no' ↦
          ap (has_name other) (removed-behind name x xs no') ∙ has-behind other x (without_first name xs) (lacks-here other x xs lacks)
          ∙ lacks-removed name other xs (lacks-behind other x xs lacks)
    ]

Apart-removed : (name : List ℕ) (xs : List Field) → Apart xs → Apart (without_first name xs)
Apart-removed name [] h = h
Apart-removed name (x ∷ xs) h =
    elim (cases_Bool (is_called name x)) [
      | inl yes' ↦ rw (removed-here name x xs yes') h.1
      | inr no' ↦ rw (removed-behind name x xs no') (lacks-removed name x.name xs h.0, Apart-removed name xs h.1)
    ]

Apart-put : (f : Field) (xs : List Field) → Apart xs → Apart (put f xs)
Apart-put f [] h = (refl, tt)
Apart-put f (x ∷ xs) h =
    elim (cases_Bool (is_called f.name x)) [
      | inl yes' ↦ rw (put-here f x xs yes') (h.0, h.1)
      | inr no' ↦ rw (put-behind f x xs no') (has_name-put f x.name xs (bytes_eq-flip x.name f.name ∙ no') ∙ h.0, Apart-put f xs h.1)
    ]

pub Apart-changed : (f : Field) (xs : List Field) → Apart xs → Apart (changed_fields f xs)
Apart-changed f xs h = by f.value
  where
    by : (value : List ℕ) → Apart (changed_to value f xs)
    by [] = Apart-removed f.name xs h
    by (b ∷ more) = Apart-put f xs h

-- ---- an update of one field

abbrev one : Field → List (List Field)
one f = (f ∷ []) ∷ []

leave-other : (f : Field) (name : List ℕ) → bytes_eq name f.name ≡ false → leave (one f) name ≡ true
leave-other f name apart = ap (λ o. not (is_empty_value o) && true) (cond-false _ (Some f.value) None apart)

latest-other : (f : Field) (name value : List ℕ) → bytes_eq name f.name ≡ false → latest (one f) name value ≡ value
latest-other f name value apart = ap (λ (o : Option (List ℕ)). unwrap_or o value) (cond-false _ (Some f.value) None apart)

leave-same : (f : Field) (name : List ℕ) → bytes_eq name f.name ≡ true → leave (one f) name ≡ not (is_empty_value (Some f.value))
leave-same f name same = ap (λ o. not (is_empty_value o) && true) (cond-true _ (Some f.value) None same) ∙ by (not (is_empty_value (Some f.value)))
  where
    by : (b : Bool) → (b && true) ≡ b
    by true = refl
    by false = refl

latest-same : (f : Field) (name value : List ℕ) → bytes_eq name f.name ≡ true → latest (one f) name value ≡ f.value
latest-same f name value same = ap (λ (o : Option (List ℕ)). unwrap_or o value) (cond-true _ (Some f.value) None same)

settled-other : (f x : Field) (xs : List Field) → is_called f.name x ≡ false → settled_fields (one f) (x ∷ xs) ≡ x ∷ settled_fields (one f) xs
settled-other f x xs no' =
    let apart = bytes_eq-flip x.name f.name ∙ no' in
    settled-stays (one f) x xs (leave-other f x.name apart) ∙ ap (λ v. field x.name v ∷ settled_fields (one f) xs) (latest-other f x.name x.value apart)

pub settled-lacks : (f : Field) (xs : List Field) → has_name f.name xs ≡ false → settled_fields (one f) xs ≡ xs
settled-lacks f [] lacks = refl
settled-lacks f (x ∷ xs) lacks = settled-other f x xs (lacks-here f.name x xs lacks) ∙ ap (λ fs. x ∷ fs) (settled-lacks f xs (lacks-behind f.name x xs lacks))

changed-behind : (value : List ℕ) (f x : Field) (xs : List Field) → is_called f.name x ≡ false → changed_to value f (x ∷ xs) ≡ x ∷ changed_to value f xs
changed-behind [] f x xs no' = removed-behind f.name x xs no'
changed-behind (b ∷ more) f x xs no' = put-behind f x xs no'

changed-here : (value : List ℕ) (name : List ℕ) (x : Field) (xs : List Field) → let f = field name value in is_called name x ≡ true → settled_fields (one f) xs ≡ xs
    → changed_to value f (x ∷ xs) ≡ settled_fields (one f) (x ∷ xs)
changed-here [] name x xs yes' same =
    let f = field name [] in
    removed-here name x xs yes' ∙ sym (settled-goes (one f) x xs (leave-same f x.name (bytes_eq-flip x.name name ∙ yes')) ∙ same)
changed-here (b ∷ more) name x xs yes' same =
    let f = field name (b ∷ more) in
    let flipped = bytes_eq-flip x.name name ∙ yes' in
    put-here f x xs yes' ∙ sym (settled-stays (one f) x xs (leave-same f x.name flipped) ∙ ap₂ (λ v fs. field x.name v ∷ fs) (latest-same f x.name x.value flipped) same)

pub changed-settled : (f : Field) (xs : List Field) → Apart xs → changed_fields f xs ≡ settled_fields (one f) (followed_by xs (f ∷ []))
changed-settled f [] h = by f.value f.name
  where
    by : (value name : List ℕ) → changed_to value (field name value) [] ≡ settled_fields (one (field name value)) (field name value ∷ [])
    by [] name = sym (settled-goes (one (field name [])) (field name []) [] (leave-same (field name []) name (bytes_eq-same name)))
    by (b ∷ more) name =
        let f = field name (b ∷ more) in
        let same = bytes_eq-same name in
        sym (settled-stays (one f) f [] (leave-same f name same) ∙ ap (λ v. field name v ∷ []) (latest-same f name f.value same))
changed-settled f (x ∷ xs) h =
    elim (cases_Bool (is_called f.name x)) [
      | inl yes' ↦
          let same : x.name ≡ f.name = sym (same_bytes f.name x.name yes') in
          let lacks : has_name f.name xs ≡ false = ap (λ n. has_name n xs) (sym same) ∙ h.0 in
          changed-here f.value f.name x xs yes' (settled-lacks f xs lacks)
          ∙ ap (settled_fields (one f)) (sym (ap (λ fs. x ∷ xs ++ fs) (besides-has (x ∷ xs) f [] (has-here f.name x xs yes')) ∙ append-nil (x ∷ xs)))
      | inr no' ↦
          changed-behind f.value f x xs no' ∙ ap (λ fs. x ∷ fs) (changed-settled f xs h.1)
          ∙ sym
          (settled-other f x (xs ++ besides (x ∷ xs) (f ∷ [])) no'
          ∙ ap (λ b. x ∷ settled_fields (one f) (xs ++ cond (not b) (f ∷ []) [])) (has-behind f.name x xs no'))
    ]

-- ---- what a change is, by its value

pub changed-empty : (name value : List ℕ) (xs : List Field) → (length value == 0) ≡ true → changed_fields (field name value) xs ≡ without_first name xs
changed-empty name [] xs empty = refl
changed-empty name (b ∷ more) xs empty = let bad : length (b ∷ more) ≡ 0 = eqb-true (length (b ∷ more)) 0 empty in absurd (omega arith)

pub changed-filled : (name value : List ℕ) (xs : List Field) → (length value == 0) ≡ false → changed_fields (field name value) xs ≡ put (field name value) xs
changed-filled name [] xs filled = cc
changed-filled name (b ∷ more) xs filled = refl

-- ---- values stay filled

removed-filled : (name : List ℕ) (xs : List Field) → AreFilled xs → AreFilled (without_first name xs)
removed-filled name [] h = h
removed-filled name (x ∷ xs) h =
    elim (cases_Bool (is_called name x)) [
      | inl yes' ↦ rw (removed-here name x xs yes') h.1
      | inr no' ↦ rw (removed-behind name x xs no') (h.0, removed-filled name xs h.1)
    ]

put-filled : (f : Field) (xs : List Field) → f.value ≢ [] → AreFilled xs → AreFilled (put f xs)
put-filled f [] filled h = (filled, tt)
put-filled f (x ∷ xs) filled h =
    elim (cases_Bool (is_called f.name x)) [
      | inl yes' ↦ rw (put-here f x xs yes') (filled, h.1)
      | inr no' ↦ rw (put-behind f x xs no') (h.0, put-filled f xs filled h.1)
    ]

changed-keeps_filled : (name value : List ℕ) (xs : List Field) → AreFilled xs → AreFilled (changed_fields (field name value) xs)
changed-keeps_filled name [] xs h = removed-filled name xs h
changed-keeps_filled name (b ∷ more) xs h = put-filled (field name (b ∷ more)) xs (λ e. cc) h

pub all_changed-keeps_filled : (u xs : List Field) → AreFilled xs → AreFilled (all_changed u xs)
all_changed-keeps_filled [] xs h = h
all_changed-keeps_filled (f ∷ u) xs h = all_changed-keeps_filled u (changed_fields f xs) (changed-keeps_filled f.name f.value xs h)

pub value_of-filled : (name value : List ℕ) (xs : List Field) → AreFilled xs → Some value ≡ value_of name xs → value ≢ []
value_of-filled name value [] h e = cc
value_of-filled name value (x ∷ xs) h e =
    elim (cases_Bool (is_called name x)) [
      | inl yes' ↦
          let both : Some value ≡ Some x.value = e ∙ cond-true _ (Some x.value) (value_of name xs) yes' in
          let same : value ≡ x.value = cc in
          λ none. h.0 (sym same ∙ none)
      | inr no' ↦ value_of-filled name value xs h.1 (e ∙ cond-false _ (Some x.value) (value_of name xs) no')
    ]

pub found-filled : (name : List ℕ) (xs : List Field) (found : Option (Bor (List ℕ))) → AreFilled xs → option_copied found ≡ value_of name xs → IfSome found (λ value. value.now ≢ [])
found-filled name xs None h e = tt
found-filled name xs (Some value) h e = value_of-filled name value.now xs h e
