-- The value under a name, after lists of fields are joined, filtered by names or given other values.
use Rattle.std.proofs.Common.{◌≡◌, ℕ, ◌<◌, arith, Bool, true, false, not, ◌&&◌, ◌||◌, List, [], ◌∷◌, ◌++◌, map, filter, cond, refl, sym, ap, ◌∙◌, inl, inr, true≢false}
use Rattle.std.specs.Prelude.{Option, Some, None, is_some}
use Rattle.std.specs.Option.{option_or, option_map}
use Rattle.std.specs.Str.{bytes_eq}
use Rattle.std.proofs.lemmas.Bool.{cases_Bool, cond-true, cond-false}
use Rattle.std.proofs.lemmas.Bool.Decides.{nat_tests}
use Rattle.std.proofs.lemmas.Slice.Eq.{bytes_eq-Decides}
use Rattle.adc_line.specs.Header.{is_letter, is_letter_or_digit}
use Rattle.inf_fields.specs.FieldNames.{is_field_name}
use Rattle.inf_fields.specs.Field.{Field, field, is_called, value_of, has_name, besides}

pub same_bytes : (a b : List ℕ) → bytes_eq a b ≡ true → a ≡ b
same_bytes a b h = (bytes_eq-Decides a b).0 h

pub bytes_eq-same : (a : List ℕ) → bytes_eq a a ≡ true
bytes_eq-same a = (bytes_eq-Decides a a).1 refl

pub bytes_eq-flip : (a b : List ℕ) → bytes_eq a b ≡ bytes_eq b a
bytes_eq-flip a b =
    elim (cases_Bool (bytes_eq a b)) [
      | inl yes' ↦ yes' ∙ sym ((bytes_eq-Decides b a).1 (sym (same_bytes a b yes')))
      | inr no' ↦ elim (cases_Bool (bytes_eq b a)) [
        | inl also ↦ absurd (true≢false (sym ((bytes_eq-Decides a b).1 (sym (same_bytes b a also))) ∙ no'))
        | inr neither ↦ no' ∙ sym neither
      ]
    ]

pub value_of-append : (name : List ℕ) (xs ys : List Field) → value_of name (xs ++ ys) ≡ option_or (value_of name xs) (value_of name ys)
value_of-append name [] ys = refl
value_of-append name (x ∷ xs) ys =
    elim (cases_Bool (is_called name x)) [
      | inl yes' ↦ cond-true _ _ _ yes' ∙ sym (ap (λ (o : Option (List ℕ)). option_or o (value_of name ys)) (cond-true _ (Some x.value) (value_of name xs) yes'))
      | inr no' ↦
          cond-false _ _ _ no' ∙ value_of-append name xs ys
          ∙ sym (ap (λ (o : Option (List ℕ)). option_or o (value_of name ys)) (cond-false _ (Some x.value) (value_of name xs) no'))
    ]

-- a choice that makes no difference
pub either : {A : Type 0} (b : Bool) (x : A) → cond b x x ≡ x
either true x = refl
either false x = refl

pub value_of-filter : (p : List ℕ → Bool) (name : List ℕ) (xs : List Field) → value_of name (filter (λ f. p f.name) xs) ≡ cond (p name) (value_of name xs) None
value_of-filter p name [] = sym (either (p name) None)
value_of-filter p name (x ∷ xs) =
    let kept = filter (λ f. p f.name) xs in
    elim (cases_Bool (is_called name x)) [
      | inl yes' ↦
          let same : p name ≡ p x.name = ap p (same_bytes name x.name yes') in
          elim (cases_Bool (p name)) [
            | inl passes ↦
                ap (value_of name) (cond-true _ (x ∷ kept) kept (sym same ∙ passes)) ∙ cond-true _ _ _ yes'
                ∙ sym (cond-true _ _ _ passes ∙ cond-true _ (Some x.value) (value_of name xs) yes')
            | inr fails ↦
                ap (value_of name) (cond-false _ (x ∷ kept) kept (sym same ∙ fails)) ∙ value_of-filter p name xs ∙ cond-false _ _ _ fails ∙ sym (cond-false _ _ _ fails)
          ]
      | inr no' ↦
          let rest = value_of-filter p name xs ∙ ap (λ (o : Option (List ℕ)). cond (p name) o None) (sym (cond-false _ (Some x.value) (value_of name xs) no')) in
          elim (cases_Bool (p x.name)) [
            | inl passes ↦ ap (value_of name) (cond-true _ (x ∷ kept) kept passes) ∙ cond-false _ _ _ no' ∙ rest
            | inr fails ↦ ap (value_of name) (cond-false _ (x ∷ kept) kept fails) ∙ rest
          ]
    ]

pub value_of-map : (h : List ℕ → List ℕ → List ℕ) (name : List ℕ) (xs : List Field) → value_of name (map (λ f. field f.name (h f.name f.value)) xs) ≡ option_map (h name) (value_of name xs)
value_of-map h name [] = refl
value_of-map h name (x ∷ xs) =
    elim (cases_Bool (is_called name x)) [
      | inl yes' ↦
          cond-true _ _ _ yes' ∙ ap (λ n. Some (h n x.value)) (sym (same_bytes name x.name yes')) ∙ ap (option_map (h name)) (sym (cond-true _ (Some x.value) (value_of name xs) yes'))
      | inr no' ↦ cond-false _ _ _ no' ∙ value_of-map h name xs ∙ ap (option_map (h name)) (sym (cond-false _ (Some x.value) (value_of name xs) no'))
    ]

is_some-or : {A : Type 0} (o p : Option A) → is_some (option_or o p) ≡ (is_some o || is_some p)
is_some-or None p = refl
is_some-or (Some x) p = refl

pub has_name-append : (name : List ℕ) (xs ys : List Field) → has_name name (xs ++ ys) ≡ (has_name name xs || has_name name ys)
has_name-append name xs ys = ap is_some (value_of-append name xs ys) ∙ is_some-or (value_of name xs) (value_of name ys)

is_some-cond : {A : Type 0} (b : Bool) (o : Option A) → is_some (cond b o None) ≡ (b && is_some o)
is_some-cond true o = refl
is_some-cond false o = refl

pub value_of-besides : (name : List ℕ) (others xs : List Field) → value_of name (besides others xs) ≡ cond (not (has_name name others)) (value_of name xs) None
value_of-besides name others xs = value_of-filter (λ n. not (has_name n others)) name xs

pub has_name-besides : (name : List ℕ) (others xs : List Field) → has_name name (besides others xs) ≡ (not (has_name name others) && has_name name xs)
has_name-besides name others xs = ap is_some (value_of-besides name others xs) ∙ is_some-cond (not (has_name name others)) (value_of name xs)

-- ---- the characters of a name

-- the second one is ASCII
pub second_ascii : (a b : ℕ) (name : List ℕ) → cond (is_field_name (a ∷ b ∷ [])) (Some (a ∷ b ∷ [])) None ≡ Some name → b < 128
second_ascii a b name e =
    elim (cases_Bool (is_letter_or_digit b)) [
      | inl yes' ↦ grind (arith, nat_tests)
      | inr no' ↦
          let none : cond (is_field_name (a ∷ b ∷ [])) (Some (a ∷ b ∷ [])) None ≡ None = ap (λ t. cond t (Some (a ∷ b ∷ [])) None) (ap (λ t. is_letter a && t) no' ∙ never (is_letter a)) in
          let bad : None ≡ Some name = sym none ∙ e in
          cc
    ]
  where
    never : (t : Bool) → (t && false) ≡ false
    never true = refl
    never false = refl
