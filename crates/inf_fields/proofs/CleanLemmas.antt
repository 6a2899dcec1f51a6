-- The part of an update that a hub passes on, field by field.
use Rattle.std.proofs.Common.{◌≡◌, ℕ, Bool, true, false, ◌||◌, List, [], ◌∷◌, ◌++◌, map, cond, refl, sym, ap, ap₂, ◌∙◌, inl, inr, subst, append_assoc, append-nil}
use Rattle.std.specs.Prelude.{String, if◌then◌else◌}
use Rattle.std.specs.String.{string_bytes}
use Rattle.std.proofs.lemmas.Bool.{cases_Bool, cond-true, cond-false, not_from_true, not_from_false, or_parts}
use Rattle.inf_fields.specs.Changes.{put}
use Rattle.inf_fields.specs.Cleaning.{asks_for_address, clean, dotted_decimal, is_held_back, with_address}
use Rattle.inf_fields.specs.Field.{Field, field, is_called, has_name}
use Rattle.inf_fields.specs.Stored.{fields_of}
use Rattle.inf_fields.proofs.Changes.{Apart, has-here, has-behind, lacks-here, lacks-behind}
use Rattle.inf_fields.proofs.NameLemmas.{bytes_eq-flip, has_name-append}

-- ---- names that stand apart

-- whether there is a name does not depend on values
has_name-value : (name : List ℕ) (f : Field) (value : List ℕ) (xs : List Field) → has_name name (field f.name value ∷ xs) ≡ has_name name (f ∷ xs)
has_name-value name f value xs =
    elim (cases_Bool (is_called name f)) [
      | inl yes' ↦ has-here name (field f.name value) xs yes' ∙ sym (has-here name f xs yes')
      | inr no' ↦ has-behind name (field f.name value) xs no' ∙ sym (has-behind name f xs no')
    ]

Apart-value : (before after : List Field) (f : Field) (value : List ℕ) → Apart (before ++ f ∷ after) → Apart (before ++ field f.name value ∷ after)
Apart-value [] after f value h = h
Apart-value (x ∷ before) after f value h = (
  has_name-append x.name before (field f.name value ∷ after) ∙ ap (λ b. has_name x.name before || b) (has_name-value x.name f value after)
      ∙ sym (has_name-append x.name before (f ∷ after)) ∙ h.0,
  Apart-value before after f value h.1,
)

Apart-without : (before after : List Field) (f : Field) → Apart (before ++ f ∷ after) → Apart (before ++ after)
Apart-without [] after f h = h.1
Apart-without (x ∷ before) after f h =
    let parts = or_parts (has_name x.name before) (has_name x.name (f ∷ after)) (sym (has_name-append x.name before (f ∷ after)) ∙ h.0) in
    (has_name-append x.name before after ∙ ap₂ ◌||◌ parts.0 (lacks-behind x.name f after parts.1), Apart-without before after f h.1)

lacks-before : (before after : List Field) (f : Field) → Apart (before ++ f ∷ after) → has_name f.name before ≡ false
lacks-before [] after f h = refl
lacks-before (x ∷ before) after f h =
    let parts = or_parts (has_name x.name before) (has_name x.name (f ∷ after)) (sym (has_name-append x.name before (f ∷ after)) ∙ h.0) in
    has-behind f.name x before (bytes_eq-flip f.name x.name ∙ lacks-here x.name f after parts.1) ∙ lacks-before before after f h.1

put-lacks : (f : Field) (xs : List Field) → has_name f.name xs ≡ false → put f xs ≡ xs ++ f ∷ []
put-lacks f [] lacks = refl
put-lacks f (x ∷ xs) lacks =
    cond-false _ (field x.name f.value ∷ xs) (x ∷ put f xs) (lacks-here f.name x xs lacks) ∙ ap (λ fs. x ∷ fs) (put-lacks f xs (lacks-behind f.name x xs lacks))

-- ---- one field after another

clean-held_back : (f : Field) (more : List Field) (peer : List ℕ) → is_held_back f ≡ true → clean (f ∷ more) peer ≡ clean more peer
unfolding clean
clean-held_back f more peer held = ap (map (with_address peer)) (cond-false _ _ _ (not_from_true _ held))

clean-passed : (f : Field) (more : List Field) (peer : List ℕ) → is_held_back f ≡ false → clean (f ∷ more) peer ≡ with_address peer f ∷ clean more peer
unfolding clean
clean-passed f more peer passes = ap (map (with_address peer)) (cond-true _ _ _ (not_from_false _ passes))

-- what is passed on so far, with what the rest of the entries makes, is all that is passed on
abbrev pub Passed : {A : Type 0} → List Field → List ℕ → List Field → List (List ℕ × String A) → Type 0
Passed update peer passed rest = (passed ++ clean (fields_of rest) peer ≡ clean update peer) × Apart (passed ++ fields_of rest)

pub passed-none : {A : Type 0} (update : List Field) (peer : List ℕ) (passed : List Field) (rest : List (List ℕ × String A)) → passed ≡ [] → fields_of rest ≡ update → Apart update → Passed update peer passed rest
passed-none update peer passed rest none all apart = (ap₂ (λ fs gs. fs ++ clean gs peer) none all, subst Apart (sym (ap₂ ◌++◌ none all)) apart)

pub passed-held_back : {A : Type 0} (update : List Field) (peer : List ℕ) (passed : List Field) (entries rest : List (List ℕ × String A)) (name : List ℕ) (value : String A)
    → Passed update peer passed entries → entries ≡ (name, value) ∷ rest → is_held_back (field name (string_bytes value)) ≡ true → Passed update peer passed rest
passed-held_back update peer passed entries rest name value h more held =
    let f = field name (string_bytes value) in
    let is = ap fields_of more in (
      ap (λ fs. passed ++ fs) (sym (ap (λ fs. clean fs peer) is ∙ clean-held_back f (fields_of rest) peer held)) ∙ h.0,
      Apart-without passed (fields_of rest) f (subst (λ fs. Apart (passed ++ fs)) is h.1),
    )

pub passed-more : {A : Type 0} (update : List Field) (peer : List ℕ) (passed new : List Field) (entries rest : List (List ℕ × String A)) (name : List ℕ) (value : String A) (out address : List ℕ)
    → Passed update peer passed entries → entries ≡ (name, value) ∷ rest → is_held_back (field name (string_bytes value)) ≡ false → address ≡ dotted_decimal peer
    → out ≡ cond (asks_for_address (field name (string_bytes value))) address (string_bytes value) → new ≡ put (field name out) passed → Passed update peer new rest
passed-more update peer passed new entries rest name value out address h more passes at is puts =
    let f = field name (string_bytes value) in
    let entry = ap fields_of more in
    let apart = subst (λ fs. Apart (passed ++ fs)) entry h.1 in
    let shown : field name out ≡ with_address peer f = ap (field name) (is ∙ ap (λ a. cond (asks_for_address f) a f.value) at) ∙ by (asks_for_address f) in
    let last : new ≡ passed ++ field name out ∷ [] = puts ∙ put-lacks (field name out) passed (lacks-before passed (fields_of rest) f apart) in (
      ap (λ fs. fs ++ clean (fields_of rest) peer) last ∙ append_assoc passed (field name out ∷ []) (clean (fields_of rest) peer) ∙ ap (λ g. passed ++ g ∷ clean (fields_of rest) peer) shown
          ∙ sym (ap (λ fs. passed ++ fs) (ap (λ fs. clean fs peer) entry ∙ clean-passed f (fields_of rest) peer passes))
          ∙ h.0,
      subst Apart (sym (ap (λ fs. fs ++ fields_of rest) last ∙ append_assoc passed (field name out ∷ []) (fields_of rest))) (Apart-value passed (fields_of rest) f out apart),
    )
  where
    by : (b : Bool) → field name (cond b (dotted_decimal peer) (string_bytes value)) ≡ (if b then field name (dotted_decimal peer) else field name (string_bytes value))
    by true = refl
    by false = refl

pub passed-all : {A : Type 0} (update : List Field) (peer : List ℕ) (passed : List Field) (rest : List (List ℕ × String A)) → Passed update peer passed rest → rest ≡ [] → passed ≡ clean update peer
unfolding clean
passed-all update peer passed rest h none = sym (append-nil passed) ∙ ap (λ es. passed ++ clean (fields_of es) peer) (sym none) ∙ h.0
