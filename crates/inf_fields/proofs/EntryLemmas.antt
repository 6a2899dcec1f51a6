-- The fields of a map of names and values.
use Rattle.std.proofs.Common.{◌≡◌, ℕ, suc, false, List, [], ◌∷◌, ◌++◌, length, refl, sym, ap, ◌∙◌, inl, inr, append_assoc, append-nil}
use Rattle.std.specs.Prelude.{Option, Some, None, String, is_some}
use Rattle.std.specs.List.{IsDistinct, AllByRecursion}
use Rattle.std.specs.Map.{lookup, keys_of}
use Rattle.std.specs.Option.{option_map}
use Rattle.std.specs.Str.{bytes_eq}
use Rattle.std.specs.String.{string_bytes}
use Rattle.std.proofs.lemmas.Bool.{cases_Bool, cond-true, cond-false}
use Rattle.std.proofs.lemmas.Map.Keys.{IsDistinct-head, IsDistinct-tail}
use Rattle.indexmap.specs.IndexMap.{insert_entry, shift_remove_entry}
use Rattle.inf_fields.specs.Changes.{put, without_first}
use Rattle.inf_fields.specs.Field.{field, value_of, has_name, printed_fields, printed_field}
use Rattle.inf_fields.specs.Stored.{fields_of}
use Rattle.inf_fields.proofs.Changes.{Apart}

-- a look-up by name finds the value
pub value_of-fields : {A : Type 0} (name : List ℕ) (entries : List (List ℕ × String A)) → option_map string_bytes (lookup (bytes_eq name) entries) ≡ value_of name (fields_of entries)
value_of-fields name [] = refl
value_of-fields name (e ∷ more) =
    elim (cases_Bool (bytes_eq name e.0)) [
      | inl yes' ↦ ap (option_map string_bytes) (cond-true _ _ _ yes') ∙ sym (cond-true _ _ _ yes')
      | inr no' ↦ ap (option_map string_bytes) (cond-false _ _ _ no') ∙ value_of-fields name more ∙ sym (cond-false _ _ _ no')
    ]

pub fields_of-insert : {A : Type 0} (name : List ℕ) (value : String A) (entries : List (List ℕ × String A))
    → fields_of (insert_entry bytes_eq entries name value) ≡ put (field name (string_bytes value)) (fields_of entries)
fields_of-insert name value [] = refl
fields_of-insert name value (e ∷ more) =
    elim (cases_Bool (bytes_eq name e.0)) [
      | inl yes' ↦ ap fields_of (cond-true _ ((e.0, value) ∷ more) (e ∷ insert_entry bytes_eq more name value) yes') ∙ sym (cond-true _ _ _ yes')
      | inr no' ↦
          ap fields_of (cond-false _ ((e.0, value) ∷ more) (e ∷ insert_entry bytes_eq more name value) no')
          ∙ ap (λ fs. field e.0 (string_bytes e.1) ∷ fs) (fields_of-insert name value more) ∙ sym (cond-false _ _ _ no')
    ]

pub fields_of-remove : {A : Type 0} (name : List ℕ) (entries : List (List ℕ × String A)) → fields_of (shift_remove_entry (bytes_eq name) entries) ≡ without_first name (fields_of entries)
fields_of-remove name [] = refl
fields_of-remove name (e ∷ more) =
    elim (cases_Bool (bytes_eq name e.0)) [
      | inl yes' ↦ ap fields_of (cond-true _ more (e ∷ shift_remove_entry (bytes_eq name) more) yes') ∙ sym (cond-true _ _ _ yes')
      | inr no' ↦
          ap fields_of (cond-false _ more (e ∷ shift_remove_entry (bytes_eq name) more) no') ∙ ap (λ fs. field e.0 (string_bytes e.1) ∷ fs) (fields_of-remove name more)
          ∙ sym (cond-false _ _ _ no')
    ]

-- no name of a map stands twice
none_called : {A : Type 0} (name : List ℕ) (entries : List (List ℕ × String A)) → AllByRecursion (λ k. bytes_eq name k ≡ false) (keys_of entries) → has_name name (fields_of entries) ≡ false
none_called name [] h = refl
none_called name (e ∷ more) h = ap is_some (cond-false _ _ _ h.0) ∙ none_called name more h.1

pub Apart-from_distinct : {A : Type 0} (entries : List (List ℕ × String A)) → IsDistinct bytes_eq (keys_of entries) → Apart (fields_of entries)
Apart-from_distinct [] h = tt
Apart-from_distinct (e ∷ more) h =
    (none_called e.0 more (IsDistinct-head bytes_eq e.0 (keys_of more) h), Apart-from_distinct more (IsDistinct-tail bytes_eq e.0 (keys_of more) h))

is_some-map : {A B : Type 0} (h : A → B) (o : Option A) → is_some (option_map h o) ≡ is_some o
is_some-map h None = refl
is_some-map h (Some x) = refl

pub has_name-fields : {A : Type 0} (name : List ℕ) (entries : List (List ℕ × String A)) → is_some (lookup (bytes_eq name) entries) ≡ has_name name (fields_of entries)
has_name-fields name entries = sym (is_some-map string_bytes (lookup (bytes_eq name) entries)) ∙ ap is_some (value_of-fields name entries)

-- ---- printing

pub printed-step : {A : Type 0} (text longer all : List ℕ) (entries rest : List (List ℕ × String A)) (name : List ℕ) (value : String A)
    → text ++ printed_fields (fields_of entries) ≡ all → entries ≡ (name, value) ∷ rest → longer ≡ text ++ printed_field (field name (string_bytes value)) → longer ++ printed_fields (fields_of rest) ≡ all
unfolding printed_fields
printed-step text longer all entries rest name value h more e =
    ap (λ t. t ++ printed_fields (fields_of rest)) e ∙ append_assoc text (printed_field (field name (string_bytes value))) (printed_fields (fields_of rest))
    ∙ sym (ap (λ es. text ++ printed_fields (fields_of es)) more) ∙ h

pub printed-end : {A : Type 0} (text all : List ℕ) (entries : List (List ℕ × String A)) → text ++ printed_fields (fields_of entries) ≡ all → entries ≡ [] → text ≡ all
unfolding printed_fields
printed-end text all entries h none = sym (append-nil text) ∙ sym (ap (λ es. text ++ printed_fields (fields_of es)) none) ∙ h

pub length-fields : {A : Type 0} (entries : List (List ℕ × String A)) → length (fields_of entries) ≡ length entries
length-fields [] = refl
length-fields (e ∷ more) = ap suc (length-fields more)
