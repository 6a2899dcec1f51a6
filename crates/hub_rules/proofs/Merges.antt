-- One field of a user after an update.
use Rattle.std.proofs.Common.{◌≡◌, ◌∙◌, sym, ap, ap₂, refl, ℕ, Bool, true, false, not, ◌&&◌, ◌||◌, cond, List, [], ◌∷◌, ◌++◌, map, filter, Option, Some, None, unwrap_or}
use Rattle.std.specs.Option.{option_or}
use Rattle.std.specs.Prelude.{if◌then◌else◌}
use Rattle.std.specs.Str.{bytes_eq}
use Rattle.std.proofs.lemmas.Bool.{false≢true}
use Rattle.std.proofs.lemmas.Slice.Eq.{bytes_eq-Decides}
use Rattle.inf_fields.specs.Cleaning.{any_address, asks_for_address, clean, dotted_decimal, is_held_back, with_address}
use Rattle.inf_fields.specs.Field.{Field, field, is_called, value_of}
use Rattle.inf_fields.specs.FieldNames.{address6_name, address_name, client_type_name, id_name, nick_name, port6_name, private_id_name}
use Rattle.inf_fields.specs.Merging.{if_filled, last_value, merged_fields, merged_with}
use Rattle.inf_fields.proofs.MergingLaws.{merged-more, value_of-merged}
use Rattle.hub_rules.specs.Identities.{value_or_empty}

-- ---- merging

or-none : (o : Option (List ℕ)) → option_or o None ≡ o
or-none None = refl
or-none (Some x) = refl

or-assoc : (a b c : Option (List ℕ)) → option_or (option_or a b) c ≡ option_or a (option_or b c)
or-assoc (Some x) b c = refl
or-assoc None b c = refl

last_value-push : (name : List ℕ) (updates : List (List Field)) (u : List Field) → last_value name (updates ++ u ∷ []) ≡ option_or (value_of name u) (last_value name updates)
last_value-push name [] u = sym (or-none (value_of name u))
last_value-push name (v ∷ updates) u =
    ap (λ o. option_or o (value_of name v)) (last_value-push name updates u) ∙ or-assoc (value_of name u) (last_value name updates) (value_of name v)

filled-given : (o : Option (List ℕ)) → unwrap_or (if_filled o) [] ≡ unwrap_or o []
filled-given None = refl
filled-given (Some []) = refl
filled-given (Some (b ∷ more)) = refl

or-given : (a b : Option (List ℕ)) → unwrap_or (option_or a b) [] ≡ unwrap_or a (unwrap_or b [])
or-given (Some x) b = refl
or-given None b = refl

-- a field has the value that the update gives it, and else the one before
given-merged : (name : List ℕ) (infs : List (List Field)) (u : List Field) → value_or_empty name (merged_with (merged_fields infs) u) ≡ unwrap_or (value_of name u) (value_or_empty name (merged_fields infs))
given-merged name infs u =
    ap (value_or_empty name) (sym (merged-more infs u))
    ∙ ap (λ o. unwrap_or o []) (value_of-merged name (infs ++ u ∷ []) ∙ ap if_filled (last_value-push name infs u))
    ∙ filled-given (option_or (value_of name u) (last_value name infs))
    ∙ or-given (value_of name u) (last_value name infs)
    ∙ ap (unwrap_or (value_of name u)) (sym (ap (λ o. unwrap_or o []) (value_of-merged name infs) ∙ filled-given (last_value name infs)))

pub given-after : (name : List ℕ) (fields : List Field) (infs : List (List Field)) (u : List Field) → fields ≡ merged_fields infs
    → value_or_empty name (merged_with fields u) ≡ unwrap_or (value_of name u) (value_or_empty name fields)
given-after name fields infs u is =
    ap (λ fs. value_or_empty name (merged_with fs u)) is ∙ given-merged name infs u ∙ ap (λ fs. unwrap_or (value_of name u) (value_or_empty name fs)) (sym is)

-- ---- what is passed on

-- a name of fields that are passed on as they are
record IsPassed (name : List ℕ) : Type 0 where
  private_id : bytes_eq name private_id_name ≡ false
  client_type : bytes_eq name client_type_name ≡ false
  address6 : bytes_eq name address6_name ≡ false
  port6 : bytes_eq name port6_name ≡ false
  address : bytes_eq name address_name ≡ false

other-name : (name other : List ℕ) (f : Field) (called : Bool) → bytes_eq name other ≡ false → is_called other f ≡ called → is_called name f ≡ true → called ≡ false
other-name name other f true apart is here =
    absurd (false≢true (sym apart ∙ ap (bytes_eq name) ((bytes_eq-Decides other f.name).0 is) ∙ here))
other-name name other f false apart is here = refl

other-is : (name other : List ℕ) (f : Field) → bytes_eq name other ≡ false → is_called name f ≡ true → is_called other f ≡ false
other-is name other f apart here = other-name name other f (is_called other f) apart refl here

passed-name : (asks : Bool) (f g : Field) → g.name ≡ f.name → (if asks then g else f).name ≡ f.name
passed-name true f g same = same
passed-name false f g same = refl

-- such a field is not held back, and keeps its value
passed-kept : (name : List ℕ) (f : Field) → IsPassed name → is_called name f ≡ true → is_held_back f ≡ false
passed-kept name f passed here =
    ap₂ ◌||◌ (ap₂ ◌||◌ (ap₂ ◌||◌ (other-is name private_id_name f passed.private_id here) (other-is name client_type_name f passed.client_type here)) (other-is name address6_name f passed.address6 here)) (other-is name port6_name f passed.port6 here)

passed-value : (name peer : List ℕ) (f : Field) → IsPassed name → is_called name f ≡ true → with_address peer f ≡ f
passed-value name peer f passed here = ap (λ b. if (b && bytes_eq any_address f.value) then field f.name (dotted_decimal peer) else f) (other-is name address_name f passed.address here)

clean-cons : (name : List ℕ) (held called : Bool) (peer : List ℕ) (f : Field) (fields : List Field) → IsPassed name → is_held_back f ≡ held → is_called name f ≡ called
    → value_of name (map (with_address peer) (filter (λ g. not (is_held_back g)) fields)) ≡ value_of name fields
    → value_of name (map (with_address peer) (cond (not held) (f ∷ filter (λ g. not (is_held_back g)) fields) (filter (λ g. not (is_held_back g)) fields)))
    ≡ (if called then Some f.value else value_of name fields)
clean-cons name true true peer f fields passed held called rest = absurd (false≢true (sym (passed-kept name f passed called) ∙ held))
clean-cons name true false peer f fields passed held called rest = rest
clean-cons name false true peer f fields passed held called rest =
    ap (λ g. if is_called name g then Some g.value else value_of name (map (with_address peer) (filter (λ g. not (is_held_back g)) fields))) (passed-value name peer f passed called)
    ∙ ap (λ b. if b then Some f.value else value_of name (map (with_address peer) (filter (λ g. not (is_held_back g)) fields))) called
clean-cons name false false peer f fields passed held called rest =
    ap (λ b. if b then Some (with_address peer f).value else value_of name (map (with_address peer) (filter (λ g. not (is_held_back g)) fields)))
    (ap (bytes_eq name) (passed-name (asks_for_address f) f (field f.name (dotted_decimal peer)) refl) ∙ called)
    ∙ rest

passed-clean : (name : List ℕ) (fields : List Field) (peer : List ℕ) → IsPassed name → value_of name (clean fields peer) ≡ value_of name fields
unfolding clean
passed-clean name [] peer passed = refl
passed-clean name (f ∷ fields) peer passed = clean-cons name (is_held_back f) (is_called name f) peer f fields passed refl refl (passed-clean name fields peer passed)

pub id-clean : (fields : List Field) (peer : List ℕ) → value_of id_name (clean fields peer) ≡ value_of id_name fields
id-clean fields peer = passed-clean id_name fields peer (record { private_id = refl; client_type = refl; address6 = refl; port6 = refl; address = refl })

pub nick-clean : (fields : List Field) (peer : List ℕ) → value_of nick_name (clean fields peer) ≡ value_of nick_name fields
nick-clean fields peer = passed-clean nick_name fields peer (record { private_id = refl; client_type = refl; address6 = refl; port6 = refl; address = refl })
