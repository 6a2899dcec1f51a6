-- Each name stands once in what words update, and so each of its fields may be passed on where the address that it gives is right.
use Rattle.std.proofs.Common.{◌≡◌, ◌∙◌, sym, ap, refl, subst, ℕ, Bool, true, false, cond, not, ◌&&◌, ◌⊎◌, List, [], ◌∷◌, map, filter, Some, None, is_some, Ok, Err, unwrap_or, arith}
use Rattle.inf_fields.specs.Updates.{reading, are_few, field_in, is_named, unless_too_many, update}
use Rattle.inf_fields.specs.declared.fault.InfFault.TheVariants.{BadName}
use Rattle.hub_laws.proofs.Words.{AllByRecursion, Field, address_name, any_address, asks_for_address, besides, bytes_eq, bytes_eq-Decides, clean, dotted_decimal, field, has_name, if◌then◌else◌}
use Rattle.hub_laws.proofs.Words.{is_called, is_held_back, is_wrong_address, list_all, value_of, value_or_empty, with_address}
use Rattle.hub_laws.proofs.Words.updates
use Rattle.hub_laws.specs.Secrets.{IsPassed}
use Rattle.hub_laws.proofs.Secrets.{filled_address, passed-address}

-- ---- each name once

-- no name stands twice
abbrev Apart : List Field → Type 0
Apart [] = Unit {0}
Apart (f ∷ fields) = AllByRecursion (λ (g : Field). bytes_eq g.name f.name ≡ false) fields × Apart fields

all-filtered : (P : Field → Type 0) (test : Field → Bool) (fields : List Field) → AllByRecursion P fields → AllByRecursion P (filter test fields)
all-filtered P test [] all = tt
all-filtered P test (f ∷ fields) all =
    let go : (b : Bool) → AllByRecursion P (cond b (f ∷ filter test fields) (filter test fields)) =
    elim [
      | true ↦ (all.0, all-filtered P test fields all.1)
      | false ↦ all-filtered P test fields all.1
    ] in
    go (test f)

apart-filter : (test : Field → Bool) (fields : List Field) → Apart fields → Apart (filter test fields)
apart-filter test [] apart = tt
apart-filter test (f ∷ fields) apart =
    let go : (b : Bool) → Apart (cond b (f ∷ filter test fields) (filter test fields)) =
    elim [
      | true ↦ (all-filtered _ test fields apart.0, apart-filter test fields apart.1)
      | false ↦ apart-filter test fields apart.1
    ] in
    go (test f)

lacks-one : (b : Bool) (value : List ℕ) → not (is_some (if b then Some value else None)) ≡ true → b ≡ false
lacks-one b value is = grind arith

others-differ : (f : Field) (fields : List Field) → AllByRecursion (λ (g : Field). bytes_eq g.name f.name ≡ false) (besides (f ∷ []) fields)
others-differ f [] = tt
others-differ f (g ∷ fields) =
    let go : (b : Bool) → not (has_name g.name (f ∷ [])) ≡ b
    → AllByRecursion (λ (x : Field). bytes_eq x.name f.name ≡ false) (cond b (g ∷ besides (f ∷ []) fields) (besides (f ∷ []) fields)) =
    elim [
      | true ↦ λ is. (lacks-one (bytes_eq g.name f.name) f.value is, others-differ f fields)
      | false ↦ λ is. others-differ f fields
    ] in
    go (not (has_name g.name (f ∷ []))) refl

apart-update : (words : List (List ℕ)) → Apart (update words)
unfolding update
apart-update [] = tt
apart-update (word ∷ later) = (others-differ (field_in word) (update later), apart-filter _ (update later) (apart-update later))

-- ---- each field is what the update gives its name

abbrev IsExact : List Field → Field → Type 0
IsExact u f = value_of f.name u ≡ Some f.value

behind : (u : List Field) (f : Field) (fields : List Field) → AllByRecursion (λ (g : Field). bytes_eq g.name f.name ≡ false) fields → AllByRecursion (IsExact u) fields
    → AllByRecursion (IsExact (f ∷ u)) fields
behind u f [] differ all = tt
behind u f (g ∷ fields) differ all = (ap (λ b. if b then Some f.value else value_of g.name u) differ.0 ∙ all.0, behind u f fields differ.1 all.1)

exact : (u : List Field) → Apart u → AllByRecursion (IsExact u) u
exact [] apart = tt
exact (f ∷ u) apart = (ap (λ b. if b then Some f.value else value_of f.name u) ((bytes_eq-Decides f.name f.name).1 refl), behind u f u apart.0 (exact u apart.1))

-- ---- what is passed on

with-filled : (peer : List ℕ) (f : Field) (called any : Bool) → is_called address_name f ≡ called → bytes_eq any_address f.value ≡ any → called ≡ true
    → (if called && any then field f.name (dotted_decimal peer) else f).value ≡ (if any then dotted_decimal peer else f.value)
with-filled peer f called any is-called is-any here = grind arith

with-name : (peer : List ℕ) (f : Field) (asks : Bool) → (if asks then field f.name (dotted_decimal peer) else f).name ≡ f.name
with-name peer f asks = grind arith

with-held : (peer : List ℕ) (f : Field) (asks : Bool) → is_held_back f ≡ false → is_held_back (if asks then field f.name (dotted_decimal peer) else f) ≡ false
with-held peer f asks held = grind arith

passed-one : (peer : List ℕ) (u : List Field) (f : Field) → is_wrong_address peer (value_or_empty address_name u) ≡ false → IsExact u f → is_held_back f ≡ false → IsPassed peer (with_address peer f)
passed-one peer u f right exactly held = (
  with-held peer f (asks_for_address f) held,
  λ called.
      let here : is_called address_name f ≡ true = ap (bytes_eq address_name) (sym (with-name peer f (asks_for_address f))) ∙ called in
      let value : (with_address peer f).value ≡ filled_address peer f.value = with-filled peer f (is_called address_name f) (bytes_eq any_address f.value) refl refl here in
      let found : value_of address_name u ≡ Some f.value = ap (λ n. value_of n u) ((bytes_eq-Decides address_name f.name).0 here) ∙ exactly in
      subst (λ (v : List ℕ). (v ≡ []) ⊎ (v ≡ dotted_decimal peer)) (sym value)
      (passed-address peer (Some f.value) (filled_address peer f.value) (ap (λ o. is_wrong_address peer (unwrap_or o [])) (sym found) ∙ right) refl),
)

passed-all : (peer : List ℕ) (u fields : List Field) → is_wrong_address peer (value_or_empty address_name u) ≡ false → AllByRecursion (IsExact u) fields
    → AllByRecursion (IsPassed peer) (clean fields peer)
unfolding clean
passed-all peer u [] right exactly = tt
passed-all peer u (f ∷ fields) right exactly =
    let go : (held : Bool) → is_held_back f ≡ held
    → AllByRecursion (IsPassed peer) (map (with_address peer) (cond (not held) (f ∷ filter (λ g. not (is_held_back g)) fields) (filter (λ g. not (is_held_back g)) fields))) =
    elim [
      | true ↦ λ is. passed-all peer u fields right exactly.1
      | false ↦ λ is. (passed-one peer u f right exactly.0 is, passed-all peer u fields right exactly.1)
    ] in
    go (is_held_back f) refl

-- ---- what words say

named-same : (named : Bool) (fields u : List Field) → (if named then unless_too_many fields else Err BadName) ≡ Ok u → u ≡ fields
named-same named fields u is = grind arith

pub read-update : (words : List (List ℕ)) (u : List Field) → updates.reading words ≡ Ok u → u ≡ update words
unfolding reading
read-update words u is = named-same (list_all is_named words) (update words) u is

pub read-passed : (peer : List ℕ) (words : List (List ℕ)) (u : List Field) → updates.reading words ≡ Ok u → is_wrong_address peer (value_or_empty address_name u) ≡ false
    → AllByRecursion (IsPassed peer) (clean u peer)
read-passed peer words u is right = passed-all peer u u right (exact u (subst Apart (sym (read-update words u is)) (apart-update words)))
