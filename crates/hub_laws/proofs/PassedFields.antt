-- The part of an update that is passed on leaves the nick as it came.
use Rattle.std.proofs.Common.{◌≡◌, ◌∙◌, sym, ap, refl, ℕ, Bool, true, false, not, ◌&&◌, cond, List, [], ◌∷◌, map, filter, Some, unwrap_or, arith}
use Rattle.hub_laws.proofs.Words.{Field, address_name, any_address, asks_for_address, bytes_eq, clean, dotted_decimal, false≢true, field, given-after, if◌then◌else◌, is_called, is_held_back}
use Rattle.hub_laws.proofs.Words.{key_in, key_of, meaning, merged_fields, merged_with, nick_name, value_of, value_or_empty, with_address}

other-name : (other : List ℕ) (f : Field) (called : Bool) → bytes_eq nick_name other ≡ false → is_called other f ≡ called → is_called nick_name f ≡ true → called ≡ false
other-name other f called apart is here = grind arith

other-is : (other : List ℕ) (f : Field) → bytes_eq nick_name other ≡ false → is_called nick_name f ≡ true → is_called other f ≡ false
other-is other f apart here = other-name other f (is_called other f) apart refl here

passed-name : (asks : Bool) (f g : Field) → g.name ≡ f.name → (if asks then g else f).name ≡ f.name
passed-name asks f g same = grind arith

nick-kept : (f : Field) → is_called nick_name f ≡ true → is_held_back f ≡ false
nick-kept f here = grind arith

nick-value : (peer : List ℕ) (f : Field) → is_called nick_name f ≡ true → with_address peer f ≡ f
nick-value peer f here = ap (λ b. if (b && bytes_eq any_address f.value) then field f.name (dotted_decimal peer) else f) (other-is address_name f refl here)

clean-cons : (held called : Bool) (peer : List ℕ) (f : Field) (fields : List Field) → is_held_back f ≡ held → is_called nick_name f ≡ called
    → value_of nick_name (map (with_address peer) (filter (λ g. not (is_held_back g)) fields)) ≡ value_of nick_name fields
    → value_of nick_name (map (with_address peer) (cond (not held) (f ∷ filter (λ g. not (is_held_back g)) fields) (filter (λ g. not (is_held_back g)) fields)))
    ≡ (if called then Some f.value else value_of nick_name fields)
clean-cons true true peer f fields held called rest = absurd (false≢true (sym (nick-kept f called) ∙ held))
clean-cons true false peer f fields held called rest = rest
clean-cons false true peer f fields held called rest =
    ap (λ g. if is_called nick_name g then Some g.value else value_of nick_name (map (with_address peer) (filter (λ g. not (is_held_back g)) fields))) (nick-value peer f called)
    ∙ ap (λ b. if b then Some f.value else value_of nick_name (map (with_address peer) (filter (λ g. not (is_held_back g)) fields))) called
clean-cons false false peer f fields held called rest =
    ap (λ b. if b then Some (with_address peer f).value else value_of nick_name (map (with_address peer) (filter (λ g. not (is_held_back g)) fields)))
    (ap (bytes_eq nick_name) (passed-name (asks_for_address f) f (field f.name (dotted_decimal peer)) refl) ∙ called)
    ∙ rest

pub nick-clean : (fields : List Field) (peer : List ℕ) → value_of nick_name (clean fields peer) ≡ value_of nick_name fields
unfolding clean
nick-clean [] peer = refl
nick-clean (f ∷ fields) peer = clean-cons (is_held_back f) (is_called nick_name f) peer f fields refl refl (nick-clean fields peer)

merged-none : merged_fields [] ≡ []
unfolding merged_fields
merged-none = refl

pub nick-merged : (u : List Field) (peer : List ℕ) → value_or_empty nick_name (merged_with [] (clean u peer)) ≡ value_or_empty nick_name u
nick-merged u peer = given-after nick_name [] [] (clean u peer) (sym merged-none) ∙ ap (λ o. unwrap_or o []) (nick-clean u peer)

-- where nothing is known of a user yet, its nick is that of its first INF
pub key-merged : (fields : List Field) (u : List Field) (peer : List ℕ) → fields ≡ [] → key_in (merged_with fields (clean u peer)) ≡ key_in u
key-merged fields u peer none = ap (λ fs. key_in (merged_with fs (clean u peer))) none ∙ ap (λ (nick : List ℕ). key_of (meaning nick)) (nick-merged u peer)
