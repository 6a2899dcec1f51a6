-- Fields of accepted updates that are passed on may be known, and so may what is merged of them.
use Rattle.inf_fields.proofs.MergingLaws.{merged_with-settled}
use Rattle.std.proofs.Common.{◌≡◌, ◌∙◌, sym, ap, refl, subst, ℕ, Bool, true, false, cond, not, ◌||◌, ◌⊎◌, inl, inr, List, [], ◌∷◌, ◌++◌, map, filter, Option, Some, None, is_some, unwrap_or, arith}
use Rattle.hub_laws.proofs.Words.{AllByRecursion, Field, address_name, any_address, besides, bytes_eq, bytes_eq-Decides, clean, dotted_decimal, false≢true, field, followed_by, has_name}
use Rattle.hub_laws.proofs.Words.{if◌then◌else◌, is_called, is_empty, is_held_back, is_wrong_address, latest, leave, merged_with, option_map, settled_fields, value_of, value_or_empty}
use Rattle.hub_laws.proofs.Words.{with_address}
use Rattle.hub_laws.specs.Secrets.{IsPublic}

-- ---- lists

pub all-append : {X : Type 0} (P : X → Type 0) (xs ys : List X) → AllByRecursion P xs → AllByRecursion P ys → AllByRecursion P (xs ++ ys)
all-append P [] ys first second = second
all-append P (x ∷ xs) ys first second = (first.0, all-append P xs ys first.1 second)

all-cond : {X : Type 0} (P : X → Type 0) (b : Bool) (x : X) (xs : List X) → P x → AllByRecursion P xs → AllByRecursion P (cond b (x ∷ xs) xs)
all-cond P b x xs one rest = grind arith

pub all-filter : {X : Type 0} (P : X → Type 0) (test : X → Bool) (xs : List X) → AllByRecursion P xs → AllByRecursion P (filter test xs)
all-filter P test [] all = tt
all-filter P test (x ∷ xs) all = all-cond P (test x) x (filter test xs) all.0 (all-filter P test xs all.1)

pub all-as : {X : Type 0} (P Q : X → Type 0) (xs : List X) → ((x : X) → P x → Q x) → AllByRecursion P xs → AllByRecursion Q xs
all-as P Q [] implied all = tt
all-as P Q (x ∷ xs) implied all = (implied x all.0, all-as P Q xs implied all.1)

-- ---- an update names what it has

is-called : (f : Field) → is_called f.name f ≡ true
is-called f = (bytes_eq-Decides f.name f.name).1 refl

some-if : (b : Bool) (x : List ℕ) (o : Option (List ℕ)) → is_some o ≡ true → is_some (if b then Some x else o) ≡ true
some-if b x o some = grind arith

abbrev IsNamed : List Field → Field → Type 0
IsNamed u f = is_some (value_of f.name u) ≡ true

named : (u : List Field) → AllByRecursion (IsNamed u) u
named [] = tt
named (f ∷ u) = (
  ap (λ b. is_some (if b then Some f.value else value_of f.name u)) (is-called f),
  all-as (IsNamed u) (IsNamed (f ∷ u)) u (λ g some. some-if (is_called g.name f) f.value (value_of g.name u) some) (named u),
)

-- ---- what may be passed on

-- an update of which others may hear: it has nothing that is held back, and names no address but the one that the hub sees, or none
pub record HasPassed (peer : List ℕ) (u : List Field) : Type 0 where
  pub kept : AllByRecursion (λ (f : Field). is_held_back f ≡ false) u
  pub address : (v : List ℕ) → value_of address_name u ≡ Some v → (v ≡ []) ⊎ (v ≡ dotted_decimal peer)

addressed-held : (peer : List ℕ) (f : Field) (b : Bool) → is_held_back f ≡ false → is_held_back (if b then field f.name (dotted_decimal peer) else f) ≡ false
addressed-held peer f b held = grind arith

keep-if : (peer : List ℕ) (f : Field) (xs : List Field) (held : Bool) → is_held_back f ≡ held → AllByRecursion (λ (g : Field). is_held_back g ≡ false) (map (with_address peer) xs)
    → AllByRecursion (λ (g : Field). is_held_back g ≡ false) (map (with_address peer) (cond (not held) (f ∷ xs) xs))
keep-if peer f xs held is rest = grind (arith, addressed-held)

pub clean-kept : (u : List Field) (peer : List ℕ) → AllByRecursion (λ (f : Field). is_held_back f ≡ false) (clean u peer)
unfolding clean
clean-kept [] peer = tt
clean-kept (f ∷ u) peer = keep-if peer f (filter (λ g. not (is_held_back g)) u) (is_held_back f) refl (clean-kept u peer)

-- ---- the address in it

-- an address is filled in where the client asks for that
abbrev pub filled_address : List ℕ → List ℕ → List ℕ
filled_address peer v = if bytes_eq any_address v then dotted_decimal peer else v

address-cons : (peer : List ℕ) (f : Field) (u : List Field) (held called : Bool) → is_held_back f ≡ held → is_called address_name f ≡ called
    → value_of address_name (map (with_address peer) (filter (λ g. not (is_held_back g)) u)) ≡ option_map (filled_address peer) (value_of address_name u)
    → value_of address_name (map (with_address peer) (cond (not held) (f ∷ filter (λ g. not (is_held_back g)) u) (filter (λ g. not (is_held_back g)) u)))
    ≡ option_map (filled_address peer) (if called then Some f.value else value_of address_name u)
address-cons peer f u held called is-held is-called rest = grind arith

address-clean : (u : List Field) (peer : List ℕ) → value_of address_name (clean u peer) ≡ option_map (filled_address peer) (value_of address_name u)
unfolding clean
address-clean [] peer = refl
address-clean (f ∷ u) peer = address-cons peer f u (is_held_back f) (is_called address_name f) refl refl (address-clean u peer)

-- an address that is right is none, one to fill in, or the one that the hub sees
empty-nil : (w : List ℕ) → is_empty w ≡ true → w ≡ []
empty-nil w is = grind arith

filled-own : (peer : List ℕ) (any : Bool) → (if any then dotted_decimal peer else dotted_decimal peer) ≡ dotted_decimal peer
filled-own peer any = grind arith

is-right : (peer w : List ℕ) (none any own : Bool) → is_empty w ≡ none → bytes_eq w any_address ≡ any → bytes_eq w (dotted_decimal peer) ≡ own
    → not (none || any || own) ≡ false → (filled_address peer w ≡ []) ⊎ (filled_address peer w ≡ dotted_decimal peer)
is-right peer w true any own is-none is-any is-own right = inl (ap (filled_address peer) (empty-nil w is-none))
is-right peer w false true own is-none is-any is-own right = inr (ap (filled_address peer) ((bytes_eq-Decides w any_address).0 is-any))
is-right peer w false false true is-none is-any is-own right = inr (ap (filled_address peer) ((bytes_eq-Decides w (dotted_decimal peer)).0 is-own)
    ∙ filled-own peer (bytes_eq any_address (dotted_decimal peer)))
is-right peer w false false false is-none is-any is-own right = absurd (false≢true (sym right))

pub passed-address : (peer : List ℕ) (o : Option (List ℕ)) (v : List ℕ) → is_wrong_address peer (unwrap_or o []) ≡ false → option_map (filled_address peer) o ≡ Some v → (v ≡ [])
    ⊎ (v ≡ dotted_decimal peer)
passed-address peer None v right is = let none : ⊥ = cc is in absurd none
passed-address peer (Some w) v right is =
    let e : filled_address peer w ≡ v = cc is in
    subst (λ (x : List ℕ). (x ≡ []) ⊎ (x ≡ dotted_decimal peer)) e
    (is-right peer w (is_empty w) (bytes_eq w any_address) (bytes_eq w (dotted_decimal peer)) refl refl refl right)

pub clean-passed : (u : List Field) (peer : List ℕ) → is_wrong_address peer (value_or_empty address_name u) ≡ false → HasPassed peer (clean u peer)
clean-passed u peer right = record {
  kept = clean-kept u peer;
  address = λ v is. passed-address peer (value_of address_name u) v right (sym (address-clean u peer) ∙ is);
}

-- ---- merging

abbrev renewed_field : List Field → Field → Field
renewed_field u f = field f.name (latest (u ∷ []) f.name f.value)

renewed-public : (peer : List ℕ) (u : List Field) (f : Field) → HasPassed peer u → is_held_back f ≡ false
    → (is_called address_name f ≡ true → value_of f.name u ≡ None → f.value ≡ dotted_decimal peer) → leave (u ∷ []) f.name ≡ true → IsPublic peer (renewed_field u f)
renewed-public peer u f passed held own stays = grind arith

abbrev IsRenewed : List ℕ → List Field → Field → Type 0
IsRenewed peer u f = leave (u ∷ []) f.name ≡ true → IsPublic peer (renewed_field u f)

settle-if : (peer : List ℕ) (u : List Field) (f : Field) (xs : List Field) (stays : Bool) → leave (u ∷ []) f.name ≡ stays → IsRenewed peer u f
    → AllByRecursion (IsPublic peer) (map (renewed_field u) xs) → AllByRecursion (IsPublic peer) (map (renewed_field u) (cond stays (f ∷ xs) xs))
settle-if peer u f xs stays is one rest = grind arith

settled-public : (peer : List ℕ) (u xs : List Field) → AllByRecursion (IsRenewed peer u) xs → AllByRecursion (IsPublic peer) (settled_fields (u ∷ []) xs)
settled-public peer u [] all = tt
settled-public peer u (f ∷ xs) all =
    settle-if peer u f (filter (λ g. leave (u ∷ []) g.name) xs) (leave (u ∷ []) f.name) refl all.0 (settled-public peer u xs all.1)

none-named : (o : Option (List ℕ)) → is_some o ≡ true → o ≡ None → ⊥
none-named o some none = grind arith

both-named : (peer : List ℕ) (u xs : List Field) → HasPassed peer u → AllByRecursion (λ (f : Field). is_held_back f ≡ false) xs → AllByRecursion (IsNamed u) xs
    → AllByRecursion (IsRenewed peer u) xs
both-named peer u [] passed kept names = tt
both-named peer u (f ∷ xs) passed kept names = (
  (λ stays. renewed-public peer u f passed kept.0 (λ called none. absurd (none-named (value_of f.name u) names.0 none)) stays),
  both-named peer u xs passed kept.1 names.1,
)

pub merged-public : (peer : List ℕ) (fields u : List Field) → AllByRecursion (IsPublic peer) fields → HasPassed peer u → AllByRecursion (IsPublic peer) (merged_with fields u)
merged-public peer fields u all passed =
    subst (AllByRecursion (IsPublic peer)) (sym (merged_with-settled fields u)) (settled-public peer u (followed_by fields u)
    (all-append (IsRenewed peer u) fields (besides fields u)
    (all-as (IsPublic peer) (IsRenewed peer u) fields (λ f is stays. renewed-public peer u f passed is.0 (λ called none. is.1 called) stays) all)
    (all-filter (IsRenewed peer u) (λ f. not (has_name f.name fields)) u (both-named peer u u passed passed.kept (named u)))))
