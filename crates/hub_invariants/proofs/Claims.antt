-- Where a login, a password or an update is not denied, nobody else who is present has the nick or the identifier.
use Rattle.std.proofs.Common.{◌≡◌, sym, ap, refl, ℕ, zero, suc, Bool, true, false, not, List, [], ◌∷◌, drop, Option, Some, None, unwrap_or, arith}
use Rattle.std.specs.Str.{bytes_eq}
use Rattle.std.proofs.lemmas.Bool.{false≢true}
use Rattle.std.proofs.lemmas.Slice.Eq.{bytes_eq-Decides}
use Rattle.inf_fields.specs.Cleaning.{clean}
use Rattle.inf_fields.specs.Field.{Field, value_of}
use Rattle.inf_fields.specs.FieldNames.{id_name}
use Rattle.inf_fields.specs.Merging.{merged_fields, merged_with}
use Rattle.login_state.specs.declared.deny.Deny.{Deny}
use Rattle.login_state.specs.declared.deny.Deny.TheVariants as denials
use Rattle.user_table.specs.Listed.{Listed}
use Rattle.user_table.specs.Tables.{has_cid, has_key}
use Rattle.hub_rules.specs.Grounds.{entry_grounds, first_ground, is_digest, login_grounds, password_grounds, update_grounds}
use Rattle.hub_rules.specs.Identities.{cid_in, value_or_empty}
use Rattle.hub_rules.specs.Views as sights
use Rattle.hub_rules.specs.Views.{HubView, another_has_key, is_here}
use Rattle.hub_rules.proofs.Merges.{given-after, id-clean}

abbrev is_denied : Option Deny → Bool
is_denied None = false
is_denied (Some deny) = true

pub some-none : {deny : Deny} → Some deny ≡ None → ⊥
some-none is = false≢true (sym (ap is_denied is))

-- no ground holds
abbrev pub AllFalse : List (Bool × Deny) → Type 0
AllFalse [] = Unit {0}
AllFalse ((test, deny) ∷ more) = (test ≡ false) × AllFalse more

-- ---- grounds by what they deny with, wherever they stand

abbrev pub is_nick_taken : Deny → Bool
is_nick_taken (denials.NickTaken severity) = true
is_nick_taken deny = false

abbrev is_cid_taken : Deny → Bool
is_cid_taken denials.CidTaken = true
is_cid_taken deny = false

abbrev is_bad_field : Deny → Bool
is_bad_field (denials.BadField severity field) = true
is_bad_field deny = false

abbrev before_if : Bool → Bool × Deny → List (Bool × Deny) → List (Bool × Deny)
before_if true ground more = ground ∷ more
before_if false ground more = more

abbrev pub grounds_of : (Deny → Bool) → List (Bool × Deny) → List (Bool × Deny)
grounds_of is_so [] = []
grounds_of is_so ((test, deny) ∷ more) = before_if (is_so deny) (test, deny) (grounds_of is_so more)

false-before : (so : Bool) (deny : Deny) (more : List (Bool × Deny)) → AllFalse more → AllFalse (before_if so (false, deny) more)
false-before so deny more tests = grind arith

-- none of those holds where nothing is denied
pub none-of : (is_so : Deny → Bool) (grounds : List (Bool × Deny)) → first_ground grounds ≡ None → AllFalse (grounds_of is_so grounds)
none-of is_so [] none = tt
none-of is_so ((true, deny) ∷ more) none = absurd (some-none none)
none-of is_so ((false, deny) ∷ more) none = false-before (is_so deny) deny (grounds_of is_so more) (none-of is_so more none)

abbrev pub Unclaimed : HubView → Listed → Type 0
Unclaimed hub user = (is_here (has_key user.key) hub ≡ false) × (is_here (has_cid user.cid) hub ≡ false)

-- where a user may enter, nobody has its nick or its identifier
pub entry-free : (hub : HubView) (now : ℕ) (user : Listed) → first_ground (entry_grounds hub now user) ≡ None → Unclaimed hub user
unfolding entry_grounds
entry-free hub now user none = grind arith

-- where the first of several grounds denies nothing, nor do the others
past : (test : Bool) (deny : Deny) (more : List (Bool × Deny)) → first_ground ((test, deny) ∷ more) ≡ None → first_ground more ≡ None
past test deny more none = grind arith

pub dropped : (n : ℕ) (grounds : List (Bool × Deny)) → first_ground grounds ≡ None → first_ground (drop n grounds) ≡ None
dropped zero grounds none = none
dropped (suc n) [] none = none
dropped (suc n) ((test, deny) ∷ more) none = dropped n more (past test deny more none)

-- a password that is right leaves what is asked of each entry
pub password-entry : (hub : HubView) (own : sights.SenderView) (now : ℕ) (digest : Option (List ℕ)) (user : Listed) → first_ground (password_grounds hub own now digest user) ≡ None
    → first_ground (entry_grounds hub now user) ≡ None
password-entry hub own now digest user none = past (not (is_digest own.expected digest)) denials.Password (entry_grounds hub now user) none

pub password-free : (hub : HubView) (own : sights.SenderView) (now : ℕ) (digest : Option (List ℕ)) (user : Listed) → first_ground (password_grounds hub own now digest user) ≡ None
    → Unclaimed hub user
password-free hub own now digest user none = entry-free hub now user (password-entry hub own now digest user none)

pub login-free : (hub : HubView) (own : sights.SenderView) (now : ℕ) (digest : Option (List ℕ)) (u : List Field) (user : Listed) → first_ground (login_grounds hub own now digest u user) ≡ None
    → Unclaimed hub user
unfolding login_grounds
login-free hub own now digest u user none =
    let behind = dropped 9 (login_grounds hub own now digest u user) none in
    let nick : AllFalse (grounds_of is_nick_taken (drop 9 (login_grounds hub own now digest u user))) = none-of is_nick_taken (drop 9 (login_grounds hub own now digest u user)) behind in
    let cid : AllFalse (grounds_of is_cid_taken (drop 9 (login_grounds hub own now digest u user))) = none-of is_cid_taken (drop 9 (login_grounds hub own now digest u user)) behind in
    (nick.0, cid.0)

same-value : (value other : List ℕ) (same : Bool) → bytes_eq value other ≡ same → not same ≡ false → value ≡ other
same-value value other same is equal = grind (arith, bytes_eq-Decides)

-- the identifier that an update gives, or else the one before, is the one before
abbrev pub NamesOwn : List Field → List Field → Type 0
NamesOwn fields u = unwrap_or (value_of id_name u) (value_or_empty id_name fields) ≡ value_or_empty id_name fields

pub update-free : (hub : HubView) (own : sights.SenderView) (u : List Field) (user : Listed) → first_ground (update_grounds hub own u user) ≡ None
    → (another_has_key hub own.sender.sid user.key ≡ false) × NamesOwn own.fields u
unfolding update_grounds
update-free hub own u user none =
    let nick : AllFalse (grounds_of is_nick_taken (update_grounds hub own u user)) = none-of is_nick_taken (update_grounds hub own u user) none in
    let id : AllFalse (grounds_of is_bad_field (update_grounds hub own u user)) = none-of is_bad_field (update_grounds hub own u user) none in
    (nick.0, same-value (unwrap_or (value_of id_name u) (value_or_empty id_name own.fields)) (value_or_empty id_name own.fields) _ refl id.0)

-- an update that names no other identifier leaves the one that is known
pub same-cid : (own : sights.SenderView) (u : List Field) (infs : List (List Field)) → own.fields ≡ merged_fields infs → NamesOwn own.fields u
    → cid_in (merged_with own.fields (clean u own.sender.peer)) ≡ cid_in own.fields
same-cid own u infs known identity = grind (arith, given-after, id-clean)
