-- The checks that were passed by a line that brings its user in, makes it wait for a password, or changes a nick.
use Rattle.std.proofs.Common.{◌≡◌, refl, ℕ, Bool, true, false, not, ◌&&◌, ◌||◌, ◌⊎◌, List, ◌∷◌, drop, Option, Some, None, arith}
use Rattle.operator_acts.specs.declared.left.Left.{Left}
use Rattle.hub_laws.proofs.Words.{AllFalse, Deny, Field, Listed, SenderView, HubView, bytes_eq, ban_ground, bytes_eq-Decides, dropped, entry_grounds, first_ground, grounds_of, is_account, is_digest}
use Rattle.hub_laws.proofs.Words.{key_in, left_of_bans, login_grounds, none-of, option_or, or-parts, password_grounds, update_grounds}
use Rattle.hub_laws.proofs.Words.denials
use Rattle.hub_laws.proofs.Words.lefts

-- ---- what the grounds say that deny nothing

abbrev pub is_for_accounts : Deny → Bool
is_for_accounts denials.Registered = true
is_for_accounts deny = false

abbrev pub is_access : Deny → Bool
is_access (denials.Access word) = true
is_access deny = false

free-ban : (l : Left) (more : List (Bool × Deny)) → first_ground (ban_ground l ∷ more) ≡ None → l ≡ lefts.Free
free-ban l more none = grind arith

-- only accounts are let in, and this nick is none
abbrev pub is_barred : HubView → List ℕ → Bool
is_barred hub key = hub.setup.plain.registered_only && not (is_account hub key)

pub entry-unbanned : (hub : HubView) (now : ℕ) (user : Listed) → first_ground (entry_grounds hub now user) ≡ None → left_of_bans hub.bans user.cid now ≡ lefts.Free
unfolding entry_grounds
entry-unbanned hub now user none = grind arith

pub login-rules : (hub : HubView) (own : SenderView) (now : ℕ) (digest : Option (List ℕ)) (u : List Field) (user : Listed) → first_ground (login_grounds hub own now digest u user) ≡ None
    → (left_of_bans hub.bans user.cid now ≡ lefts.Free) × (is_barred hub user.key ≡ false)
unfolding login_grounds
login-rules hub own now digest u user none =
    let behind = dropped 9 (login_grounds hub own now digest u user) none in
    let accounts : AllFalse (grounds_of is_for_accounts (drop 9 (login_grounds hub own now digest u user))) =
    none-of is_for_accounts (drop 9 (login_grounds hub own now digest u user)) behind in
    (free-ban (left_of_bans hub.bans user.cid now) (drop 9 (login_grounds hub own now digest u user)) (dropped 8 (login_grounds hub own now digest u user) none), accounts.0)

-- an update leaves the nick, or neither the one before nor the one afterwards is an account's
abbrev pub KeepsNick : HubView → List ℕ → List ℕ → Type 0
KeepsNick hub before afterwards = (afterwards ≡ before) ⊎ ((is_account hub before ≡ false) × (is_account hub afterwards ≡ false))

untouched : (hub : HubView) (before afterwards : List ℕ) (same either : Bool) → bytes_eq afterwards before ≡ same → (is_account hub before || is_account hub afterwards) ≡ either
    → (not same && either) ≡ false → KeepsNick hub before afterwards
untouched hub before afterwards same either is-same is-either none = grind (arith, bytes_eq-Decides, or-parts)

pub update-keeps : (hub : HubView) (own : SenderView) (u : List Field) (user : Listed) → first_ground (update_grounds hub own u user) ≡ None → KeepsNick hub (key_in own.fields) user.key
unfolding update_grounds
update-keeps hub own u user none =
    let access : AllFalse (grounds_of is_access (update_grounds hub own u user)) = none-of is_access (update_grounds hub own u user) none in
    untouched hub (key_in own.fields) user.key (bytes_eq user.key (key_in own.fields)) (is_account hub (key_in own.fields) || is_account hub user.key) refl refl access.0

-- the digest that is given is the one that is waited for
right-digest : (expected digest : List ℕ) (same : Bool) → bytes_eq digest expected ≡ same → not same ≡ false → digest ≡ expected
right-digest expected digest same is none = grind (arith, bytes_eq-Decides)

right-password : (expected : List ℕ) (given : Option (List ℕ)) → not (is_digest expected given) ≡ false → given ≡ Some expected
right-password expected given none = grind (arith, right-digest)

pub password-right : (hub : HubView) (own : SenderView) (now : ℕ) (given : Option (List ℕ)) (user : Listed) → first_ground (password_grounds hub own now given user) ≡ None
    → given ≡ Some own.expected
unfolding entry_grounds
password-right hub own now given user none = grind (arith, none-of, right-password)

pub first-none : (first later : Option Deny) → option_or first later ≡ None → first ≡ None
first-none first later none = grind arith
