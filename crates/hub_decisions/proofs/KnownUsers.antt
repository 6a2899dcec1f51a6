-- The fields of a user, and those of an answer.
use Rattle.std.proofs.Common.{◌≡◌, ◌∙◌, sym, ap, refl, List, Option, None, Bor, unwrap_or}
use Rattle.std.specs.Option.{option_copied}
use Rattle.std.specs.Prelude.{Some, IfOk, Result, Ok, Err, is_some}
use Rattle.std.proofs.lemmas.Bool.{false≢true}
use Rattle.inf_fields.specs.Cleaning.{clean}
use Rattle.inf_fields.specs.Field.{Field}
use Rattle.inf_fields.specs.Merging.{merged_with}
use Rattle.user_table.specs.Listed.{Listed}
use Rattle.hub_decisions.specs.Known.{IsUser}
use Rattle.hub_rules.specs.Identities.{key_in, listed_user}
use Rattle.hub_rules.specs.Views.{SenderView, user_after}

pub user-key : (own : SenderView) (user : Listed) → IsUser own user → user.key ≡ key_in own.fields
unfolding listed_user
user-key own user is = ap (λ u. u.key) is

pub user-fields : (own : SenderView) (user : Listed) → IsUser own user → user.fields ≡ own.fields
unfolding listed_user
user-fields own user is = ap (λ u. u.fields) is

-- the key of the user that an INF makes
pub after-key : (own : SenderView) (u : List Field) → key_in (merged_with own.fields (clean u own.sender.peer)) ≡ (user_after own u).key
unfolding listed_user
after-key own u = refl

-- the user that is passed is that of the connection
pub has-user : (own : SenderView) (user : Option (Bor Listed)) (one : Bor Listed) → option_copied user ≡ Some (listed_user own.sender.sid own.fields) → user ≡ Some one → IsUser own one.now
has-user own user one is found = ap (λ o. unwrap_or o one.now) (sym (ap option_copied found) ∙ is)

pub no-user : (own : SenderView) (user : Option (Bor Listed)) → option_copied user ≡ Some (listed_user own.sender.sid own.fields) → user ≡ None → ⊥
no-user own user is none = false≢true (ap is_some (sym (ap option_copied none) ∙ is))

-- what is said of an answer follows from what else is said of it
pub when-ok : {A E : Type 0} {P Q : A → Type 0} (answer : Result A E) → IfOk answer P → ((x : A) → P x → Q x) → IfOk answer Q
when-ok (Ok x) holds follows = follows x holds
when-ok (Err e) holds follows = tt
