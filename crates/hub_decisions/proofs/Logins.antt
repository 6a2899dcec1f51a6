-- What a login leads to, as the rules want.
use Rattle.std.specs.Result.{result_ok}
use Rattle.std.proofs.Common.{◌≡◌, ◌∙◌, sym, ap, ap₂, refl, ℕ, List, [], Option, Some, None, unwrap_or}
use Rattle.std.specs.Prelude.{Result, Ok, Err}
use Rattle.adc_base32.specs.Spelled.{spelled_bytes}
use Rattle.feature_route.specs.Matching.{feature_set}
use Rattle.inf_fields.specs.Cleaning.{clean}
use Rattle.inf_fields.specs.Field.{Field}
use Rattle.inf_fields.specs.FieldNames.{id_name, nick_name}
use Rattle.inf_fields.specs.Merging.{merged_fields, merged_with}
use Rattle.inf_fields.specs.declared.fault.InfFault.{InfFault}
use Rattle.login_state.specs.declared.deny.Deny.{Deny}
use Rattle.user_table.specs.Listed.{Listed}
use Rattle.hub_rules.specs.declared.effect.Effect.{Effect}
use Rattle.hub_rules.specs.declared.effect.Entrant.{Entrant}
use Rattle.hub_decisions.specs.Admissions.{cid_of}
use Rattle.hub_rules.specs.Denied.{login_denied}
use Rattle.hub_rules.specs.Effects.{admits, denial, entrant, logs_in, unless_denied}
use Rattle.hub_rules.specs.Identities.{cid_in, value_or_empty, key_in, key_of, listed_user, meaning, su_in}
use Rattle.hub_rules.specs.Views.{SenderView, PreparedLine, HubView, is_account, user_after}
use Rattle.hub_rules.proofs.Merges.{given-after, id-clean, nick-clean}
use Rattle.hub_decisions.specs.Requested.{effect_of_login}

-- ---- the user

merged-none : merged_fields [] ≡ []
unfolding merged_fields
merged-none = refl

id-known : (u : List Field) (peer : List ℕ) → value_or_empty id_name (merged_with [] (clean u peer)) ≡ value_or_empty id_name u
id-known u peer = given-after id_name [] [] (clean u peer) (sym merged-none) ∙ ap (λ o. unwrap_or o []) (id-clean u peer)

pub after-cid : (own : SenderView) (u : List Field) → own.fields ≡ [] → (user_after own u).cid ≡ cid_of u
unfolding listed_user
after-cid own u none = ap (λ fs. cid_in (merged_with fs (clean u own.sender.peer))) none ∙ ap (λ v. unwrap_or (spelled_bytes 24 v) []) (id-known u own.sender.peer)

nick-known : (u : List Field) (peer : List ℕ) → value_or_empty nick_name (merged_with [] (clean u peer)) ≡ value_or_empty nick_name u
nick-known u peer = given-after nick_name [] [] (clean u peer) (sym merged-none) ∙ ap (λ o. unwrap_or o []) (nick-clean u peer)

pub known-key : (own : SenderView) (u : List Field) → own.fields ≡ [] → (user_after own u).key ≡ key_in u
unfolding listed_user
known-key own u none = ap (λ fs. key_in (merged_with fs (clean u own.sender.peer))) none ∙ ap (λ w. key_of (meaning w)) (nick-known u own.sender.peer)

-- the identifier of one who may enter is that of the fields
pub after-fields : (own : SenderView) (u : List Field) → (user_after own u).cid ≡ cid_in (merged_with own.fields (clean u own.sender.peer))
unfolding listed_user
after-fields own u = refl

abbrev user_with : ℕ → List ℕ → List ℕ → List Field → Listed
user_with sid cid key fields = record { sid = sid; cid = cid; key = key; fields = fields }

pub made-entrant : (user : Listed) (support : List (List ℕ)) (sid : ℕ) (cid key : List ℕ) (fields : List Field)
    → user.sid ≡ sid → user.cid ≡ cid → user.key ≡ key → user.fields ≡ fields → support ≡ feature_set (su_in fields) → cid ≡ cid_in fields → key ≡ key_in fields
    → ◌≡◌ {A = Entrant} (record { user = user; support = support }) (entrant (listed_user sid fields))
unfolding listed_user
made-entrant user support sid cid key fields same_sid same_cid same_key same_fields same_support cid_is key_is =
    ap₂ (λ u s. record { user = u; support = s })
    (ap₂ (λ s c. user_with s c user.key user.fields) same_sid (same_cid ∙ cid_is)
    ∙ ap₂ (λ k f. user_with sid (cid_in fields) k f) (same_key ∙ key_is) same_fields)
    same_support

-- ---- the whole login

pub login-denied : (hub : HubView) (own : SenderView) (prepared : PreparedLine) (digest : Option (List ℕ)) (now : ℕ) (u : List Field) (deny : Deny)
    → digest ≡ prepared.owner → login_denied hub own digest now (Ok u) ≡ Some deny → denial own deny ≡ effect_of_login hub own prepared now (Some u)
login-denied hub own prepared digest now u deny owned denied =
    ap (λ d. unless_denied own d (logs_in hub own prepared (Ok u))) (sym denied ∙ ap (λ d. login_denied hub own d now (Ok u)) owned)

pub login-admitted : (hub : HubView) (own : SenderView) (prepared : PreparedLine) (digest : Option (List ℕ)) (now : ℕ) (u : List Field) (effect : Effect)
    → digest ≡ prepared.owner → login_denied hub own digest now (Ok u) ≡ None
    → effect ≡ admits hub own prepared (is_account hub (user_after own u).key) (user_after own u)
    → effect ≡ effect_of_login hub own prepared now (Some u)
login-admitted hub own prepared digest now u effect owned may_enter is =
    is ∙ ap (λ d. unless_denied own d (logs_in hub own prepared (Ok u))) (sym may_enter ∙ ap (λ d. login_denied hub own d now (Ok u)) owned)

-- the rules go by what the words say
pub login-said : (hub : HubView) (own : SenderView) (prepared : PreparedLine) (now : ℕ) (said : Result (List Field) InfFault)
    → effect_of_login hub own prepared now (result_ok said) ≡ unless_denied own (login_denied hub own prepared.owner now said) (logs_in hub own prepared said)
login-said hub own prepared now (Ok u) = refl
login-said hub own prepared now (Err fault) = refl
