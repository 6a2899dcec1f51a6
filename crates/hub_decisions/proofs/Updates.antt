-- What an update leaves known of a user, as the rules want.
use Rattle.std.specs.Result.{result_ok}
use Rattle.std.proofs.Common.{◌≡◌, ◌∙◌, sym, ap, refl, ℕ, true, not, ◌&&◌, cond, List, [], ◌∷◌, ◌++◌, Option, Some, None, unwrap_or}
use Rattle.std.specs.Option.{option_map, option_or}
use Rattle.std.specs.Prelude.{is_some, Result, Ok, Err}
use Rattle.feature_route.specs.Matching.{feature_set}
use Rattle.inf_fields.specs.Field.{Field, besides, value_of}
use Rattle.inf_fields.specs.FieldNames.{nick_name, support_name}
use Rattle.inf_fields.specs.Merging.{is_empty_value, latest, leave, merged_with}
use Rattle.inf_fields.specs.declared.fault.InfFault.{InfFault}
use Rattle.inf_fields.proofs.MergingLaws.{merged_with-settled, value_of-settled}
use Rattle.inf_fields.proofs.NameLemmas.{value_of-append, value_of-besides}
use Rattle.hub_rules.specs.Denied.{update_denied}
use Rattle.hub_rules.specs.Effects.{unless_denied, updates_user}
use Rattle.hub_rules.specs.Identities.{value_or_empty, key_in, key_of, meaning, su_in}
use Rattle.hub_rules.specs.Views.{SenderView, HubView}
use Rattle.hub_decisions.specs.Requested.{effect_of_update}

-- ---- one field after an update

value-renewed : (before after : Option (List ℕ))
    → unwrap_or (option_map (λ v. unwrap_or after v) (cond (not (is_empty_value after) && true) (option_or before (cond (not (is_some before)) after None)) None)) []
    ≡ unwrap_or after (unwrap_or before [])
value-renewed None None = refl
value-renewed (Some x) None = refl
value-renewed None (Some []) = refl
value-renewed (Some x) (Some []) = refl
value-renewed None (Some (b ∷ more)) = refl
value-renewed (Some x) (Some (b ∷ more)) = refl

-- a field has the value that the update gives it, and else the one before
given-renewed : (name : List ℕ) (fields u : List Field) → value_or_empty name (merged_with fields u) ≡ unwrap_or (value_of name u) (value_or_empty name fields)
given-renewed name fields u =
    ap (λ o. unwrap_or o [])
    (ap (value_of name) (merged_with-settled fields u) ∙ value_of-settled name (u ∷ []) (fields ++ besides fields u)
    ∙ ap (λ o. option_map (latest (u ∷ []) name) (cond (leave (u ∷ []) name) o None))
    (value_of-append name fields (besides fields u) ∙ ap (option_or (value_of name fields)) (value_of-besides name fields u)))
    ∙ value-renewed (value_of name fields) (value_of name u)

-- of the user's nick the key is that of the nick given, and else the one before
pub key-renewed : (before : List ℕ) (fields u : List Field) → before ≡ key_in fields → value_of nick_name u ≡ None → before ≡ key_in (merged_with fields u)
key-renewed before fields u is none = is ∙ ap (λ w. key_of (meaning w)) (sym (given-renewed nick_name fields u ∙ ap (λ o. unwrap_or o (value_or_empty nick_name fields)) none))

-- where the update that is passed on gives the nick that the whole one gives
pub key-given : (fields u passed : List Field) (word : List ℕ) → Some word ≡ value_of nick_name u → value_of nick_name passed ≡ value_of nick_name u
    → key_in u ≡ key_in (merged_with fields passed)
key-given fields u passed word is same =
    ap (λ w. key_of (meaning w))
    (ap (λ o. unwrap_or o []) (sym is)
    ∙ sym (given-renewed nick_name fields passed ∙ ap (λ o. unwrap_or o (value_or_empty nick_name fields)) (same ∙ sym is)))

pub support-renewed : (fields u : List Field) (text : List ℕ) → text ≡ unwrap_or (value_of support_name u) (value_or_empty support_name fields)
    → feature_set text ≡ feature_set (su_in (merged_with fields u))
support-renewed fields u text is = ap feature_set (is ∙ sym (given-renewed support_name fields u))

-- ---- the whole update

-- the rules go by what the words say
pub update-said : (hub : HubView) (own : SenderView) (said : Result (List Field) InfFault)
    → effect_of_update hub own (result_ok said) ≡ unless_denied own (update_denied hub own said) (updates_user own said)
update-said hub own (Ok u) = refl
update-said hub own (Err fault) = refl
