-- The effect of a command, by whether its user is an operator.
use Rattle.std.proofs.Common.{◌≡◌, ◌∙◌, sym, ap, ℕ, Bool, true, false, not, Option, Some}
use Rattle.std.specs.Prelude.{codes, if◌then◌else◌}
use Rattle.std.specs.Result.{result_err}
use Rattle.login_state.specs.declared.deny.Deny.TheVariants as denials
use Rattle.operator_acts.specs.declared.act.Act.{Act}
use Rattle.user_table.specs.Listed.{Listed}
use Rattle.hub_rules.specs.declared.effect.Effect.{Effect}
use Rattle.hub_rules.specs.Accounts.{operates}
use Rattle.hub_rules.specs.Acts.{answer_to, effect_by, is_operator}
use Rattle.hub_rules.specs.Effects.{denial, unless_denied}
use Rattle.hub_rules.specs.Views.{SenderView, HubView, account_of}
use Rattle.hub_decisions.specs.Commands.{effect_of_asked, effect_of_command}
use Rattle.hub_decisions.specs.Known.{IsUser}
use Rattle.hub_decisions.proofs.KnownUsers.{user-key}

pub operator-is : (hub : HubView) (own : SenderView) (user : Listed) (operator found : Bool) → operator ≡ operates (account_of hub user.key) → operator ≡ found → IsUser own user → is_operator hub own ≡ found
operator-is hub own user operator found is here known = ap (λ k. operates (account_of hub k)) (sym (user-key own user known)) ∙ sym is ∙ here

abbrev by_operator : Bool → HubView → SenderView → ℕ → Option Act → Effect
by_operator operator hub own now act =
    unless_denied own (if not operator then Some (denials.Access (codes "HMSG")) else result_err (answer_to hub own now act)) (effect_by (answer_to hub own now act))

pub others-ask : (hub : HubView) (own : SenderView) (now : ℕ) (act : Option Act) (effect : Effect) → effect ≡ denial own (denials.Access (codes "HMSG")) → is_operator hub own ≡ false → effect ≡ effect_of_command hub own now act
others-ask hub own now act effect is none = is ∙ sym (ap (λ operator. by_operator operator hub own now act) none)

pub operator-asks : (hub : HubView) (own : SenderView) (now : ℕ) (act : Option Act) (effect : Effect) → effect ≡ effect_of_asked hub own now act → is_operator hub own ≡ true → effect ≡ effect_of_command hub own now act
operator-asks hub own now act effect is operates = is ∙ sym (ap (λ operator. by_operator operator hub own now act) operates)
