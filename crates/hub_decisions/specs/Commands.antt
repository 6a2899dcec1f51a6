-- The effect of a command: it is for operators.
use Rattle.std.specs.Prelude.{ℕ, not, codes, Option, Result, Some, if◌then◌else◌}
use Rattle.std.specs.Result.{result_err}
use Rattle.login_state.specs.declared.deny.Deny.{Deny}
use Rattle.login_state.specs.declared.deny.Deny.TheVariants as denials
use Rattle.operator_acts.specs.declared.act.Act.{Act}
use Rattle.hub_rules.specs.declared.effect.Effect.{Effect}
use Rattle.hub_rules.specs.Acts.{Done, answer_to, effect_by, is_operator}
use Rattle.hub_rules.specs.Effects.{unless_denied}
use Rattle.hub_rules.specs.Views.{SenderView, HubView}

abbrev pub command_denied : HubView → SenderView → ℕ → Option Act → Option Deny
command_denied hub own now act = if not (is_operator hub own) then Some (denials.Access (codes "HMSG")) else result_err (answer_to hub own now act)

abbrev pub effect_of_command : HubView → SenderView → ℕ → Option Act → Effect
effect_of_command hub own now act = unless_denied own (command_denied hub own now act) (effect_by (answer_to hub own now act))

abbrev pub answer_for : SenderView → Result Done Deny → Effect
answer_for own answer = unless_denied own (result_err answer) (effect_by answer)

-- of an operator
abbrev pub effect_of_asked : HubView → SenderView → ℕ → Option Act → Effect
effect_of_asked hub own now act = answer_for own (answer_to hub own now act)
