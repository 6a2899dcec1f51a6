use Rattle.std.proofs.Common.{◌∙◌, sym}
use Rattle.operator_acts.proofs.Cuts.{arguments-there}
use Rattle.operator_acts.proofs.Forms.{kick-read, kick-refused, passed-on}
use Rattle.operator_acts.proofs.act.kick.Goals as goal

pub returns-in_err-parse : goal.returns-in_err-parse
returns-in_err-parse c =
    let there = arguments-there c.args.arguments _ c.in_ok-ok_or.field-0 (sym c.ok_or.ensures.value ∙ c.in_ok-ok_or.was) in
    let refused = kick-refused _ _ _ c.in_err-parse.field-0.0 (there ∙ c.split_word.ensures) c.in_err-parse.ensures.refused c.in_err-parse.ensures.memory in
    passed-on _ _ _ c.from_residual-in_err-parse.ensures.1 refused

pub returns : goal.returns
returns c =
    let there = arguments-there c.args.arguments _ c.in_ok-ok_or.field-0 (sym c.ok_or.ensures.value ∙ c.in_ok-ok_or.was) in
    kick-read _ _ _ _ _ (there ∙ c.split_word.ensures) c.in_ok-parse.ensures.exact c.in_ok-parse.ensures.accepted c.of.ensures
