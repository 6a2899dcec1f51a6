use Rattle.std.proofs.Common.{◌∙◌, sym}
use Rattle.operator_acts.proofs.Cuts.{arguments-there}
use Rattle.operator_acts.proofs.Forms.{unban-some}
use Rattle.operator_acts.proofs.act.unban.Goals as goal

pub returns-then-is_some : goal.returns-then-is_some
returns-then-is_some c =
    let there = arguments-there c.args.arguments _ c.in_ok-ok_or.field-0 (sym c.ok_or.ensures.value ∙ c.in_ok-ok_or.was) in
    unban-some _ _ c.split_word.result.1 (there ∙ c.split_word.ensures) (sym c.is_some.ensures ∙ c.if-is_some.true)
