use Rattle.std.proofs.Common.{◌∙◌, sym}
use Rattle.operator_acts.proofs.Cuts.{arguments-there}
use Rattle.operator_acts.proofs.Forms.{ban-read, ban-refused, passed-on, some-there}
use Rattle.operator_acts.proofs.act.ban.Goals as goal

pub returns-in_err-parse : goal.returns-in_err-parse
returns-in_err-parse c =
    let there = arguments-there c.args.arguments _ c.in_ok-ok_or.field-0 (sym c.ok_or.ensures.value ∙ c.in_ok-ok_or.was) in
    let more = arguments-there c.split_word.result.1 _ c.in_ok-ok_or-2.field-0 (sym c.ok_or-2.ensures.value ∙ c.in_ok-ok_or-2.was) in
    let long = some-there c.seconds_at.result _ c.in_ok-seconds.seconds (sym c.ok_or-3.ensures.value ∙ c.in_ok-seconds.was) in
    passed-on _ _ _ c.from_residual-in_err-parse.ensures.1
    (ban-refused _ _ _ _ _ c.in_ok-seconds.seconds c.in_err-parse.field-0.0 (there ∙ c.split_word.ensures) (more ∙ c.split_word-2.ensures)
    (sym c.seconds_at.ensures ∙ long) c.in_err-parse.ensures.refused c.in_err-parse.ensures.memory)

pub returns : goal.returns
returns c =
    let there = arguments-there c.args.arguments _ c.in_ok-ok_or.field-0 (sym c.ok_or.ensures.value ∙ c.in_ok-ok_or.was) in
    let more = arguments-there c.split_word.result.1 _ c.in_ok-ok_or-2.field-0 (sym c.ok_or-2.ensures.value ∙ c.in_ok-ok_or-2.was) in
    let long = some-there c.seconds_at.result _ c.in_ok-seconds.seconds (sym c.ok_or-3.ensures.value ∙ c.in_ok-seconds.was) in
    ban-read _ _ _ _ _ _ _ c.in_ok-seconds.seconds (there ∙ c.split_word.ensures) (more ∙ c.split_word-2.ensures)
    (sym c.seconds_at.ensures ∙ long) c.in_ok-parse.ensures.exact c.in_ok-parse.ensures.accepted c.of.ensures
