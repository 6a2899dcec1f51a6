use Rattle.std.proofs.Common.{◌∙◌}
use Rattle.history_check.proofs.Parts.{no-text, parsed, plus-is-none}
use Rattle.history_check.proofs.words.number.Goals as goal

pub returns-then-starts_with : goal.returns-then-starts_with
returns-then-starts_with c = plus-is-none c.args.word.now c.starts_with.result c.starts_with.ensures.value c.if-starts_with.true

pub returns-in-Ok : goal.returns-in-Ok
returns-in-Ok c =
    c.ok.ensures.value
    ∙ parsed c.args.word.now c.starts_with.result c.parse.result c.starts_with.ensures.value c.if-starts_with.false
    (rw c.in-Ok.ensures.cases.0 at c.parse.ensures.value.0)

pub returns-in-Err : goal.returns-in-Err
returns-in-Err c = no-text c.args.word.now c.in-Err.ensures.cases.0
