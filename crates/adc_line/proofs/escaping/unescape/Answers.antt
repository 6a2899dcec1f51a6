use Rattle.std.proofs.lemmas.Result.{IfOk-weaker, IfErr-weaker}
use Rattle.std.specs.String.{string_bytes}
use Rattle.adc_line.proofs.EscapeLaws.{escaped-unescaped, one_text, no_text}
use Rattle.adc_line.proofs.escaping.unescape.Goals as goal

pub returns-clause-spelling : goal.returns-clause-spelling
returns-clause-spelling c =
    IfOk-weaker c.unescape_runs.result _ _ (λ text h. escaped-unescaped c.args.word.now (string_bytes text) h) c.unescape_runs.ensures.exact

pub returns-clause-one : goal.returns-clause-one
returns-clause-one c =
    IfOk-weaker c.unescape_runs.result _ _ (λ text h other spelt. one_text c.args.word.now (string_bytes text) other h spelt) c.unescape_runs.ensures.exact

pub returns-clause-no_text : goal.returns-clause-no_text
returns-clause-no_text c =
    IfErr-weaker c.unescape_runs.result _ _ (λ fault h is text spelt. no_text c.args.word.now text (h is) spelt) c.unescape_runs.ensures.fault
