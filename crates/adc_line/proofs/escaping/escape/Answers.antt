use Rattle.std.proofs.lemmas.Result.{IfOk-weaker}
use Rattle.std.specs.String.{string_bytes}
use Rattle.adc_line.proofs.EscapeLaws.{read_back}
use Rattle.adc_line.proofs.escaping.escape.Goals as goal

pub returns-clause-back : goal.returns-clause-back
returns-clause-back c = IfOk-weaker c.escape_runs.result _ _ (λ word h. read_back (string_bytes word) c.args.text.now h) c.escape_runs.ensures
