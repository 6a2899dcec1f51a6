use Rattle.std.proofs.Common.{refl}
use Rattle.operator_acts.proofs.Cuts.{rest-whole}
use Rattle.operator_acts.proofs.free_text.FreeText.of.Goals as goal

pub returns : goal.returns
returns c = rest-whole c.args.rest _ c.unwrap_or.result refl c.unwrap_or.ensures
