use Rattle.std.proofs.Common.{◌∙◌}
use Rattle.hub_decisions.proofs.KnownUsers.{when-ok}
use Rattle.hub_decisions.proofs.Updates.{support-renewed}
use Rattle.hub_decisions.proofs.update.support_after.Goals as goal

pub returns : goal.returns
returns c = when-ok c.read.result c.read.ensures (λ set is. is ∙ support-renewed c.args.fields.now c.args.update.now c.support_text.result.now c.support_text.ensures)
