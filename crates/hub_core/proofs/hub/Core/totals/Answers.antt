use Rattle.std.proofs.Common.{◌∙◌, ap}
use Rattle.user_table.specs.Tables.{totals_of}
use Rattle.hub_core.specs.CoreState.{CoreState}
use Rattle.hub_core.proofs.NextHistory.{totals-told}
use Rattle.hub_core.proofs.hub.Core.totals.Goals as goal

pub returns : goal.returns
returns c = totals-told _ _ (c.totals.ensures ∙ ap (λ (s : CoreState). totals_of s.users) c.self.view_is)
