use Rattle.std.proofs.Common.{◌∙◌, ap}
use Rattle.operator_acts.specs.Bans.{without_ban}
use Rattle.operator_acts.proofs.Entries.{removed-is}
use Rattle.operator_acts.proofs.bans.Bans.remove.Goals as goal

pub returns-clause-left : goal.returns-clause-left
returns-clause-left c =
    c.remove.ensures.entries ∙ removed-is c.args.cid c.self.inside.held.entries c.self.invariant.1 ∙ ap (λ bans. without_ban bans c.args.cid) c.self.view_is
