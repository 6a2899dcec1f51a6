use Rattle.std.proofs.Common.{rules, subst, sym}
use Rattle.std.proofs.lemmas.Fn.{filter_same}
use Rattle.hub_decisions.specs.Present.{AreFirst}
use Rattle.hub_decisions.proofs.KeptLines.{first-left}
use Rattle.hub_decisions.proofs.lines.PresentLines.remove.Goals as goal

pub returns : goal.returns
returns c = λ setup users first.
    first-left setup c.args.sid users c.self.inside.lines.items c.retain.new.self.items
    (filter_same _ _ _ (λ x b f' k. search rules) _ _ c.retain.ensures.filtered)
    (subst (AreFirst setup users) (sym c.self.view_is) first)
