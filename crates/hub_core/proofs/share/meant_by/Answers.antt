use Rattle.std.proofs.Common.{◌∙◌, sym, ap, subst}
use Rattle.std.proofs.lemmas.Bool.{eqb-true}
use Rattle.feature_route.specs.declared.receivers.Audience.TheVariants.{Two}
use Rattle.hub_core.specs.Owed.{IsOnlyFor}
use Rattle.hub_core.proofs.Owed.{nobody-only, one-only, two-only}
use Rattle.hub_core.proofs.share.meant_by.Goals as goal

pub returns-in-Nobody : goal.returns-in-Nobody
returns-in-Nobody c = subst (IsOnlyFor c.args.own c.args.own) (sym c.in-Nobody.is) (nobody-only c.args.own c.args.own)

pub returns-in-One : goal.returns-in-One
returns-in-One c = subst (IsOnlyFor c.args.own c.in-One.sid) (sym c.in-One.is) (one-only c.args.own c.in-One.sid)

pub returns-in-Two : goal.returns-in-Two
returns-in-Two c =
    subst (IsOnlyFor c.args.own c.in-Two.sid) (sym (c.in-Two.is ∙ ap (Two c.in-Two.sid) (eqb-true c.in-Two.other c.args.own (sym c.if-eq.ensures)))) (two-only c.args.own c.in-Two.sid)
