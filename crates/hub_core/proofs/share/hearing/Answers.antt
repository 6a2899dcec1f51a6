use Rattle.std.proofs.Common.{sym, subst}
use Rattle.hub_core.specs.TouchedSids.{NamesHearers}
use Rattle.hub_rules.specs.declared.effect.Hearers.{Hearers}
use Rattle.hub_core.proofs.share.hearing.Goals as goal

pub returns-in-Those : goal.returns-in-Those
returns-in-Those c = subst (λ (h : Hearers). NamesHearers c.among.result h) (sym c.in-Those.is) c.among.ensures
