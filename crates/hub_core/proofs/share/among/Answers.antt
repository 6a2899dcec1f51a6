use Rattle.std.proofs.Common.{sym, subst}
use Rattle.feature_route.specs.declared.receivers.Audience.{Audience}
use Rattle.hub_core.specs.declared.share.Touched.TheVariants.{Nobody, One, Two}
use Rattle.hub_core.specs.TouchedSids.{NamesHearers}
use Rattle.hub_core.proofs.TouchedSids.{names-nobody, names-one, names-two}
use Rattle.hub_rules.specs.declared.effect.Hearers.TheVariants.{Those}
use Rattle.hub_core.proofs.share.among.Goals as goal

pub returns-in-One : goal.returns-in-One
returns-in-One c = subst (λ (a : Audience). NamesHearers (One c.in-One.sid) (Those a)) (sym c.in-One.is) (names-one c.in-One.sid)

pub returns-in-Two : goal.returns-in-Two
returns-in-Two c = subst (λ (a : Audience). NamesHearers (Two c.in-Two.one c.in-Two.other) (Those a)) (sym c.in-Two.is) (names-two c.in-Two.one c.in-Two.other)

pub returns-in-Nobody : goal.returns-in-Nobody
returns-in-Nobody c = subst (λ (a : Audience). NamesHearers Nobody (Those a)) (sym c.in-Nobody.is) names-nobody
