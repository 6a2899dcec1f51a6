-- Those for whom a message is are named by who it is for.
use Rattle.feature_route.specs.Audiences.{holds_words}
use Rattle.feature_route.specs.declared.receivers.Audience.TheVariants as audiences
use Rattle.std.proofs.Common.{ℕ}
use Rattle.hub_core.specs.declared.share.Touched.TheVariants.{Nobody, One, Two}
use Rattle.hub_core.specs.TouchedSids.{NamesHearers}
use Rattle.hub_rules.specs.declared.effect.Hearers.TheVariants.{Those}

pub names-one : (one : ℕ) → NamesHearers (One one) (Those (audiences.One one))
unfolding holds_words
names-one one is_caller sid support is = is

pub names-two : (one other : ℕ) → NamesHearers (Two one other) (Those (audiences.Two one other))
unfolding holds_words
names-two one other is_caller sid support is = is

pub names-nobody : NamesHearers Nobody (Those audiences.Nobody)
unfolding holds_words
names-nobody is_caller sid support is = is
