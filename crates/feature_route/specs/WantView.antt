-- A want as contracts see it.
use Rattle.feature_route.specs.declared.want.Want.TheInside.{Inside}
use Rattle.feature_route.specs.Wants.{Wants, wants_of}

abbrev pub wants_in : Inside → Wants
wants_in want = wants_of want.text.now
