-- Whether a listener rests.
use Rattle.std.specs.Prelude.{Bool, true, false}
use Rattle.hub_listener.specs.declared.rest.Rest.{Rest}
use Rattle.hub_listener.specs.declared.rest.Rest.TheVariants.{Never, On, Over}

abbrev pub is_on : Rest → Bool
is_on Never = false
is_on On = true
is_on (Over look) = false
