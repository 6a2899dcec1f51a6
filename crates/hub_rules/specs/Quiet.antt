-- Nothing happens.
use Rattle.std.specs.Prelude.{[]}
use Rattle.hub_rules.specs.declared.effect.Change.TheVariants.{Nothing}
use Rattle.hub_rules.specs.declared.effect.Effect.{Effect}
use Rattle.hub_rules.specs.declared.effect.Hearers.TheVariants.{Others}

abbrev pub nothing : Effect
nothing = record { own = []; others = []; hearers = Others; change = Nothing }
