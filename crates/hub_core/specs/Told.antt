-- The lines of the users who are present, which newcomers are told.
use Rattle.hub_core.specs.declared.present.Present.{Present}
use Rattle.hub_decisions.specs.Present.{AreFirst}
use Rattle.hub_rules.specs.Configured.{Configured}

-- those that are kept are the lines of the first users, in order
abbrev pub AreTold : Configured → Present → Type 0
AreTold setup present = AreFirst setup present.users present.lines

abbrev pub StaysTold : Configured → Present → Present → Type 0
StaysTold setup old new = AreTold setup old → AreTold setup new
