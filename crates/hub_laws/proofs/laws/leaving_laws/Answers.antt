use Rattle.hub_laws.proofs.Departures.{departures_are_heard}
use Rattle.hub_laws.proofs.ShutOut.{kicks_shut_out, out_is_for_good, who_is_out_hears_nothing}
use Rattle.hub_laws.proofs.laws.leaving_laws.Goals as goal

pub returns-clause-nothing : goal.returns-clause-nothing
returns-clause-nothing c = who_is_out_hears_nothing

pub returns-clause-stays : goal.returns-clause-stays
returns-clause-stays c = out_is_for_good

pub returns-clause-kicks : goal.returns-clause-kicks
returns-clause-kicks c = kicks_shut_out

pub returns-clause-departures : goal.returns-clause-departures
returns-clause-departures c = departures_are_heard
