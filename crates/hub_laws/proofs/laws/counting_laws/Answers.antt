use Rattle.hub_laws.proofs.Searches.{search_is_the_last, totals_are_sums}
use Rattle.hub_laws.proofs.laws.counting_laws.Goals as goal

pub returns-clause-search : goal.returns-clause-search
returns-clause-search c = search_is_the_last

pub returns-clause-totals : goal.returns-clause-totals
returns-clause-totals c = totals_are_sums
