use Rattle.std.proofs.Common.{refl}
use Rattle.inf_fields.specs.Merging.{merged_fields}
use Rattle.inf_fields.proofs.MergingLaws.{merged-more, merged-all, value_of-merged}
use Rattle.inf_fields.proofs.OrderLaws.{merged-in_order}
use Rattle.inf_fields.proofs.laws.merging_laws.Goals as goal

pub returns-clause-none : goal.returns-clause-none
unfolding merged_fields
returns-clause-none c = refl

pub returns-clause-more : goal.returns-clause-more
returns-clause-more c = merged-more

pub returns-clause-values : goal.returns-clause-values
returns-clause-values c = value_of-merged

pub returns-clause-all : goal.returns-clause-all
returns-clause-all c = merged-all

pub returns-clause-order : goal.returns-clause-order
returns-clause-order c = merged-in_order
