-- The amounts that one user shares, and that users share together.
use Rattle.std.specs.Prelude.{◌+◌, ◌-◌}
use Rattle.inf_fields.specs.FieldNames.{share_size_name, shared_files_name}
use Rattle.user_table.specs.declared.totals.Totals.{Totals}
use Rattle.user_table.specs.declared.totals.SharedTotals.{SharedTotals}
use Rattle.user_table.specs.Listed.{Listed}
use Rattle.user_table.specs.Tables.{amount}

abbrev pub shared_by : Listed → SharedTotals
shared_by user = record { ss = amount share_size_name user.fields; sf = amount shared_files_name user.fields }

-- the totals with one user more
abbrev pub totals_with : SharedTotals → Totals → Totals
totals_with shared totals = record { users = totals.users + 1; ss = totals.ss + shared.ss; sf = totals.sf + shared.sf }

-- the totals with one user less
abbrev pub totals_without : SharedTotals → Totals → Totals
totals_without shared totals = record { users = totals.users - 1; ss = totals.ss - shared.ss; sf = totals.sf - shared.sf }
