use Rattle.std.proofs.Common.{◌≡◌, ℕ, ◌*◌, ◌≤◌, ◌^◌, take, List}
use Rattle.std.specs.List.{sum_by}
use Rattle.inf_fields.specs.FieldNames.{share_size_name, shared_files_name}
use Rattle.user_table.specs.Listed.{Listed}
use Rattle.user_table.specs.Tables.{amount}
use Rattle.plain_users.proofs.plain.totals.Given as goal

pub record Summed (users : List Listed) (index ss sf : ℕ) : Type 0 where
  pub ss_is : ss ≡ sum_by (λ (user : Listed). amount share_size_name user.fields) (take index users)
  pub sf_is : sf ≡ sum_by (λ (user : Listed). amount shared_files_name user.fields) (take index users)
  pub ss_fits : ss ≤ index * 2 ^ 64
  pub sf_fits : sf ≤ index * 2 ^ 64

abbrev pub invariant-users : goal.invariant-users
invariant-users l = Summed l.users l.user-index l.ss l.sf
