use Rattle.std.proofs.Common.{◌≡◌, ℕ, List, Option, length}
use Rattle.inf_fields.specs.Field.{Field}
use Rattle.user_table.specs.Listed.{Listed}
use Rattle.user_table.specs.Tables.{with_update}
use Rattle.hub_decisions.specs.Present.{AreFirst}
use Rattle.hub_decisions.proofs.KeptLines.{AreRenewed}
use Rattle.hub_decisions.proofs.lines.renew_at.Given as goal

abbrev pub invariant-loop-place : goal.invariant-loop-place
invariant-loop-place l = record {
  renewed : (update : List Field) (key : Option (List ℕ)) (before : List Listed) → l.users ≡ with_update l.fn.sid update key before → AreFirst l.setup before l.fn.lines.items
      → AreRenewed l.setup l.users l.fn.lines.items l.lines.items l.place;
  long : length l.lines.items ≡ length l.fn.lines.items;
}
