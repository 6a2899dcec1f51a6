-- Connections for which nothing of the log waits.
use Rattle.std.proofs.Common.{◌≡◌, ℕ, Bool, true, false, List, length, map, refl, ap, ◌∙◌, arith, Option, Some, None}
use Rattle.std.specs.Prelude.{◌&&◌, slice_get, option_map}
use Rattle.std.proofs.lemmas.Option.{slice_get-map}
use Rattle.std.proofs.lemmas.Bool.{eqb-true, false≢true}
use Rattle.outboxes.specs.Backlogs.{Backlog}
use Rattle.shared_log.specs.declared.cursor.Cursor.{Cursor}
use Rattle.shared_log.specs.declared.entry.LogEntry.{LogEntry}
use Rattle.shared_log.specs.Cursors.{is_at_end, is_settled, owed}
use Rattle.shared_log.proofs.Logs.{after-none}

-- all that waits is its own
pub owed-settled : (log : List LogEntry) (own : Backlog) (tail : Option ℕ) → is_at_end (length log) tail ≡ true → owed log own tail ≡ own
owed-settled log own None is = refl
owed-settled log own (Some tail) is =
    let end : tail ≡ length log = eqb-true tail (length log) is in
    after-none own log tail (omega arith)

both : (a b : Bool) → (a && b) ≡ true → (a ≡ true) × (b ≡ true)
both true b is = (refl, is)
both false b is = absurd (false≢true is)

-- the cursor behind a place that is settled
at-settled : (n : ℕ) (cursors : List Cursor) (place : ℕ) (c : Cursor) → slice_get (map (is_settled n) cursors) place ≡ Some true → slice_get cursors place ≡ Some c → is_settled n c ≡ true
at-settled n cursors place c settled is =
    let mapped : slice_get (map (is_settled n) cursors) place ≡ Some (is_settled n c) = slice_get-map (is_settled n) cursors place ∙ ap (option_map (is_settled n)) is in
    cc

pub cursor-settled : (n : ℕ) (cursors : List Cursor) (place : ℕ) (c : Cursor) → slice_get (map (is_settled n) cursors) place ≡ Some true → slice_get cursors place ≡ Some c → is_at_end n c.tail ≡ true
cursor-settled n cursors place c settled is = (both (is_at_end n c.tail) c.own.is_kept (at-settled n cursors place c settled is)).0

-- and it has an outbox
pub cursor-kept : (n : ℕ) (cursors : List Cursor) (place : ℕ) (c : Cursor) → slice_get (map (is_settled n) cursors) place ≡ Some true → slice_get cursors place ≡ Some c → c.own.is_kept ≡ true
cursor-kept n cursors place c settled is = (both (is_at_end n c.tail) c.own.is_kept (at-settled n cursors place c settled is)).1
