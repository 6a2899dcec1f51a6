-- What waits for connections, of which some are members: those who hear what is given to all members.
use Rattle.std.specs.Prelude.{◌≡◌, ℕ, zero, suc, Bool, true, false, not, List, [], ◌∷◌, ◌++◌, ◌&&◌, drop, get_or, map, slice_get, Some, if◌then◌else◌}
use Rattle.std.specs.List.{remove}
use Rattle.outboxes.specs.Backlogs.{Backlog, backlog_after, empty_backlog, with_lines}
use Rattle.outboxes.specs.Quits.{quit_line}

-- a connection: what waits for it, and whether it is a member
pub record Row : Type 0 where
  pub backlog : Backlog
  pub is_member : Bool

-- the connections by place; whether each is settled, so that lines of its own may be given to it; whether there is room for
-- one batch for the members; and the most lines and bytes that may wait for a connection
pub record Table : Type 0 where
  pub rows : List Row
  pub settled : List Bool
  pub is_ready : Bool
  pub cap : ℕ
  pub bytes : ℕ

-- ---- one connection

-- it has just come
abbrev pub new_row : ℕ → ℕ → Row
new_row cap bytes = record { backlog = empty_backlog cap bytes; is_member = false }

abbrev pub given : List (List ℕ) → Row → Row
given share row = record row { backlog = backlog_after row.backlog share }

-- a member hears what is given to all members
abbrev pub told : List (List ℕ) → Row → Row
told share row = if row.is_member then given share row else row

abbrev pub with_membership : Bool → Row → Row
with_membership is_member row = record row { is_member = is_member }

-- without the first lines
abbrev pub taken : ℕ → Row → Row
taken count row = record row { backlog = with_lines row.backlog (drop count row.backlog.lines) }

-- ---- connections by place

-- what stands at a place changes
abbrev pub at_place : {X : Type 0} → ℕ → (X → X) → List X → List X
at_place place change [] = []
at_place zero change (x ∷ xs) = change x ∷ xs
at_place (suc place) change (x ∷ xs) = x ∷ at_place place change xs

-- the row at a place; behind the last, one for which nothing waits
abbrev pub row_at : ℕ → Table → Row
row_at place table = get_or table.rows place (new_row 0 0)

abbrev pub backlog_at : ℕ → Table → Backlog
backlog_at place table = (row_at place table).backlog

abbrev pub is_member_at : ℕ → Table → Bool
is_member_at place table = (row_at place table).is_member

-- lines of its own may be given to the connection at a place
abbrev pub IsSettled : ℕ → Table → Type 0
IsSettled place table = slice_get table.settled place ≡ Some true

-- ---- what the calls make of them

abbrev pub empty_table : ℕ → ℕ → Table
empty_table cap bytes = record { rows = []; settled = []; is_ready = false; cap = cap; bytes = bytes }

abbrev pub with_rows : List Row → Table → Table
with_rows rows table = record table { rows = rows }

abbrev pub with_settled : List Bool → Table → Table
with_settled settled table = record table { settled = settled }

abbrev pub with_room : Table → Table
with_room table = record table { is_ready = true }

-- a connection comes, which is no member
abbrev pub with_new : Table → Table
with_new table = with_rows (table.rows ++ new_row table.cap table.bytes ∷ []) table

-- the row at a place changes
abbrev pub at_row : ℕ → (Row → Row) → Table → Table
at_row place change table = with_rows (at_place place change table.rows) table

abbrev pub settled_at : ℕ → Table → Table
settled_at place table = with_settled (at_place place (λ _. true) table.settled) table

-- of those that were settled only those are that are no members
abbrev pub settled_but : List Row → List Bool → List Bool
settled_but [] settled = []
settled_but (row ∷ rows) [] = []
settled_but (row ∷ rows) (is_settled ∷ settled) = (not row.is_member && is_settled) ∷ settled_but rows settled

-- the members hear a share, and are no more settled
abbrev pub told_members : List (List ℕ) → Table → Table
told_members share table = record table {
  rows = map (told share) table.rows;
  settled = settled_but table.rows table.settled;
  is_ready = false;
}

-- the connection at a place is gone
abbrev pub without : ℕ → Table → Table
without place table = record table { rows = remove table.rows place; settled = remove table.settled place }

abbrev pub told_if : Bool → List (List ℕ) → List Row → List Row
told_if true share rows = map (told share) rows
told_if false share rows = rows

-- the same; and where it was a member, the members hear that the user with this session identifier has left
abbrev pub after_quit : ℕ → ℕ → Table → Table
after_quit place sid table = with_rows (told_if (is_member_at place table) (quit_line sid ∷ []) (remove table.rows place)) table
