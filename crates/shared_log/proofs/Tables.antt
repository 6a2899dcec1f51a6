-- What changes of cursors and of the log are for the rows.
use Rattle.std.proofs.Common.{◌≡◌, ℕ, zero, suc, ◌+◌, ◌-◌, true, false, List, [], ◌∷◌, ◌++◌, length, get_or, drop, map, refl, ap, sym, ◌∙◌, arith, Option, Some, None, length-append, length-drop}
use Rattle.std.specs.Prelude.{◌&&◌, ◌==◌, slice_get, not}
use Rattle.std.specs.List.{All}
use Rattle.std.proofs.lemmas.Bool.{eq-eqb}
use Rattle.std.proofs.lemmas.Bool.Decides.{eqb_tells}
use Rattle.std.proofs.lemmas.List.{drop-append-le, drop-drop}
use Rattle.std.proofs.lemmas.List.Elements.{All-cons, All-head, All-nil, All-tail}
use Rattle.outboxes.specs.Backlogs.{Backlog, backlog_after, with_lines}
use Rattle.shared_log.specs.declared.cursor.Cursor.{Cursor}
use Rattle.shared_log.specs.declared.entry.LogEntry.{LogEntry}
use Rattle.shared_log.specs.Cursors.{IsPast, IsTailWithin, IsInLog, shifted, tail_after, cursor_given, cursor_taken, own_at, is_at_end, is_kept_at, is_settled, row_of, with_tail}
use Rattle.shared_log.specs.Entries.{after_all, entry_lines}
use Rattle.shared_log.specs.OwnLines.{OwnQueue}
use Rattle.shared_log.specs.Tables.{Row, at_place, given, new_row, settled_but, taken, told, with_membership}
use Rattle.shared_log.proofs.Logs.{after-none, after-push}
use Rattle.shared_log.proofs.Places.{map-at, map-at-same}
use Rattle.shared_log.proofs.Settled.{cursor-kept, cursor-settled, owed-settled}

own-waits-at : (log : List LogEntry) (cursors : List Cursor) (place : ℕ) → slice_get (map (is_settled (length log)) cursors) place ≡ Some true → own_at place cursors ≡ (get_or (map (row_of log) cursors) place (new_row 0 0)).backlog
own-waits-at log [] zero settled = refl
own-waits-at log [] (suc place) settled = refl
own-waits-at log (c ∷ cursors) zero settled = sym (owed-settled log c.own.backlog c.tail (cursor-settled (length log) (c ∷ cursors) zero c settled refl))
own-waits-at log (c ∷ cursors) (suc place) settled = own-waits-at log cursors place settled

kept-at : (n : ℕ) (cursors : List Cursor) (place : ℕ) → slice_get (map (is_settled n) cursors) place ≡ Some true → is_kept_at place cursors ≡ true
kept-at n [] place settled = absurd (cc)
kept-at n (c ∷ cursors) zero settled = cursor-kept n (c ∷ cursors) zero c settled refl
kept-at n (c ∷ cursors) (suc place) settled = kept-at n cursors place settled

module _ (log : List LogEntry) (cursors : List Cursor) (place : ℕ) (settled : slice_get (map (is_settled (length log)) cursors) place ≡ Some true) where
  -- lines of its own are behind all that waits
  pub rows-given : (share : List (List ℕ)) → map (row_of log) (at_place place (cursor_given share) cursors) ≡ at_place place (given share) (map (row_of log) cursors)
  rows-given share =
      map-at (row_of log) (cursor_given share) (given share) place cursors
      (λ c is.
      let end = cursor-settled (length log) cursors place c settled is in
      let e = owed-settled log (backlog_after c.own.backlog share) c.tail end in
      let f = owed-settled log c.own.backlog c.tail end in
      ap (λ b. record { backlog = b; is_member = (row_of log c).is_member }) (e ∙ ap (λ b. backlog_after b share) (sym f)))

  pub settled-given : (share : List (List ℕ)) → map (is_settled (length log)) (at_place place (cursor_given share) cursors) ≡ map (is_settled (length log)) cursors
  settled-given share = map-at-same (is_settled (length log)) (cursor_given share) place cursors (λ c is. refl)

  pub rows-entered : map (row_of log) (at_place place (with_tail (Some (length log))) cursors) ≡ at_place place (with_membership true) (map (row_of log) cursors)
  rows-entered =
      map-at (row_of log) (with_tail (Some (length log))) (with_membership true) place cursors
      (λ c is.
      let e = after-none c.own.backlog log (length log) (omega arith) in
      let f = owed-settled log c.own.backlog c.tail (cursor-settled (length log) cursors place c settled is) in
      ap (λ b. record { backlog = b; is_member = true }) (e ∙ sym f))

  pub settled-entered : map (is_settled (length log)) (at_place place (with_tail (Some (length log))) cursors) ≡ map (is_settled (length log)) cursors
  settled-entered =
      map-at-same (is_settled (length log)) (with_tail (Some (length log))) place cursors
      (λ c is. ap (λ b. b && c.own.is_kept) (eq-eqb (length log) (length log) refl ∙ sym (cursor-settled (length log) cursors place c settled is)))

  pub rows-left : map (row_of log) (at_place place (with_tail None) cursors) ≡ at_place place (with_membership false) (map (row_of log) cursors)
  rows-left =
      map-at (row_of log) (with_tail None) (with_membership false) place cursors
      (λ c is.
      let f = owed-settled log c.own.backlog c.tail (cursor-settled (length log) cursors place c settled is) in
      ap (λ b. record { backlog = b; is_member = false }) (sym f))

  pub settled-left : map (is_settled (length log)) (at_place place (with_tail None) cursors) ≡ map (is_settled (length log)) cursors
  settled-left = map-at-same (is_settled (length log)) (with_tail None) place cursors (λ c is. ap (λ b. b && c.own.is_kept) (sym (cursor-settled (length log) cursors place c settled is)))

  pub rows-taken : (count : ℕ) → map (row_of log) (at_place place (cursor_taken count) cursors) ≡ at_place place (taken count) (map (row_of log) cursors)
  rows-taken count =
      map-at (row_of log) (cursor_taken count) (taken count) place cursors
      (λ c is.
      let end = cursor-settled (length log) cursors place c settled is in
      let e = owed-settled log (with_lines c.own.backlog (drop count c.own.backlog.lines)) c.tail end in
      let f = owed-settled log c.own.backlog c.tail end in
      ap (λ b. record { backlog = b; is_member = (row_of log c).is_member }) (e ∙ ap (λ b. with_lines b (drop count b.lines)) (sym f)))

  pub settled-taken : (count : ℕ) → map (is_settled (length log)) (at_place place (cursor_taken count) cursors) ≡ map (is_settled (length log)) cursors
  settled-taken count = map-at-same (is_settled (length log)) (cursor_taken count) place cursors (λ c is. refl)

  -- what waits there is its own
  pub own-waits : own_at place cursors ≡ (get_or (map (row_of log) cursors) place (new_row 0 0)).backlog
  own-waits = own-waits-at log cursors place settled

  -- and it has an outbox
  pub own-kept : is_kept_at place cursors ≡ true
  own-kept = kept-at (length log) cursors place settled

-- an entry behind the others is for the members
row-told : (log : List LogEntry) (e : LogEntry) (own : OwnQueue) (tail : Option ℕ) → IsInLog (length log) (record { own = own; tail = tail })
    → row_of (log ++ e ∷ []) (record { own = own; tail = tail }) ≡ told (entry_lines e) (row_of log (record { own = own; tail = tail }))
row-told log e own None within = refl
row-told log e own (Some tail) within =
    ap (λ b. record { backlog = b; is_member = true }) (ap (after_all own.backlog) (drop-append-le tail log (e ∷ []) within) ∙ after-push own.backlog (drop tail log) e)

pub rows-told : (log : List LogEntry) (e : LogEntry) (cursors : List Cursor) → All (IsInLog (length log)) cursors → map (row_of (log ++ e ∷ [])) cursors ≡ map (told (entry_lines e)) (map (row_of log) cursors)
rows-told log e [] all = refl
rows-told log e (c ∷ cursors) all =
    ap (λ row. row ∷ map (row_of (log ++ e ∷ [])) cursors) (row-told log e c.own c.tail (All-head (IsInLog (length log)) c cursors all))
    ∙ ap (λ rows. told (entry_lines e) (row_of log c) ∷ rows) (rows-told log e cursors (All-tail (IsInLog (length log)) c cursors all))

-- then only those are settled that are no members
unsettled : (log : List LogEntry) (e : LogEntry) (own : OwnQueue) (tail : Option ℕ) → IsInLog (length log) (record { own = own; tail = tail })
    → is_settled (length (log ++ e ∷ [])) (record { own = own; tail = tail })
    ≡ (not (row_of log (record { own = own; tail = tail })).is_member && is_settled (length log) (record { own = own; tail = tail }))
unsettled log e own None within = refl
unsettled log e own (Some tail) within =
    let other : (tail == length (log ++ e ∷ [])) ≡ false = grind (arith, length-append log (e ∷ []), eqb_tells tail (length (log ++ e ∷ []))) in
    ap (λ b. b && own.is_kept) other

pub settled-told : (log : List LogEntry) (e : LogEntry) (cursors : List Cursor) → All (IsInLog (length log)) cursors
    → map (is_settled (length (log ++ e ∷ []))) cursors ≡ settled_but (map (row_of log) cursors) (map (is_settled (length log)) cursors)
settled-told log e [] all = refl
settled-told log e (c ∷ cursors) all =
    ap (λ b. b ∷ map (is_settled (length (log ++ e ∷ []))) cursors) (unsettled log e c.own c.tail (All-head (IsInLog (length log)) c cursors all))
    ∙ ap (λ bs. (not (row_of log c).is_member && is_settled (length log) c) ∷ bs) (settled-told log e cursors (All-tail (IsInLog (length log)) c cursors all))

-- the first entries have left the log, and none of them waited
row-shifted : (log : List LogEntry) (count : ℕ) (own : OwnQueue) (tail : Option ℕ) → IsPast count (record { own = own; tail = tail })
    → row_of (drop count log) (shifted count (record { own = own; tail = tail })) ≡ row_of log (record { own = own; tail = tail })
row-shifted log count own None past = refl
row-shifted log count own (Some tail) past =
    let places : count + (tail - count) ≡ tail = omega (arith, past) in
    ap (λ b. record { backlog = b; is_member = true }) (ap (after_all own.backlog) (drop-drop (tail - count) count log ∙ ap (λ n. drop n log) places))

pub rows-shifted : (log : List LogEntry) (count : ℕ) (cursors : List Cursor) → All (IsPast count) cursors → map (row_of (drop count log)) (map (shifted count) cursors) ≡ map (row_of log) cursors
rows-shifted log count [] all = refl
rows-shifted log count (c ∷ cursors) all =
    ap (λ row. row ∷ map (row_of (drop count log)) (map (shifted count) cursors)) (row-shifted log count c.own c.tail (All-head (IsPast count) c cursors all))
    ∙ ap (λ rows. row_of log c ∷ rows) (rows-shifted log count cursors (All-tail (IsPast count) c cursors all))

tail-shifted : (n count : ℕ) (tail : Option ℕ) → IsTailWithin n tail → IsTailWithin (n - count) (tail_after count tail)
tail-shifted n count None within = tt
tail-shifted n count (Some tail) within = omega (arith, within)

pub within-shifted : (log : List LogEntry) (count : ℕ) (cursors : List Cursor) → All (IsInLog (length log)) cursors → All (IsInLog (length (drop count log))) (map (shifted count) cursors)
within-shifted log count [] all = All-nil (IsInLog (length (drop count log)))
within-shifted log count (c ∷ cursors) all =
    let first : IsTailWithin (length (drop count log)) (tail_after count c.tail) =
    rw length-drop (tail-shifted (length log) count c.tail (All-head (IsInLog (length log)) c cursors all)) in
    All-cons (IsInLog (length (drop count log))) (shifted count c) (map (shifted count) cursors) first (within-shifted log count cursors (All-tail (IsInLog (length log)) c cursors all))
