-- What a backlog becomes by the entries of a log from a place on.
use Rattle.std.proofs.Common.{◌≡◌, ℕ, zero, suc, ◌+◌, ◌<◌, ◌≤◌, List, [], ◌∷◌, ◌++◌, length, get_or, take, drop, refl, ap, sym, ◌∙◌, ◌-◌, length-drop, arith}
use Rattle.std.specs.Prelude.{None, Some, slice_get}
use Rattle.std.proofs.lemmas.List.{get_or-drop, take_more, drop_more, drop_all}
use Rattle.std.proofs.lemmas.Option.{get_or_from_slice_get}
use Rattle.outboxes.specs.Backlogs.{Backlog, backlog_after}
use Rattle.shared_log.specs.declared.entry.LogEntry.{LogEntry}
use Rattle.shared_log.specs.Entries.{after_all, entry_lines}

-- one entry more
pub after-more : (b : Backlog) (log : List LogEntry) (i : ℕ) (e : LogEntry) → i < length log → Some e ≡ slice_get log i
    → after_all b (drop i log) ≡ after_all (backlog_after b (entry_lines e)) (drop (i + 1) log)
unfolding after_all
after-more b log i e h is =
    ap (after_all b) (drop_more log i e h ∙ ap (λ f. f ∷ drop (i + 1) log) (get_or_from_slice_get log i e e (sym is)))

-- none is left
pub after-none : (b : Backlog) (log : List LogEntry) (n : ℕ) → length log ≤ n → after_all b (drop n log) ≡ b
unfolding after_all
after-none b log n h = ap (after_all b) (drop_all n log h)

-- an entry behind the others
pub after-push : (b : Backlog) (log : List LogEntry) (e : LogEntry) → after_all b (log ++ e ∷ []) ≡ backlog_after (after_all b log) (entry_lines e)
unfolding after_all
after-push b [] e = refl
after-push b (f ∷ log) e = after-push (backlog_after b (entry_lines f)) log e

-- one entry more of those from a place on
pub after-heard : (b : Backlog) (log : List LogEntry) (tail place : ℕ) (e : LogEntry) → tail ≤ place → place < length log → Some e ≡ slice_get log place
    → after_all b (take (place + 1 - tail) (drop tail log)) ≡ backlog_after (after_all b (take (place - tail) (drop tail log))) (entry_lines e)
after-heard b log tail place e from h is =
    let count : place + 1 - tail ≡ (place - tail) + 1 = omega arith in
    let here : tail + (place - tail) ≡ place = omega arith in
    let read : get_or (drop tail log) (place - tail) e ≡ e = get_or-drop tail log (place - tail) e ∙ ap (λ n. get_or log n e) here ∙ get_or_from_slice_get log place e e (sym is) in
    let more = take_more (drop tail log) (place - tail) e (omega (arith, length-drop tail log)) in
    ap (λ n. after_all b (take n (drop tail log))) count ∙ ap (after_all b) (more ∙ ap (λ f. take (place - tail) (drop tail log) ++ f ∷ []) read)
    ∙ after-push b (take (place - tail) (drop tail log)) e

-- none yet
pub after-heard-none : (b : Backlog) (log : List LogEntry) (tail : ℕ) → after_all b (take (tail - tail) (drop tail log)) ≡ b
unfolding after_all
after-heard-none b log tail =
    let none : tail - tail ≡ 0 = omega arith in
    ap (λ n. after_all b (take n (drop tail log))) none

pub never-none : (log : List LogEntry) (i : ℕ) → i < length log → None ≡ slice_get log i → ⊥
never-none [] i h is = omega arith
never-none (e ∷ log) zero h is = cc
never-none (e ∷ log) (suc i) h is = never-none log i (omega arith) is
