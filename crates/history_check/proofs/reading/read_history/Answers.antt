use Rattle.std.proofs.Common.{◌≡◌, ◌∙◌, ap, sym, subst, true, ℕ, ◌+◌, List, [], ◌∷◌, ◌++◌, length, rules, tests}
use Rattle.std.proofs.lemmas.Iterator.Consumers.{YieldsList-at, YieldsList-end, YieldsList-from_enumerate, YieldsList-turn}
use Rattle.std.proofs.lemmas.Iterator.Splits.{YieldsList-from_slice_split}
use Rattle.std.proofs.lemmas.List.{length_push}
use Rattle.std.proofs.lemmas.List.FromFn.{length-enumerate_from}
use Rattle.std.specs.List.{slice_split}
use Rattle.std.specs.Option.{option_map}
use Rattle.history_check.proofs.Grammar.{entry-takes, no-entry}
use Rattle.history_check.proofs.Lines.{ReadSoFar, read-all, read-entry, read-fault, read-silent, silent-empty, silent-hash, spoken, turn-line}
use Rattle.history_check.specs.declared.written.WrittenEntry.{WrittenEntry}
use Rattle.history_check.specs.Text.{is_line_feed, is_silent}
use Rattle.history_check.specs.Written.{entry_of}
use Rattle.history_check.proofs.reading.read_history.Goals as goal
use Rattle.history_check.proofs.reading.read_history.Goals.{then-is_empty-via-then-is_empty, then-is_empty-via-else-is_empty+then-starts_with}

pub loop-place-preserved-then-is_empty : goal.loop-place-preserved-then-is_empty
loop-place-preserved-then-is_empty c =
    let lines = slice_split is_line_feed c.args.text.now in
    let turn = YieldsList-turn (YieldsList-at c.into_iter-place-iterator.ensures.into_iter_gives (YieldsList-from_enumerate (YieldsList-at c.enumerate-place-items.ensures.source (YieldsList-from_slice_split _ is_line_feed c.args.text.now c.split.ensures.rest c.split.ensures.done c.split.ensures.closure (λ x b q k. search (rules, tests)))) c.enumerate-place-items.ensures.count)) c.loop-place.yielded _ c.loop-place.yielded_by _ _ (c.in-Some.place, c.in-Some.line) c.in-Some.is c.next.ensures.steps in
    let (within, at, line) = turn-line lines (length c.loop-place.yielded) c.in-Some.place c.in-Some.line.now turn.0 turn.1 in
    let more : length (c.loop-place.yielded ++ (c.in-Some.place, c.in-Some.line) ∷ []) ≡ length c.loop-place.yielded + 1 = length_push c.loop-place.yielded (c.in-Some.place, c.in-Some.line) in
    let silent : is_silent c.in-Some.line.now ≡ true = elim c.then-is_empty.branch [
      | then-is_empty-via-then-is_empty w ↦ silent-empty c.in-Some.line.now (sym c.is_empty.ensures ∙ w.if-is_empty.true)
      | then-is_empty-via-else-is_empty+then-starts_with w ↦ silent-hash c.in-Some.line.now w.starts_with.result w.starts_with.ensures.value w.if-starts_with.true
    ] in
    subst (λ (k : ℕ). ReadSoFar lines k c.loop-place.written.entries.items c.loop-place.written.lines.items) (sym more)
    (read-silent lines (length c.loop-place.yielded) c.in-Some.line.now c.loop-place.written.entries.items c.loop-place.written.lines.items within line silent c.loop-place.invariant)

pub returns-in_default-clause-fault : goal.returns-in_default-clause-fault
returns-in_default-clause-fault c =
    let lines = slice_split is_line_feed c.args.text.now in
    let turn = YieldsList-turn (YieldsList-at c.into_iter-place-iterator.ensures.into_iter_gives (YieldsList-from_enumerate (YieldsList-at c.enumerate-place-items.ensures.source (YieldsList-from_slice_split _ is_line_feed c.args.text.now c.split.ensures.rest c.split.ensures.done c.split.ensures.closure (λ x b q k. search (rules, tests)))) c.enumerate-place-items.ensures.count)) c.loop-place.yielded _ c.loop-place.yielded_by _ _ (c.in-Some.place, c.in-Some.line) c.in-Some.is c.next.ensures.steps in
    let (within, at, line) = turn-line lines (length c.loop-place.yielded) c.in-Some.place c.in-Some.line.now turn.0 turn.1 in
    let more : length (c.loop-place.yielded ++ (c.in-Some.place, c.in-Some.line) ∷ []) ≡ length c.loop-place.yielded + 1 = length_push c.loop-place.yielded (c.in-Some.place, c.in-Some.line) in
    let heard = spoken c.in-Some.line.now c.starts_with.result (sym c.is_empty.ensures ∙ c.if-is_empty.false) c.starts_with.ensures.value c.if-starts_with.false in
    let none = no-entry c.in-Some.line.now (sym c.in_ok-entry.ensures ∙ ap (option_map entry_of) c.in_default.is) in
    read-fault c.args.text.now (length c.loop-place.yielded) c.in-Some.line.now c.loop-place.written.entries.items c.loop-place.written.lines.items (c.in-Some.place + 1) within line heard
    (ap (λ (n : ℕ). n + 1) at) none c.loop-place.invariant

pub loop-place-preserved : goal.loop-place-preserved
loop-place-preserved c =
    let lines = slice_split is_line_feed c.args.text.now in
    let turn = YieldsList-turn (YieldsList-at c.into_iter-place-iterator.ensures.into_iter_gives (YieldsList-from_enumerate (YieldsList-at c.enumerate-place-items.ensures.source (YieldsList-from_slice_split _ is_line_feed c.args.text.now c.split.ensures.rest c.split.ensures.done c.split.ensures.closure (λ x b q k. search (rules, tests)))) c.enumerate-place-items.ensures.count)) c.loop-place.yielded _ c.loop-place.yielded_by _ _ (c.in-Some.place, c.in-Some.line) c.in-Some.is c.next.ensures.steps in
    let (within, at, line) = turn-line lines (length c.loop-place.yielded) c.in-Some.place c.in-Some.line.now turn.0 turn.1 in
    let more : length (c.loop-place.yielded ++ (c.in-Some.place, c.in-Some.line) ∷ []) ≡ length c.loop-place.yielded + 1 = length_push c.loop-place.yielded (c.in-Some.place, c.in-Some.line) in
    let heard = spoken c.in-Some.line.now c.starts_with.result (sym c.is_empty.ensures ∙ c.if-is_empty.false) c.starts_with.ensures.value c.if-starts_with.false in
    let entry = c.in-Some-2.entry in
    let writes = entry-takes c.in-Some.line.now (entry_of entry) (sym c.in_ok-entry.ensures ∙ ap (option_map entry_of) c.in-Some-2.is) in
    let next = length c.loop-place.yielded + 1 in
    let entries = c.loop-place.written.entries.items in
    subst (λ (k : ℕ). ReadSoFar lines k c.push.new.self.items c.push-in-loop-place.new.self.items) (sym more)
    (subst (λ (es : List WrittenEntry). ReadSoFar lines next es c.push-in-loop-place.new.self.items) (sym c.in_ok-push.ensures.items)
    (subst (λ (ns : List ℕ). ReadSoFar lines next (entries ++ entry ∷ []) ns) (sym c.in_ok-push-2.ensures.items)
    (read-entry lines (length c.loop-place.yielded) c.in-Some.line.now entries c.loop-place.written.lines.items entry (c.in-Some.place + 1) within line heard (ap (λ (n : ℕ). n + 1) at) writes c.loop-place.invariant)))

pub returns-clause-written : goal.returns-clause-written
returns-clause-written c =
    let done = YieldsList-end (YieldsList-at c.into_iter-place-iterator.ensures.into_iter_gives (YieldsList-from_enumerate (YieldsList-at c.enumerate-place-items.ensures.source (YieldsList-from_slice_split _ is_line_feed c.args.text.now c.split.ensures.rest c.split.ensures.done c.split.ensures.closure (λ x b q k. search (rules, tests)))) c.enumerate-place-items.ensures.count)) c.loop-place.yielded _ c.loop-place.yielded_by _ _ c.in-None.is c.next.ensures.steps in
    read-all c.args.text.now (length c.loop-place.yielded) c.loop-place.written.entries.items c.loop-place.written.lines.items (done.1 ∙ length-enumerate_from 0 (slice_split is_line_feed c.args.text.now)) c.loop-place.invariant
