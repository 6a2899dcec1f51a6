use Rattle.std.proofs.Common.{◌≡◌, ◌∙◌, arith, drop, length, ap, subst, sym, map, List}
use Rattle.std.specs.List.{All}
use Rattle.std.proofs.lemmas.List.Elements.{All-same}
use Rattle.circular_buffer.specs.Buffer.{Buffer}
use Rattle.shared_log.specs.declared.entry.LogEntry.{LogEntry}
use Rattle.shared_log.specs.Cursors.{IsInLog, row_of, shifted}
use Rattle.shared_log.proofs.Tables.{rows-shifted, within-shifted}
use Rattle.shared_log.proofs.evict.evict.Goals as goal

pub returns-clause-kept : goal.returns-clause-kept
returns-clause-kept c =
    let log = c.args.log.now.items in
    let cursors = c.settle_before.new.cursors in
    let left : c.truncate_front.new.self.items ≡ drop c.args.count log =
    ap (λ (b : Buffer LogEntry). b.items) c.truncate_front.ensures ∙ ap (λ n. drop n log) (omega arith) in
    ap (λ (entries : List LogEntry). map (row_of entries) c.shift.new.cursors) left
    ∙ ap (map (row_of (drop c.args.count log))) c.shift.ensures
    ∙ rows-shifted log c.args.count cursors c.in_ok-settle_before.ensures.past
    ∙ c.settle_before.ensures.kept

pub returns-clause-within : goal.returns-clause-within
returns-clause-within c =
    let log = c.args.log.now.items in
    let cursors = c.settle_before.new.cursors in
    let left : c.truncate_front.new.self.items ≡ drop c.args.count log =
    ap (λ (b : Buffer LogEntry). b.items) c.truncate_front.ensures ∙ ap (λ n. drop n log) (omega arith) in
    let within = within-shifted log c.args.count cursors c.settle_before.ensures.within in
    let moved = All-same (IsInLog (length (drop c.args.count log))) c.shift.new.cursors (map (shifted c.args.count) cursors) c.shift.ensures within in
    subst (λ (entries : List LogEntry). All (IsInLog (length entries)) c.shift.new.cursors) (sym left) moved
