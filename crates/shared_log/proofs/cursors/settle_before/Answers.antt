use Rattle.std.proofs.Common.{◌≡◌, ◌+◌, ◌∙◌, ◌++◌, ◌∷◌, [], arith, length, set, take}
use Rattle.std.proofs.lemmas.List.{take_more_set, take_all}
use Rattle.std.proofs.lemmas.List.Elements.{All-push, All-same, All-set}
use Rattle.shared_log.specs.Cursors.{IsPast, IsInLog, row_of}
use Rattle.shared_log.proofs.Places.{map-set-same}
use Rattle.shared_log.proofs.cursors.settle_before.Goals as goal

pub returns-in_err-settle_before-clause-kept : goal.returns-in_err-settle_before-clause-kept
returns-in_err-settle_before-clause-kept c =
    map-set-same (row_of c.args.log.now.items) c.loop-cursor.cursor-index c.loop-cursor.cursors c.cursor-item.result c.settle_before.new.self c.settle_before.ensures.kept
    ∙ c.loop-cursor.invariant.kept

pub loop-cursor-preserved : goal.loop-cursor-preserved
loop-cursor-preserved c =
    let i = c.loop-cursor.cursor-index in
    let cursors = c.loop-cursor.cursors in
    let y = c.settle_before.new.self in
    record {
      kept = map-set-same (row_of c.args.log.now.items) i cursors c.cursor-item.result y c.settle_before.ensures.kept ∙ c.loop-cursor.invariant.kept;
      within = All-set (IsInLog (length c.args.log.now.items)) cursors i y c.settle_before.ensures.within c.loop-cursor.invariant.within;
      past =
          All-same (IsPast c.args.count) (take (i + 1) (set cursors i y)) (take i cursors ++ y ∷ []) (take_more_set cursors i y (omega arith))
          (All-push (IsPast c.args.count) (take i cursors) y c.loop-cursor.invariant.past c.in_ok-settle_before.ensures.past);
    }

pub returns-clause-past : goal.returns-clause-past
returns-clause-past c =
    All-same (IsPast c.args.count) c.loop-cursor.cursors (take c.loop-cursor.cursor-index c.loop-cursor.cursors)
    (let all : take c.loop-cursor.cursor-index c.loop-cursor.cursors ≡ c.loop-cursor.cursors = take_all c.loop-cursor.cursor-index c.loop-cursor.cursors (omega arith) in cc)
    c.loop-cursor.invariant.past
