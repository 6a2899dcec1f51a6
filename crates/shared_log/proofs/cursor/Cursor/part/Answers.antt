use Rattle.std.proofs.Common.{◌∙◌, sym, arith}
use Rattle.shared_log.proofs.Parts.{part-is}
use Rattle.shared_log.proofs.cursor.Cursor.part.Goals as goal

pub returns : goal.returns
returns c =
    part-is c.args.log.now.items c.args.self.now c.args.count c.in_ok-tail.tail c.min-own.result c.in_ok-run.run' c.in_ok-tail.was
    (sym c.tally.ensures.lags ∙ c.if-tally.false) (omega (arith, c.min-own.ensures, c.waiting.ensures)) c.in_ok-run.ensures
