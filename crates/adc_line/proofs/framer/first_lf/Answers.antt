-- The search goes on behind the bytes that were looked through.
use Rattle.std.proofs.lemmas.List.{take_rest}
use Rattle.adc_line.specs.Frames.{is_lf}
use Rattle.adc_line.proofs.SearchLemmas.{All-behind, All-behind_before}
use Rattle.adc_line.proofs.framer.first_lf.Goals as goal

pub returns-in_err-at-clause-none : goal.returns-in_err-at-clause-none
returns-in_err-at-clause-none c =
    rw c.from_residual.ensures (All-behind is_lf c.args.bytes.now c.args.searched c.requires.none_before (rw take_rest at c.in_err-at.ensures))

pub returns-clause-first : goal.returns-clause-first
returns-clause-first c =
    let found = rw take_rest at c.in_ok-at.ensures in
    All-behind_before is_lf c.args.bytes.now c.args.searched c.in_ok-at.at c.requires.none_before found.0
