use Rattle.std.proofs.Common.{◌≡◌, ◌∙◌, ◌++◌, ap, arith}
use Rattle.std.specs.List.{concat}
use Rattle.std.proofs.lemmas.Grind.{common_steps}
use Rattle.shared_log.specs.Entries.{all_lines}
use Rattle.shared_log.specs.Parts.{between}
use Rattle.shared_log.proofs.Parts.{bytes-more}
use Rattle.shared_log.proofs.part.write_run.Goals as goal

pub loop-place-preserved : goal.loop-place-preserved
loop-place-preserved c =
    let more = bytes-more c.args.log.now.items c.args.tail c.loop-place.place c.in-Some.entry.now c.loop-place.invariant.from
    (omega (arith, c.loop-place-test.true, c.requires.within)) c.in-Some.ensures in
    grind (arith, common_steps, more)

pub returns-clause-ok : goal.returns-clause-ok
returns-clause-ok c =
    let same : c.loop-place.place ≡ c.args.end = omega (arith, c.loop-place-test.false, c.loop-place.auto.place-end c.requires.from) in
    c.loop-place.invariant.written ∙ ap (λ n. c.args.out.now.items ++ concat (all_lines (between c.args.log.now.items c.args.tail n))) same
