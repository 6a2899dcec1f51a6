use Rattle.adc_line.proofs.FrameLemmas.{first_from_next}
use Rattle.adc_line.proofs.framer.Framer.next.Goals as goal

pub returns-clause-first : goal.returns-clause-first
returns-clause-first c =
    first_from_next c.take_line.result c.args.self.now c.args.out.now.items c.take_line.new.self c.take_line.new.out.items c.take_line.ensures.ok
