use Rattle.adc_line.proofs.ReadsLemmas.{found_from, only_from}
use Rattle.adc_line.proofs.line.Line.parse.Goals as goal

pub returns-clause-found : goal.returns-clause-found
returns-clause-found c = found_from c.args.bytes.now c.read.result c.read.ensures

pub returns-clause-only : goal.returns-clause-only
returns-clause-only c = only_from c.args.bytes.now c.read.result c.read.ensures
