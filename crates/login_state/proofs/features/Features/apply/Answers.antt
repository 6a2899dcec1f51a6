use Rattle.login_state.proofs.LineByLine.{line_by_line}
use Rattle.adc_line.specs.WordsLeft.{words_left}
use Rattle.login_state.proofs.features.Features.apply.Goals as goal

pub returns-clause-line_by_line : goal.returns-clause-line_by_line
returns-clause-line_by_line c = λ lines from.
    line_by_line c.read.result c.args.self.now (words_left c.args.words) lines from c.read.ensures
