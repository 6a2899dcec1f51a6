use Rattle.adc_line.proofs.LineLemmas.{text_read, not_utf8}
use Rattle.adc_line.proofs.line.text_of.Goals as goal

pub returns-in-Ok-clause-checked : goal.returns-in-Ok-clause-checked
returns-in-Ok-clause-checked c = text_read _ _ c.if-bytes-gt-MAX_LINE.false c.in-Ok.ensures.cases.0 c.in-Ok.ensures.cases.1

pub returns-in-Err-clause-checked : goal.returns-in-Err-clause-checked
returns-in-Err-clause-checked c = not_utf8 _ c.if-bytes-gt-MAX_LINE.false c.in-Err.ensures.cases.0
