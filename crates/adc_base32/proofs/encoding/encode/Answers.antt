use Rattle.adc_base32.proofs.Codes.{text-one}
use Rattle.adc_base32.proofs.encoding.encode.Goals as goal

pub returns-clause-only : goal.returns-clause-only
returns-clause-only c = λ other spelt. text-one _ other _ c.in_ok-digits.ensures spelt
