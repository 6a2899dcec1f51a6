use Rattle.adc_base32.proofs.Codes.{text-one, bytes-one}
use Rattle.adc_base32.proofs.laws.codec_laws.Goals as goal

pub returns : goal.returns
returns c = record {
  one_text = text-one;
  one_reading = bytes-one;
}
