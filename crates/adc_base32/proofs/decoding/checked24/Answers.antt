use Rattle.adc_base32.proofs.Codes.{bits-spell}
use Rattle.adc_base32.proofs.Spelled.{spelled-of}
use Rattle.adc_base32.proofs.decoding.checked24.Goals as goal

pub returns-clause-spelt : goal.returns-clause-spelt
returns-clause-spelt c =
    bits-spell c.args.text.now c.fill.new.bytes 24 c.fill.auto.bytes c.in_ok-check.ensures.length c.in_ok-check.ensures.digits c.fill.ensures.bits c.in_ok-check.ensures.zeros

pub returns-clause-read : goal.returns-clause-read
returns-clause-read c =
    spelled-of 24 c.args.text.now c.fill.new.bytes c.fill.auto.bytes
    (bits-spell c.args.text.now c.fill.new.bytes 24 c.fill.auto.bytes c.in_ok-check.ensures.length c.in_ok-check.ensures.digits c.fill.ensures.bits c.in_ok-check.ensures.zeros)
    c.fill.ensures.small
