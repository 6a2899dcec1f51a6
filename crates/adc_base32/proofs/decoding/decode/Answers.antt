use Rattle.std.proofs.Common.{arith, length, ◌≡◌}
use Rattle.adc_base32.proofs.Codes.{bytes-one}
use Rattle.adc_base32.proofs.decoding.decode.Goals as goal

pub returns-clause-only : goal.returns-clause-only
returns-clause-only c = λ other long below spelt.
    let same : length other ≡ length c.in_ok-bytes.bytes.items = omega (arith, spelt.0, c.in_ok-bytes.ensures.spelt.0) in
    bytes-one c.args.text.now c.in_ok-bytes.bytes.items other same c.in_ok-bytes.ensures.small below c.in_ok-bytes.ensures.spelt spelt
