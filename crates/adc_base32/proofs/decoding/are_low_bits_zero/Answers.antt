use Rattle.std.proofs.Common.{arith, ℕ, ◌-◌, length, refl}
use Rattle.adc_base32.proofs.Codes.{low-bits-Decides}
use Rattle.adc_base32.proofs.decoding.are_low_bits_zero.Goals as goal

pub returns : goal.returns
returns c =
    rw c.value_of.ensures.exact
    (low-bits-Decides c.args.text.now c.args.n (length c.args.text.now - 1) c.in-Some.last.now _ 0 (omega (arith, c.in-Some.ensures.item.3.0)) c.in-Some.ensures.item.1 c.requires refl)
