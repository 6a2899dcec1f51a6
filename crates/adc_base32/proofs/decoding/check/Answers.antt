use Rattle.std.proofs.Common.{arith, refl, rules, sym, ◌∙◌}
use Rattle.std.proofs.lemmas.Bool.{false≢true}
use Rattle.adc_base32.proofs.Codes.{no-bytes}
use Rattle.adc_base32.proofs.Spelled.{spelled-length, spelled-digits, spelled-zeros}
use Rattle.adc_base32.proofs.decoding.check.Goals as goal

pub returns-then-not-are_low_bits_zero-clause-fault : goal.returns-then-not-are_low_bits_zero-clause-fault
returns-then-not-are_low_bits_zero-clause-fault c = (
  omega (arith, c.if-n-text-2.false),
  c.if-not-are_digits.ensures.0 refl,
  no-bytes c.args.text.now c.args.n (λ zeros. false≢true (sym c.if-not-are_low_bits_zero.true ∙ c.are_low_bits_zero.ensures.1 zeros)),
)

pub returns-then-n-text-clause-unread : goal.returns-then-n-text-clause-unread
returns-then-n-text-clause-unread c = spelled-length c.args.n c.args.text.now (search rules)

pub returns-then-not-are_digits-clause-unread : goal.returns-then-not-are_digits-clause-unread
returns-then-not-are_digits-clause-unread c = spelled-digits c.args.n c.args.text.now (λ all. false≢true (sym c.if-not-are_digits.true ∙ c.are_digits.ensures.1 all))

pub returns-then-not-are_low_bits_zero-clause-unread : goal.returns-then-not-are_low_bits_zero-clause-unread
returns-then-not-are_low_bits_zero-clause-unread c =
    spelled-zeros c.args.n c.args.text.now (λ zeros. false≢true (sym c.if-not-are_low_bits_zero.true ∙ c.are_low_bits_zero.ensures.1 zeros))
