use Rattle.std.proofs.Common.{◌∙◌, ap, sym, arith, rules}
use Rattle.std.specs.Str.{all_ascii_digits}
use Rattle.operator_acts.proofs.Digits.{seconds-parsed}
use Rattle.operator_acts.proofs.seconds.seconds_at.Goals as goal

pub returns : goal.returns
returns c =
    c.ok.ensures.value
    ∙ seconds-parsed c.args.word.now c.parse.result (search rules) (omega arith) (ap all_ascii_digits (sym c.as_bytes.ensures.value) ∙ sym c.are_digits.ensures ∙ c.if-not-are_digits.false) c.parse.ensures.value.0
