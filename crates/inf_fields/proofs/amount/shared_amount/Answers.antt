use Rattle.std.proofs.Common.{ap, ◌∙◌, sym}
use Rattle.inf_fields.specs.Amounts.{is_short_number}
use Rattle.inf_fields.proofs.AmountLemmas.{number_at-parsed}
use Rattle.inf_fields.proofs.amount.shared_amount.Goals as goal

pub returns : goal.returns
returns c =
    let short = ap is_short_number (sym c.as_bytes.ensures.value) ∙ sym c.is_short_number.ensures ∙ c.if-not-is_short_number.false in
    c.ok.ensures.value ∙ number_at-parsed c.args.value.now c.parse.result short c.parse.ensures.value.0
