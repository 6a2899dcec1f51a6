-- A special byte is ASCII, and behind an ASCII byte a text may be cut.
use Rattle.std.proofs.Common.{◌<◌, get_or, arith}
use Rattle.std.proofs.lemmas.Str.{IsCharBoundary-after_ascii}
use Rattle.adc_line.proofs.EscapeLemmas.{special_is_ascii}
use Rattle.adc_line.proofs.escaping.first_run.Goals as goal

pub range_from-requires : goal.range_from-requires
range_from-requires c =
    let text = c.args.text.now in
    let at = c.in-Some.at in
    let ascii : get_or text at 0 < 128 = special_is_ascii _ (rw c.as_bytes-bytes.ensures.value at c.in-Some.ensures.special) in
    λ _. IsCharBoundary-after_ascii text at c.utf8.text (omega (arith, c.in-Some.ensures.within)) ascii
