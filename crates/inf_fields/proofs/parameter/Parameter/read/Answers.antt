use Rattle.std.proofs.Common.{◌<◌, ◌∙◌, sym, get_or, arith}
use Rattle.std.proofs.lemmas.Str.{IsCharBoundary-after_ascii}
use Rattle.inf_fields.proofs.NameLemmas.{second_ascii}
use Rattle.inf_fields.proofs.parameter.Parameter.read.Goals as goal

pub range_from-requires : goal.range_from-requires
range_from-requires c =
    let bytes = c.as_bytes.result.now in
    let ascii : get_or bytes 1 0 < 128 = second_ascii (get_or bytes 0 0) (get_or bytes 1 0) c.in_ok-name.name (sym c.new.ensures ∙ c.in_ok-name.was) in
    λ _. IsCharBoundary-after_ascii c.args.word.now 1 c.utf8.word (omega (arith, rw c.as_bytes.ensures.value at c.in-len2-up.len_at_least)) (rw c.as_bytes.ensures.value at ascii)
