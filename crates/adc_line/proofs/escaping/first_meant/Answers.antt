use Rattle.std.proofs.Common.{◌≡◌, ◌<◌, ◌∙◌, ℕ, List, ◌∷◌, sym, ap, length, get_or, Some}
use Rattle.std.proofs.lemmas.Str.{IsCharBoundary-after_ascii}
use Rattle.std.specs.Option.{option_map}
use Rattle.adc_line.specs.Escapes.{escape_means, unescaped_text}
use Rattle.adc_line.proofs.EscapeLemmas.{unescaped-cut, unescaped-stray, unescaped-escape}
use Rattle.adc_line.proofs.escaping.first_meant.Goals as goal

pub returns-in_default-clause-none : goal.returns-in_default-clause-none
returns-in_default-clause-none c = unescaped-cut c.args.text.now (rw c.as_bytes.ensures.value at c.in_default.len_below)

pub returns-in_err-meant-clause-none : goal.returns-in_err-meant-clause-none
returns-in_err-meant-clause-none c =
    let stray = rw c.as_bytes.ensures.value at c.in_err-meant.ensures.exact in
    rw c.from_residual.ensures (unescaped-stray c.args.text.now (rw c.as_bytes.ensures.value at c.in-len1-up.len_at_least) (sym stray))

pub range_from-requires : goal.range_from-requires
range_from-requires c =
    let text = c.args.text.now in
    let some : 0 < length text = rw c.as_bytes.ensures.value at c.in-len1-up.len_at_least in
    let ascii : get_or text 0 0 < 128 = rw c.as_bytes.ensures.value at c.in_ok-meant.ensures.letter in
    λ _. IsCharBoundary-after_ascii text 0 c.utf8.text some ascii

pub returns-clause-some : goal.returns-clause-some
returns-clause-some c =
    let text = c.args.text.now in
    let meant = c.in_ok-meant.meant in
    let some : 0 < length text = rw c.as_bytes.ensures.value at c.in-len1-up.len_at_least in
    let means : Some meant ≡ escape_means (get_or text 0 0) = rw c.as_bytes.ensures.value at c.in_ok-meant.ensures.exact in
    unescaped-escape text meant some (sym means) ∙ ap (λ (xs : List ℕ). option_map (λ (more : List ℕ). meant ∷ more) (unescaped_text xs)) (sym c.range_from.ensures.value)
