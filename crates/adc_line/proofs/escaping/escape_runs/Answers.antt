use Rattle.std.proofs.Common.{◌≡◌, ◌++◌, ◌∙◌, ap, rules}
use Rattle.std.specs.String.{string_bytes}
use Rattle.adc_line.specs.Escapes.{escaped_text, escaped_byte}
use Rattle.adc_line.proofs.EscapeLemmas.{special_is_ascii, utf8_behind, escaped-step, escaped-end}
use Rattle.adc_line.proofs.escaping.escape_runs.Goals as goal

pub returns-in_default : goal.returns-in_default
returns-in_default c =
    c.in_ok-push_str.ensures.bytes
    ∙ escaped-end (string_bytes c.runs.word) c.runs.rest.now c.first_run.result.0.now c.args.text.now c.runs.invariant.0 (rw c.in_default.is at c.first_run.ensures.cut) c.first_run.ensures.plain

pub runs-preserved : goal.runs-preserved
runs-preserved c =
    let run = c.first_run.result.0.now in
    let cut = rw c.in-Some.is at c.first_run.ensures.cut in
    let special = rw c.in-Some.is at c.first_run.ensures.special in
    let written : string_bytes c.push_str-in-runs.new.self ≡ (string_bytes c.runs.word ++ run) ++ escaped_byte c.in-Some.byte = search rules in (
      ap (λ xs. xs ++ escaped_text c.in-Some.after.now) written
          ∙ escaped-step (string_bytes c.runs.word) c.runs.rest.now run c.in-Some.after.now c.in-Some.byte c.args.text.now c.runs.invariant.0 cut c.first_run.ensures.plain,
      utf8_behind c.runs.rest.now run c.in-Some.after.now c.in-Some.byte c.runs.invariant.1 cut (special_is_ascii _ special),
    )
