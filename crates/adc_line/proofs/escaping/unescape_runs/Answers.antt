use Rattle.std.proofs.Common.{◌≡◌, ℕ, List, ◌++◌, ◌∷◌, [], ◌∙◌, sym, ap, ap₂, Some}
use Rattle.std.specs.Option.{option_map}
use Rattle.std.specs.String.{string_bytes}
use Rattle.adc_line.specs.Escapes.{backslash, unescaped_text}
use Rattle.adc_line.proofs.EscapeLemmas.{unescaped-end, unescaped-bad, unescaped-bare, unescaped-step}
use Rattle.adc_line.proofs.escaping.unescape_runs.Goals as goal

pub returns-in_default-clause-exact : goal.returns-in_default-clause-exact
returns-in_default-clause-exact c =
    unescaped-end (string_bytes c.runs.text) c.args.word.now c.runs.rest.now c.first_run.result.0.now c.runs.invariant.0 c.first_run.ensures.plain (rw c.in_default.is at c.first_run.ensures.cut)
    ∙ ap Some (sym c.in_ok-push_str.ensures.bytes)

pub returns-then-byte-ne92-clause-fault : goal.returns-then-byte-ne92-clause-fault
returns-then-byte-ne92-clause-fault c = λ _.
    unescaped-bad (string_bytes c.runs.text) c.args.word.now c.runs.rest.now c.first_run.result.0.now c.runs.invariant.0 c.first_run.ensures.plain
    (c.in-Some.byte ∷ c.in-Some.after.now) (rw c.in-Some.is at c.first_run.ensures.cut)
    (unescaped-bare c.in-Some.byte c.in-Some.after.now (rw c.in-Some.is at c.first_run.ensures.special) c.if-byte-ne92.true)

pub returns-in_default-first_meant-clause-fault : goal.returns-in_default-first_meant-clause-fault
returns-in_default-first_meant-clause-fault c = λ _.
    let cut = rw (c.in-Some.is, c.if-byte-ne92.false) at c.first_run.ensures.cut in
    unescaped-bad (string_bytes c.runs.text) c.args.word.now c.runs.rest.now c.first_run.result.0.now c.runs.invariant.0 c.first_run.ensures.plain
    (backslash ∷ c.in-Some.after.now) cut c.in_default-first_meant.ensures.none

pub runs-preserved : goal.runs-preserved
runs-preserved c =
    let run = c.first_run.result.0.now in
    let meant = c.in-Some-first_meant.meant in
    let left = c.in-Some-first_meant.left.now in
    let cut = rw (c.in-Some.is, c.if-byte-ne92.false) at c.first_run.ensures.cut in
    let written : string_bytes c.push.new.self ≡ (string_bytes c.runs.text ++ run) ++ meant ∷ [] =
    c.in_ok-push.ensures.bytes ∙ ap₂ ◌++◌ c.in_ok-push_str.ensures.bytes (c.in_ok-push.ensures.ascii c.in-Some-first_meant.ensures.ascii) in (
      ap (λ (xs : List ℕ). option_map (λ (more : List ℕ). xs ++ more) (unescaped_text left)) written
          ∙ unescaped-step (string_bytes c.runs.text) c.args.word.now c.runs.rest.now run c.runs.invariant.0 c.first_run.ensures.plain
          (backslash ∷ c.in-Some.after.now) left meant cut c.in-Some-first_meant.ensures.some,
      c.in-Some-first_meant.ensures.utf8,
    )
