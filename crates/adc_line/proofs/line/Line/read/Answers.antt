use Rattle.std.proofs.Common.{◌≡◌, Some, None, rules}
use Rattle.adc_line.specs.Header.{header_at}
use Rattle.adc_line.specs.Lines.{params_of}
use Rattle.adc_line.specs.Parameters.{params_fault}
use Rattle.adc_line.specs.Words.{words}
use Rattle.adc_line.proofs.LineLemmas.{parameters-faulty, passed-on, reading-passes}
use Rattle.adc_line.proofs.line.Line.read.Goals as goal

pub invariant_of-result : goal.invariant_of-result
invariant_of-result c =
    let text = c.in_ok-text.text.now in
    let head : header_at (words text) ≡ Some c.in_ok-header.header = search rules in
    let params : params_fault (params_of c.in_ok-header.header.head.kind (words text)) ≡ None = search rules in
    reading-passes c.args.bytes.now text _ c.in_ok-header.header c.in_ok-text.ensures.same c.in_ok-text.ensures.checked head params c.in_ok-from_str.ensures.ok

pub returns-in_err-text : goal.returns-in_err-text
returns-in_err-text c =
    passed-on _ _ c.in_err-text.field-0.0 _ c.from_residual.ensures.1 c.in_err-text.ensures.no_memory c.in_err-text.ensures.checked

pub returns-in_err-check_params : goal.returns-in_err-check_params
returns-in_err-check_params c =
    let text = c.in_ok-text.text.now in
    let head : header_at (words text) ≡ Some c.in_ok-header.header = search rules in
    let fault = c.in_err-check_params.field-0.0 in
    let params : params_fault (params_of c.in_ok-header.header.head.kind (words text)) ≡ Some fault = search rules in
    passed-on _ _ fault _ c.from_residual-in_err-check_params.ensures.1 c.in_err-check_params.ensures.no_memory
    (parameters-faulty c.args.bytes.now text c.in_ok-header.header fault c.in_ok-text.ensures.checked head params)
