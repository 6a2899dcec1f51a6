use Rattle.std.proofs.Common.{◌∙◌, ap, sym, subst, List, ℕ, inl, inr}
use Rattle.std.proofs.lemmas.Result.{IfOk-weaker}
use Rattle.std.specs.Arc.{arc_value}
use Rattle.history_check.proofs.Reported.{judged-reports, reports-legal}
use Rattle.history_check.specs.declared.written.WrittenEntry.{WrittenEntry}
use Rattle.history_check.specs.Judged.{IsJudged}
use Rattle.history_check.specs.Reported.{ReportsHistory, judgement_text}
use Rattle.history_check.specs.Text.{IsFirstFault}
use Rattle.history_check.proofs.report.report_history.Goals as goal

pub returns-in-Err-Line-clause-reports : goal.returns-in-Err-Line-clause-reports
returns-in-Err-Line-clause-reports g c =
    let fault : IsFirstFault c.args.text.now c.in-Err-Line.number = rw c.in-Err-Line.field-0-is at c.in-Err-Line.ensures.fault in
    IfOk-weaker c.tell_line.result _ _ (λ report is. inr (inl (c.in-Err-Line.number, is, fault))) c.tell_line.ensures

pub returns-in-Err-Line-clause-legal : goal.returns-in-Err-Line-clause-legal
returns-in-Err-Line-clause-legal g c =
    let fault : IsFirstFault c.args.text.now c.in-Err-Line.number = rw c.in-Err-Line.field-0-is at c.in-Err-Line.ensures.fault in
    IfOk-weaker c.tell_line.result _ _
    (λ report is. reports-legal (arc_value c.args.setup) (g.H.SessionHash.digest_of c.args.hash.now) c.args.text.now report.items (inr (inl (c.in-Err-Line.number, is, fault))))
    c.tell_line.ensures

pub returns-clause-reports : goal.returns-clause-reports
returns-clause-reports g c =
    let setup = arc_value c.args.setup in
    let hash = g.H.SessionHash.digest_of c.args.hash.now in
    let judgement = c.in_ok-judgement.judgement in
    let judged = subst (λ (es : List WrittenEntry). IsJudged setup hash es judgement) c.deref.ensures.value c.in_ok-judgement.ensures in
    let reports = judged-reports setup hash c.args.text.now c.in-Ok.written judgement c.in-Ok.ensures.written judged in
    IfOk-weaker c.tell_judgement.result _ _
    (λ report is. subst (λ (text : List ℕ). ReportsHistory setup hash c.args.text.now text) (sym (is ∙ ap (λ (lines : List ℕ). judgement_text lines judgement) c.deref-2.ensures.value)) reports)
    c.tell_judgement.ensures

pub returns-clause-legal : goal.returns-clause-legal
returns-clause-legal g c =
    let setup = arc_value c.args.setup in
    let hash = g.H.SessionHash.digest_of c.args.hash.now in
    let judgement = c.in_ok-judgement.judgement in
    let judged = subst (λ (es : List WrittenEntry). IsJudged setup hash es judgement) c.deref.ensures.value c.in_ok-judgement.ensures in
    let reports = judged-reports setup hash c.args.text.now c.in-Ok.written judgement c.in-Ok.ensures.written judged in
    IfOk-weaker c.tell_judgement.result _ _
    (λ report is. reports-legal setup hash c.args.text.now report.items
    (subst (λ (text : List ℕ). ReportsHistory setup hash c.args.text.now text) (sym (is ∙ ap (λ (lines : List ℕ). judgement_text lines judgement) c.deref-2.ensures.value)) reports))
    c.tell_judgement.ensures
