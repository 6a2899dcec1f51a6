-- A fault as a report tells it.
use Rattle.std.proofs.Common.{◌≡◌, sym, subst, ◌∙◌, ap, ℕ, List, is_some, Option, Some, None, Result, Ok, Err, IfOk}
use Rattle.std.proofs.lemmas.Bool.{false≢true}
use Rattle.toml.specs.Data.{Members}
use Rattle.toml.specs.Parse.{parse_document}
use Rattle.settings_report.specs.Faults.{HidesPasswords, IsAllowedThere, Shows, ShowsAt, TellsFinding}
use Rattle.settings_report.specs.Findings as findings
use Rattle.settings_report.specs.declared.fault.ReportedFault.{ReportedFault}
use Rattle.settings_report.specs.declared.findings.Finding.{Finding}
use Rattle.settings_report.specs.declared.report.SettingsReport.TheVariants.{Faulty}

-- no key is at fault, so none of an account
pub no_key : {E : Type 0} (text : List ℕ) (result : Result ReportedFault E) → IfOk result (λ fault. fault.key ≡ None) → IfOk result (λ fault. Shows text (Faulty fault))
no_key text (Ok fault) none =
    (subst (λ (key : Option (List ℕ)). ShowsAt text key fault) (sym none) tt, λ account. absurd (false≢true (ap is_some (sym none ∙ account))))
no_key text (Err e) none = tt

pub with_key : {E : Type 0} (text : List ℕ) (document : Members) (finding : Finding) (key : List ℕ) (result : Result ReportedFault E)
    → parse_document text ≡ Some document → findings.IsFoundIn document finding → findings.FindingHidesPasswords finding → IsAllowedThere finding → key ≡ finding.key.now
    → IfOk result (λ fault. fault.key ≡ Some key) → IfOk result (λ fault. key ≡ finding.key.now → TellsFinding finding fault)
    → IfOk result (λ fault. key ≡ finding.key.now → findings.FindingHidesPasswords finding → HidesPasswords fault)
    → IfOk result (λ fault. Shows text (Faulty fault))
with_key text document finding key (Ok fault) parsed stands hides allowed same at tells conceals =
    (subst (λ (k : Option (List ℕ)). ShowsAt text k fault) (sym at) (document, parsed, (finding, stands, hides, allowed, tells same)), conceals same hides)
with_key text document finding key (Err e) parsed stands hides allowed same at tells conceals = tt
