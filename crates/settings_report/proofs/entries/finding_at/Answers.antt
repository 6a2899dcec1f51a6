use Rattle.std.proofs.Common.{◌≡◌, refl, sym, ap, subst, ◌∙◌, codes, inr, Option, Some, IfSome}
use Rattle.std.specs.Option.{option_map}
use Rattle.hub_settings.specs.Kinds.{Accounts, kind_seen}
use Rattle.hub_settings.specs.Settings.{kind_of}
use Rattle.toml.specs.Data.{Data, get_member}
use Rattle.toml.specs.View.{table_view, view}
use Rattle.settings_report.proofs.Among.{in_document}
use Rattle.settings_report.specs.Findings.{ConcealsAccount, IsFoundAtKey, IsFoundInList, text_of}
use Rattle.settings_report.specs.declared.findings.Finding.{Finding}
use Rattle.settings_report.proofs.entries.finding_at.Goals as goal

account_kind : kind_of (codes "account") ≡ Some Accounts
unfolding kind_of
account_kind = refl

pub returns-in-Some-clause-stands : goal.returns-in-Some-clause-stands
returns-in-Some-clause-stands c =
    let key : c.in-Some.finding.key.now ≡ c.args.key.now =
    subst (λ (found : Option Finding). IfSome found (λ finding. finding.key.now ≡ c.args.key.now)) c.in-Some.is c.in_ok-finding.ensures.key in
    let found : IsFoundInList (option_map (λ value. view value.now) c.value_at-value.result) c.in-Some.finding =
    subst (λ (found : Option Finding). IfSome found (IsFoundInList (option_map (λ value. view value.now) c.value_at-value.result))) c.in-Some.is
    c.in_ok-finding.ensures.stands in
    subst (λ (value : Option Data). IsFoundAtKey c.in-Some.finding.entry value c.in-Some.finding)
    (c.value_at-value.ensures ∙ ap (λ k. get_member k (table_view c.args.table.now)) (sym key)) (in_document _ c.in-Some.finding.entry c.in-Some.finding found)

pub returns-in-Some-clause-hides : goal.returns-in-Some-clause-hides
returns-in-Some-clause-hides c account =
    let key : c.in-Some.finding.key.now ≡ c.args.key.now =
    subst (λ (found : Option Finding). IfSome found (λ finding. finding.key.now ≡ c.args.key.now)) c.in-Some.is c.in_ok-finding.ensures.key in
    let kind : option_map kind_seen c.kind_of-kind.result ≡ Some Accounts = c.kind_of-kind.ensures ∙ ap kind_of (sym key ∙ account) ∙ account_kind in
    subst (λ (found : Option Finding). IfSome found (λ finding. ConcealsAccount (text_of finding.inner) finding.found)) c.in-Some.is
    (c.in_ok-finding.ensures.accounts kind)

pub returns-clause-hides : goal.returns-clause-hides
returns-clause-hides c account = inr (c.found_of_kind.ensures.accounts (c.kind_of-kind.ensures ∙ ap kind_of account ∙ account_kind))
