use Rattle.std.proofs.Common.{◌≡◌, ℕ, List, arith, subst, sym}
use Rattle.std.proofs.lemmas.Grind.{common_steps}
use Rattle.hub_settings.specs.Settings.{kind_of}
use Rattle.settings_report.specs.Allowances.{IsAllowedAt}
use Rattle.settings_report.specs.Faults.{IsAllowedThere}
use Rattle.toml.specs.View.{table_view}
use Rattle.settings_report.proofs.Told.{with_key}
use Rattle.settings_report.proofs.report.key_fault.Goals as goal

pub returns-clause-shows : goal.returns-clause-shows
returns-clause-shows c =
    let same : c.args.key ≡ c.in_ok-finding.finding.key.now = grind (arith, common_steps) in
    let allowed : IsAllowedThere c.in_ok-finding.finding =
    λ none. subst (λ (key : List ℕ). IsAllowedAt (kind_of key) c.in_ok-finding.finding.allowed) (sym c.in_ok-finding.ensures.key) (c.in_ok-finding.ensures.allowed none) in
    with_key c.args.text.now (table_view c.in_ok-table.table) c.in_ok-finding.finding c.args.key c.of.result c.in_ok-table.ensures
    c.in_ok-finding.ensures.stands c.in_ok-finding.ensures.hides allowed same c.of.ensures.key c.of.ensures.tells c.of.ensures.hides
