use Rattle.std.proofs.Common.{subst, sym}
use Rattle.hub_settings.specs.Lists.{command_keys}
use Rattle.toml.specs.View.{table_view}
use Rattle.settings_report.specs.Findings.{IsFlawIn}
use Rattle.settings_report.specs.declared.entries.Flaw.{Flaw}
use Rattle.settings_report.proofs.Unknown.{unknown_stands}
use Rattle.settings_report.proofs.entries.commands.flaw_in_command.Goals as goal

pub returns-in-Some-clause-stands : goal.returns-in-Some-clause-stands
returns-in-Some-clause-stands c =
    subst (λ (flaw : Flaw). IsFlawIn (table_view c.args.table.now) flaw) (sym c.at.ensures)
    (unknown_stands command_keys (table_view c.args.table.now) c.in-Some.key.now (sym c.in-Some.ensures))
