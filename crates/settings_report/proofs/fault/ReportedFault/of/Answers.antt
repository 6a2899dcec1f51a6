use Rattle.std.proofs.Common.{◌∙◌}
use Rattle.settings_report.proofs.Concealed.{hidden}
use Rattle.settings_report.proofs.fault.ReportedFault.of.Goals as goal

pub returns-clause-hides : goal.returns-clause-hides
returns-clause-hides c same hides account =
    hidden c.args.finding.now c.args.key _ _ same hides (c.in_ok-from_str.ensures.ok ∙ c.inner_key.ensures) c.in_ok-words.ensures account
