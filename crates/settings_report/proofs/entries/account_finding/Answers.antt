use Rattle.std.proofs.Common.{subst, Option, IfSome, arith}
use Rattle.toml.specs.View.{view}
use Rattle.settings_report.specs.Findings.{IsFlawOf}
use Rattle.settings_report.specs.declared.entries.Flaw.{Flaw}
use Rattle.settings_report.proofs.Among.{found_among}
use Rattle.settings_report.proofs.entries.account_finding.Goals as goal

pub returns-in-Some-clause-stands : goal.returns-in-Some-clause-stands
returns-in-Some-clause-stands c =
    found_among _ _ c.deref-item-items.ensures.value c.item-item.result c.loop-entry.entry c.in-Some.flaw c.in_entry.result (omega arith) c.item-item.is
    c.in_entry.ensures.entry c.in_entry.ensures.inner c.in_entry.ensures.found
    (subst (λ (found : Option Flaw). IfSome found (IsFlawOf (view c.item-item.result))) c.in-Some.is c.in_ok-flaw.ensures.stands)
