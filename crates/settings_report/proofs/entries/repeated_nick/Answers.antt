use Rattle.std.proofs.Common.{subst, sym, arith}
use Rattle.toml.specs.View.{view}
use Rattle.settings_report.specs.Findings.{IsFlawOf}
use Rattle.settings_report.specs.declared.entries.Flaw.{Flaw}
use Rattle.settings_report.proofs.Among.{found_among}
use Rattle.settings_report.proofs.entries.repeated_nick.Goals as goal

pub returns-then-contains-clause-stands : goal.returns-then-contains-clause-stands
returns-then-contains-clause-stands c =
    found_among _ _ c.deref-item-items.ensures.value c.item-item.result c.loop-entry.entry c.at-flaw.result c.in_entry.result (omega arith) c.item-item.is
    c.in_entry.ensures.entry c.in_entry.ensures.inner c.in_entry.ensures.found
    (subst (λ (flaw : Flaw). IsFlawOf (view c.item-item.result) flaw) (sym c.at-flaw.ensures) (sym c.in-Some.ensures))
