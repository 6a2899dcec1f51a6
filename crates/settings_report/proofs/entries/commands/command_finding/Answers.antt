use Rattle.std.proofs.Common.{arith}
use Rattle.settings_report.proofs.Among.{found_among}
use Rattle.settings_report.proofs.entries.commands.command_finding.Goals as goal

pub returns-in-Some-clause-stands : goal.returns-in-Some-clause-stands
returns-in-Some-clause-stands c =
    found_among _ _ c.deref-item-items.ensures.value c.item-item.result c.loop-entry.entry c.in-Some.flaw c.in_entry.result (omega arith) c.item-item.is
    c.in_entry.ensures.entry c.in_entry.ensures.inner c.in_entry.ensures.found c.in-Some.ensures
