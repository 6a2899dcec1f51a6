use Rattle.std.proofs.Common.{take}
use Rattle.settings_report.specs.Places.{IsBehind}
use Rattle.settings_report.proofs.places.TextPlace.behind.Given as goal

abbrev pub invariant-loop-byte : goal.invariant-loop-byte
invariant-loop-byte l = IsBehind (take l.byte-index l.bytes) l.place
