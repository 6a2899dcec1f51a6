use Rattle.std.proofs.Common.{◌≡◌, ◌++◌, take}
use Rattle.history_check.specs.Reported.{written_bytes}
use Rattle.history_check.proofs.report.append_bytes.Given as goal

abbrev pub invariant-loop-byte : goal.invariant-loop-byte
invariant-loop-byte l = l.text.items ≡ l.initial.text.items ++ written_bytes (take l.byte-index l.bytes)
