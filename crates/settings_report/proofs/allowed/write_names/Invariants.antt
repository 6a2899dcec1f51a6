use Rattle.std.proofs.Common.{◌≡◌, take}
use denote.Text.{Utf8}
use denote.Shadow.{shadow}
use Rattle.std.specs.Fmt.{HasWritten, IsPlainFormatter}
use Rattle.settings_report.specs.Printed.{with_commas}
use Rattle.settings_report.proofs.Commas.{comma_behind, names_of}
use Rattle.settings_report.proofs.allowed.write_names.Given as goal

-- the names so far are written, and a comma is due behind the first
abbrev pub invariant-loop-key : goal.invariant-loop-key
invariant-loop-key g l =
    shadow (Utf8 l.comma) × (l.comma ≡ comma_behind (names_of (take l.key-index l.keys)))
    × (IsPlainFormatter l.initial.f → HasWritten g.W.Write.write_str_gives l.initial.f (with_commas (names_of (take l.key-index l.keys))) l.f)
