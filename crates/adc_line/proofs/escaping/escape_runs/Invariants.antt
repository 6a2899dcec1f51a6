use Rattle.std.proofs.Common.{◌≡◌, ◌++◌, length}
use Rattle.std.specs.String.{string_bytes}
use denote.Shadow.{shadow}
use denote.Text.{Utf8}
use Rattle.adc_line.specs.Escapes.{escaped_text}
use Rattle.adc_line.proofs.escaping.escape_runs.Given as goal

abbrev pub invariant-runs : goal.invariant-runs
invariant-runs l = (string_bytes l.word ++ escaped_text l.rest ≡ escaped_text l.fn.text) × shadow (Utf8 l.rest)

abbrev pub decreases-runs : goal.decreases-runs
decreases-runs l = length l.rest
