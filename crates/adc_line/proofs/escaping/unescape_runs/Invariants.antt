use Rattle.std.proofs.Common.{◌≡◌, ℕ, List, ◌++◌, length}
use Rattle.std.specs.Option.{option_map}
use Rattle.std.specs.String.{string_bytes}
use denote.Shadow.{shadow}
use denote.Text.{Utf8}
use Rattle.adc_line.specs.Escapes.{unescaped_text}
use Rattle.adc_line.proofs.escaping.unescape_runs.Given as goal

abbrev pub invariant-runs : goal.invariant-runs
invariant-runs l = (option_map (λ (more : List ℕ). string_bytes l.text ++ more) (unescaped_text l.rest) ≡ unescaped_text l.fn.word) × shadow (Utf8 l.rest)

abbrev pub decreases-runs : goal.decreases-runs
decreases-runs l = length l.rest
