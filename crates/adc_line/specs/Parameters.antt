-- The words after a header (ADC 1.0, "Message syntax").
use Rattle.std.specs.Prelude.{ℕ, ◌==◌, ◌&&◌, Bool, not, List, length, Option, Some, None, if◌then◌else◌}
use Rattle.std.specs.List.{list_all}
use Rattle.adc_line.specs.declared.fault.LineFault.{LineFault}
use Rattle.adc_line.specs.declared.fault.LineFault.TheVariants.{Parameter, Escape}
use Rattle.adc_line.specs.Frames.{is_lf}
use Rattle.adc_line.specs.Escapes.{is_escaped}

-- a parameter is not empty and has no line feed
abbrev pub is_parameter : List ℕ → Bool
is_parameter word = not (length word == 0) && list_all (λ b. not (is_lf b)) word

-- the first of the two faults that parameters may have
unfoldable pub params_fault : List (List ℕ) → Option LineFault
params_fault params =
    if not (list_all is_parameter params) then Some Parameter
    else if not (list_all is_escaped params) then Some Escape
    else None
