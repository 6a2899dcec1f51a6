-- The request of a line, and the rules that hold for every line (ADC 1.0, "Message types", "States", "Actions").
use Rattle.std.specs.Prelude.{ℕ, ◌==◌, not, Bool, false, List, Option, Some, if◌then◌else◌}
use Rattle.std.specs.Option.{option_map_or}
use Rattle.std.specs.Result.{result_err, result_unwrap_or}
use Rattle.adc_line.specs.declared.header.Kind.{Kind}
use Rattle.adc_line.specs.Lines.{Reading}
use Rattle.login_state.specs.declared.deny.Deny.{Deny}
use Rattle.login_state.specs.declared.deny.Deny.TheVariants as denials
use Rattle.login_state.specs.declared.request.Request.{Request}
use Rattle.login_state.specs.declared.request.Request.TheVariants as requests
use Rattle.login_state.specs.declared.stage.Stage.{Stage}
use Rattle.login_state.specs.Requests.{request_at}

-- what a line asks for, if its connection may
abbrev pub request_of : Stage → Kind → List ℕ → Request
request_of stage kind command = result_unwrap_or (request_at stage kind command) requests.Nothing

-- the line says that another connection sent it
abbrev pub names_another : ℕ → Option ℕ → Bool
names_another sid from = option_map_or (λ (other : ℕ). not (other == sid)) from false

-- the rules that hold for every line: its sender, and that its connection may ask for that
abbrev pub refusal_of : Stage → ℕ → Reading → Option Deny
refusal_of stage sid line = if names_another sid line.from then Some denials.WrongSid else result_err (request_at stage line.kind line.command)
