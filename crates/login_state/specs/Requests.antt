-- The request of a line, by the stage of its connection, its type and its command, or why it is denied (ADC 1.0, "Message types", "States", "Actions").
use Rattle.std.specs.Prelude.{ℕ, ◌||◌, Bool, List, [], ◌∷◌, codes, slice_index, Result, Ok, Err, if◌then◌else◌}
use Rattle.std.specs.Str.{bytes_eq}
use Rattle.adc_line.specs.declared.header.Kind.{Kind}
use Rattle.adc_line.specs.declared.header.Kind.TheVariants as kinds
use Rattle.adc_line.specs.Header.{letter}
use Rattle.login_state.specs.declared.deny.Deny.{Deny}
use Rattle.login_state.specs.declared.deny.Deny.TheVariants as denials
use Rattle.login_state.specs.declared.request.Request.{Request}
use Rattle.login_state.specs.declared.request.Request.TheVariants as requests
use Rattle.login_state.specs.declared.stage.Stage.{Stage}
use Rattle.login_state.specs.declared.stage.Stage.TheVariants as stages

-- what a hub alone says
abbrev pub is_of_the_hub : List ℕ → Bool
is_of_the_hub command = bytes_eq command (codes "SID") || bytes_eq command (codes "QUI") || bytes_eq command (codes "GPA") || bytes_eq command (codes "CMD")

-- what is said to a hub alone
abbrev pub is_to_the_hub : List ℕ → Bool
is_to_the_hub command = bytes_eq command (codes "SUP") || bytes_eq command (codes "PAS")

-- not at this stage: the line's first word is named, its type's letter and its command
abbrev pub bad_stage : Kind → List ℕ → Result Request Deny
bad_stage kind command =
    Err (denials.BadStage (letter kind ∷ slice_index command 0 ∷ slice_index command 1 ∷ slice_index command 2 ∷ []))

-- before a user is present: a status leads to nothing
abbrev pub status : List ℕ → Result Request Deny
status command = if bytes_eq command (codes "STA") then Ok requests.Nothing else bad_stage kinds.Hub command

-- to other users
abbrev pub to_users : List ℕ → Result Request Deny
to_users command =
    if is_of_the_hub command || is_to_the_hub command then Err denials.Protocol
    else if bytes_eq command (codes "SCH") then Ok requests.Search
    else Ok requests.Message

-- to the hub, by a user who is present
abbrev pub to_the_hub : List ℕ → Result Request Deny
to_the_hub command =
    if is_of_the_hub command || bytes_eq command (codes "INF") then Err denials.Protocol
    else if bytes_eq command (codes "PAS") then bad_stage kinds.Hub command
    else if bytes_eq command (codes "SUP") then Ok requests.Support
    else if bytes_eq command (codes "MSG") then Ok requests.Act
    else Ok requests.Nothing

-- Clients send no lines of type C, I or U to a hub.
unfoldable pub request_at : Stage → Kind → List ℕ → Result Request Deny
request_at stage kinds.Client command = Err denials.Protocol
request_at stage kinds.Info command = Err denials.Protocol
request_at stage kinds.Udp command = Err denials.Protocol
request_at stages.Protocol kinds.Hub command = if bytes_eq command (codes "SUP") then Ok requests.Greeting else status command
request_at stages.Identify kinds.Hub command = status command
request_at stages.Identify kinds.Broadcast command = if bytes_eq command (codes "INF") then Ok requests.Login else bad_stage kinds.Broadcast command
request_at stages.Verify kinds.Hub command = if bytes_eq command (codes "PAS") then Ok requests.Password else status command
request_at stages.Normal kinds.Hub command = to_the_hub command
request_at stages.Normal kinds.Broadcast command = if bytes_eq command (codes "INF") then Ok requests.Update else to_users command
request_at stages.Normal kind command = if bytes_eq command (codes "INF") then Err denials.Protocol else to_users command
request_at stage kind command = bad_stage kind command
