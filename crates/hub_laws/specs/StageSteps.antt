-- The stage of a connection after each call (ADC 1.0, "States").
use Rattle.std.specs.Prelude.{◌≡◌, ℕ, ◌+◌, ◌==◌, ◌&&◌, Bool, true, false, List, [], ◌∷◌, length, Option, Some, None, Result, Ok, Err, if◌then◌else◌}
use Rattle.std.specs.Option.{option_or, unwrap_or}
use Rattle.adc_line.specs.declared.fault.LineFault.{LineFault}
use Rattle.adc_line.specs.Lines as lines
use Rattle.adc_line.specs.Lines.{Reading}
use Rattle.inf_fields.specs.Field.{Field}
use Rattle.inf_fields.specs.Updates as updates
use Rattle.inf_fields.specs.declared.fault.InfFault.{InfFault}
use Rattle.login_state.specs.declared.deny.Deny.{Deny}
use Rattle.login_state.specs.declared.deny.Deny.TheVariants.{Protocol}
use Rattle.login_state.specs.declared.fault.SupFault.{SupFault}
use Rattle.login_state.specs.declared.stage.Stage.{Stage}
use Rattle.login_state.specs.declared.stage.Stage.TheVariants as stages
use Rattle.login_state.specs.Denials.{is_fatal}
use Rattle.login_state.specs.SupportAnswers.{support_after}
use Rattle.hub_rules.specs.declared.history.Call.{Call}
use Rattle.hub_rules.specs.declared.history.Call.TheVariants.{Join, Line, Quit, Take}
use Rattle.hub_rules.specs.declared.history.Entry.{Entry}
use Rattle.login_state.specs.declared.request.Request.{Request}
use Rattle.login_state.specs.declared.request.Request.TheVariants as requests
use Rattle.hub_rules.specs.Configured.{Configured}
use Rattle.hub_rules.specs.Denied.{denial_of}
use Rattle.hub_rules.specs.Effects.{is_over, is_present}
use Rattle.hub_rules.specs.Facts.{Facts, facts, has_joins, has_place, own_of, sight_of}
use Rattle.hub_rules.specs.History.{stage}
use Rattle.hub_rules.specs.Prepared.{prepared_line}
use Rattle.hub_rules.specs.Requests.{request_of}
use Rattle.hub_invariants.specs.Afterwards.{is_removed}
use Rattle.hub_rules.specs.Views.{SenderView, PreparedLine, HubView, is_account, user_after}
use Rattle.hub_invariants.specs.World.{change_of}

abbrev pub gone_if : Bool → Option Stage
gone_if true = Some stages.Gone
gone_if false = None

-- a login waits for a password where the nick is an account's, and else enters
abbrev pub entry_stage : Bool → Stage
entry_stage true = stages.Verify
entry_stage false = stages.Normal

abbrev pub stage_after_sup : Result (List (List ℕ)) SupFault → Option Stage
stage_after_sup (Ok features) = Some stages.Identify
stage_after_sup (Err fault) = None

abbrev pub logged_in : HubView → SenderView → Result (List Field) InfFault → Option Stage
logged_in hub own (Ok u) = Some (entry_stage (is_account hub (user_after own u).key))
logged_in hub own (Err fault) = None

-- what an accepted line makes of the stage of its connection
abbrev pub accepted_stage : HubView → SenderView → Reading → Request → Option Stage
accepted_stage hub own line requests.Greeting = stage_after_sup (support_after own.sender.features line.params)
accepted_stage hub own line requests.Login = logged_in hub own (updates.reading line.params)
accepted_stage hub own line requests.Password = Some stages.Normal
accepted_stage hub own line request = None

-- a fatal denial shuts it out
abbrev pub decided_stage : Option Deny → Option Stage → Option Stage
decided_stage (Some deny) accepted = gone_if (is_fatal deny)
decided_stage None accepted = accepted

abbrev pub heard_stage : HubView → SenderView → PreparedLine → ℕ → Result Reading LineFault → Option Stage
heard_stage hub own line now (Ok reading) =
    decided_stage (denial_of hub own line now reading) (accepted_stage hub own reading (request_of own.stage reading.kind reading.command))
heard_stage hub own line now (Err fault) = gone_if (is_fatal Protocol)

-- what a line makes of the stage of its connection
unfoldable pub line_stage : HubView → SenderView → PreparedLine → ℕ → Option Stage
line_stage hub own line now =
    if is_over own.stage then None
    else if length line.bytes == 0 then None
    else heard_stage hub own line now (lines.reading line.bytes)

abbrev pub only_if : Bool → Option Stage → Option Stage
only_if true made = made
only_if false made = None

-- an operator shuts the user of connection c out
abbrev pub shuts_out : Configured → (List ℕ → List ℕ) → Facts → ℕ → Call → Bool
shuts_out setup hash f c call = is_present (f.about c).stage && is_removed (change_of setup hash f call) (f.about c).sender.sid

-- what a call itself makes of the stage of connection c: an accepted join, a line of its own, its quit
abbrev pub call_stage : Configured → (List ℕ → List ℕ) → Facts → ℕ → Call → Option Stage
call_stage setup hash f c (Join peer challenge now) = only_if (has_place setup f && has_joins f && (c == (f.joins + 1))) (Some stages.Protocol)
call_stage setup hash f c (Line d bytes now) =
    only_if (c == d) (line_stage (sight_of setup f) (own_of (f.about d)) (prepared_line setup hash (f.about d).sender.challenge bytes) now)
call_stage setup hash f c (Quit d) = only_if (c == d) (Some stages.Gone)
call_stage setup hash f c (Take d count) = None

-- what an entry makes of it, if it changes it
abbrev pub stage_made : Configured → (List ℕ → List ℕ) → Facts → ℕ → Call → Option Stage
stage_made setup hash f c call = option_or (gone_if (shuts_out setup hash f c call)) (call_stage setup hash f c call)

-- what the last entry that changes it made it
unfoldable pub last_made : Configured → (List ℕ → List ℕ) → List Entry → ℕ → Option Stage
last_made setup hash [] c = None
last_made setup hash (e ∷ h) c = option_or (stage_made setup hash (facts setup hash h) c e.call) (last_made setup hash h c)

-- the stage is that; a connection of which no entry spoke is shut out
abbrev pub StageIsLastMade : Type 0
StageIsLastMade = (setup : Configured) (hash : List ℕ → List ℕ) (h : List Entry) (c : ℕ) → stage setup hash h c ≡ unwrap_or (last_made setup hash h c) stages.Gone
