-- The phase of a connection: how far it has come, with what is kept of its user.
use Rattle.std.specs.Prelude.{ℕ, Bool, false, not, List, [], ◌∷◌}
use Rattle.feature_route.specs.Audiences.{holds_words}
use Rattle.feature_route.specs.Matching.{feature_set}
use Rattle.login_state.specs.declared.stage.Stage.{Stage}
use Rattle.login_state.specs.declared.stage.Stage.TheVariants as stages
use Rattle.user_table.specs.Listed.{Listed}
use Rattle.hub_core.specs.declared.seat.Phase.{Phase}
use Rattle.hub_core.specs.declared.seat.Phase.TheVariants as phases
use Rattle.hub_rules.specs.declared.effect.Change.{Change}
use Rattle.hub_rules.specs.declared.effect.Change.TheVariants.{Sender}
use Rattle.hub_rules.specs.declared.effect.Hearers.{Hearers}
use Rattle.hub_rules.specs.declared.effect.Hearers.TheVariants.{Others, Those}
use Rattle.hub_rules.specs.declared.effect.SenderChange.TheVariants as senders
use Rattle.hub_rules.specs.Effects.{entrant}
use Rattle.hub_rules.specs.Identities.{listed_user, su_in}
use Rattle.hub_rules.specs.Shares.{ConnState}

abbrev pub stage_in : Phase → Stage
stage_in phases.Protocol = stages.Protocol
stage_in phases.Identify = stages.Identify
stage_in (phases.Verify newcomer expected) = stages.Verify
stage_in (phases.Normal support) = stages.Normal
stage_in phases.Gone = stages.Gone

-- what is kept of a connection at this stage
abbrev pub phase_at : Stage → ConnState → Phase
phase_at stages.Protocol a = phases.Protocol
phase_at stages.Identify a = phases.Identify
phase_at stages.Verify a = phases.Verify (entrant (listed_user a.sender.sid a.fields)) a.expected
phase_at stages.Normal a = phases.Normal (feature_set (su_in a.fields))
phase_at stages.Gone a = phases.Gone

abbrev pub phase_of : ConnState → Phase
phase_of a = phase_at a.stage a

-- the user who may enter once its password is right
abbrev pub users_awaited : Phase → List Listed
users_awaited (phases.Verify newcomer expected) = newcomer.user ∷ []
users_awaited phase = []

abbrev pub entered_phase : Phase → Phase
entered_phase (phases.Verify newcomer expected) = phases.Normal newcomer.support
entered_phase phase = phase

-- what a change makes of the connection that sent the line
abbrev pub phase_after : Change → Phase → Phase
phase_after (Sender (senders.Greets features)) phase = phases.Identify
phase_after (Sender (senders.Waits newcomer expected)) phase = phases.Verify newcomer expected
phase_after (Sender senders.Enters) phase = entered_phase phase
phase_after (Sender (senders.EntersAs newcomer)) phase = phases.Normal newcomer.support
phase_after (Sender (senders.Updates revision)) phase = phases.Normal revision.support
phase_after (Sender senders.Falls) phase = phases.Gone
phase_after change phase = phase

abbrev pub is_among : Bool → Hearers → ℕ → List (List ℕ) → Bool
is_among is_caller Others sid support = not is_caller
is_among is_caller (Those to) sid support = holds_words to sid support

-- a present user hears what is said for it
abbrev pub phase_hears : Phase → Bool → Hearers → ℕ → Bool
phase_hears (phases.Normal support) is_caller hearers sid = is_among is_caller hearers sid support
phase_hears phase is_caller hearers sid = false
