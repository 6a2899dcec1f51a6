-- A connection that was at the stage of users is there still, or is shut out: it never enters again.
use Rattle.std.proofs.Common.{◌≡◌, sym, refl, ℕ, Bool, true, false, Option, ap, ◌∙◌, arith}
use Rattle.hub_laws.proofs.Words.{Change, Effect, Outcome, SenderView, PreparedLine, Reading, Request, Sender, HubView, Stage, false≢true, greets, lets_in, line_effect, outcome, proves, shuts_out}
use Rattle.hub_laws.proofs.Words.{stage_after, waits}
use Rattle.hub_laws.proofs.Words.senders
use Rattle.hub_laws.proofs.Words.stages

-- it has entered, whether it is still there or not
abbrev pub is_settled : Stage → Bool
is_settled stages.Normal = true
is_settled stages.Gone = true
is_settled stage = false

-- a change of no stage, but to shut out
abbrev pub keeps : Change → Bool
keeps (Sender (senders.Greets features)) = false
keeps (Sender (senders.Waits entrant expected)) = false
keeps (Sender senders.Enters) = false
keeps (Sender (senders.EntersAs entrant)) = false
keeps change = true

pub keeps-settled : (change : Change) (stage : Stage) → keeps change ≡ true → is_settled stage ≡ true → is_settled (stage_after change stage) ≡ true
keeps-settled change stage kept is = grind arith

module _ {hub : HubView} {own : SenderView} {line : PreparedLine} {now : ℕ} where
  keeps-outcome : {said : Option Reading} {request : Request} {effect : Effect} → Outcome hub own line now said request effect → is_settled own.stage ≡ true → keeps effect.change ≡ true
  keeps-outcome (greets reading features at applies) settled = absurd (false≢true (ap is_settled (sym at) ∙ settled))
  keeps-outcome (waits reading u logs account) settled = absurd (false≢true (ap is_settled (sym logs.at) ∙ settled))
  keeps-outcome (lets_in reading u logs account) settled = absurd (false≢true (ap is_settled (sym logs.at) ∙ settled))
  keeps-outcome (proves reading at asks none) settled = absurd (false≢true (ap is_settled (sym at) ∙ settled))
  keeps-outcome (shuts_out deny) settled = refl
  keeps-outcome _ settled = refl

pub keeps-line : (hub : HubView) (own : SenderView) (line : PreparedLine) (now : ℕ) → is_settled own.stage ≡ true → keeps (line_effect hub own line now).change ≡ true
keeps-line hub own line now settled = keeps-outcome (outcome hub own line now) settled
