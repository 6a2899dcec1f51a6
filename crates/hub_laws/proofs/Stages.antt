-- The stage of a connection is what the last entry that changes it made it.
use Rattle.std.proofs.Common.{◌≡◌, ◌∙◌, sym, ap, refl, subst, ℕ, Bool, true, false, ◌&&◌, ◌==◌, List, [], ◌∷◌, Option, Some, None, Result, Ok, Err, unwrap_or, cond, arith}
use Rattle.login_state.specs.Denials.{is_fatal}
use Rattle.hub_laws.specs.StageSteps as stepping
use Rattle.hub_laws.specs.StageSteps.{StageIsLastMade, entry_stage, accepted_stage, decided_stage, gone_if, heard_stage, last_made, line_stage, logged_in, only_if, stage_made}
use Rattle.hub_laws.proofs.Words.{ConnState, Becomes, Call, Change, Configured, Deny, Effect, Facts, Field, LineFault, Nothing, Outcome, SenderView, PreparedLine, Reading, Request, Sender, HubView, Stage}
use Rattle.hub_laws.proofs.Words.{and-false, becomes, by-request, denial, denial_of, denies, effect_of_line, effect_of_reading, eqb-true, facts, greets, if◌then◌else◌, is_account, is_present}
use Rattle.hub_laws.proofs.Words.{later-none, lets_in, line_effect, option_or, own_of, prepared_line, quiet, refusal_of, removed_by, request-asks, shuts_out, sight_of, stage_after, stage_next}
use Rattle.hub_laws.proofs.Words.{tells_others, tells_sender, unless_denied, user_after, waits}
use Rattle.hub_laws.proofs.Words.senders
use Rattle.hub_laws.proofs.Words.stages
use Rattle.hub_laws.proofs.Words.updates

-- ---- one line

abbrev Makes : SenderView → Effect → Option Stage → Type 0
Makes own effect made = stage_after effect.change own.stage ≡ unwrap_or made own.stage

makes-if : (own : SenderView) (b : Bool) (x y : Effect) (first second : Option Stage) → Makes own x first → Makes own y second → Makes own (if b then x else y) (if b then first else second)
makes-if own b x y first second here there = grind arith

fall-stage : (b : Bool) (own others : List (List ℕ)) (stage : Stage)
    → stage_after (cond b (tells_others own others (Sender senders.Falls)) (tells_sender own Nothing)).change stage ≡ unwrap_or (gone_if b) stage
fall-stage b own others stage = grind arith

makes-denial : (own : SenderView) (deny : Deny) → Makes own (denial own deny) (gone_if (is_fatal deny))
unfolding denial
makes-denial own deny = fall-stage (is_fatal deny) _ _ own.stage

-- what an accepted line makes of the stage, if one was accepted
abbrev MakesSaid : HubView → SenderView → Option Reading → Request → Effect → Type 0
MakesSaid hub own None request effect = Unit {0}
MakesSaid hub own (Some reading) request effect = Makes own effect (accepted_stage hub own reading request)

login-stage : (hub : HubView) (own : SenderView) (reading : Reading) (u : List Field) (b : Bool) → updates.reading reading.params ≡ Ok u → is_account hub (user_after own u).key ≡ b
    → entry_stage b ≡ unwrap_or (logged_in hub own (updates.reading reading.params)) own.stage
login-stage hub own reading u b words account = ap entry_stage (sym account) ∙ ap (λ r. unwrap_or (logged_in hub own r) own.stage) (sym words)

module _ {hub : HubView} {own : SenderView} {line : PreparedLine} {now : ℕ} where
  makes : {said : Option Reading} {request : Request} {effect : Effect} → Outcome hub own line now said request effect → MakesSaid hub own said request effect
  makes quiet = tt
  makes (denies deny) = tt
  makes (shuts_out deny) = tt
  makes (greets reading features at applies) = ap (λ r. unwrap_or (stepping.stage_after_sup r) own.stage) (sym applies)
  makes (waits reading u logs account) = login-stage hub own reading u true logs.words account
  makes (lets_in reading u logs account) = login-stage hub own reading u false logs.words account
  makes _ = refl

makes-unless : (own : SenderView) (refusal : Option Deny) (effect : Effect) (made : Option Stage) → (refusal ≡ None → Makes own effect made)
    → Makes own (unless_denied own refusal effect) (decided_stage refusal made)
makes-unless own refusal effect made makes = grind (arith, makes-denial)

makes-heard : (hub : HubView) (own : SenderView) (line : PreparedLine) (now : ℕ) (r : Result Reading LineFault) → Makes own (effect_of_reading hub own line now r) (heard_stage hub own line now r)
makes-heard hub own line now (Ok reading) =
    makes-unless own (denial_of hub own line now reading) _ _
    (λ none. makes (by-request hub own line now reading _ (request-asks own.stage reading.kind reading.command) refl (later-none (refusal_of own.stage own.sender.sid reading) _ none)))
makes-heard hub own line now (Err fault) = makes-denial own _

makes-line : (hub : HubView) (own : SenderView) (line : PreparedLine) (now : ℕ) → Makes own (line_effect hub own line now) (line_stage hub own line now)
unfolding line_effect line_stage
makes-line hub own line now = grind (arith, makes-if, makes-heard)

-- ---- one call

next-made : (removed same : Bool) (change : Change) (stage : Stage) (made : Option Stage) → (same ≡ true → stage_after change stage ≡ unwrap_or made stage)
    → stage_next removed same change stage ≡ unwrap_or (option_or (gone_if removed) (only_if same made)) stage
next-made removed same change stage made makes = grind arith

quit-next : (same : Bool) (stage : Stage) → stage_next false same (Sender senders.Falls) stage ≡ unwrap_or (only_if same (Some stages.Gone)) stage
quit-next same stage = grind arith

-- a call that is no operator's act shuts nobody else out
made-alone : (a : ConnState) (made : Option Stage) → unwrap_or made a.stage ≡ unwrap_or (option_or (gone_if (is_present a.stage && false)) made) a.stage
made-alone a made = ap (λ r. unwrap_or (option_or (gone_if r) made) a.stage) (sym (and-false (is_present a.stage)))

module _ {setup : Configured} {hash : List ℕ → List ℕ} {f : Facts} {caller c : ℕ} where
  made-after : {call : Call} {a : ConnState} → Becomes setup hash f caller c call a → a.stage ≡ unwrap_or (stage_made setup hash f c call) (f.about c).stage
  made-after (Becomes.joins peer challenge now place is) = ap (λ b. unwrap_or (only_if b (Some stages.Protocol)) (f.about c).stage) (sym place) ∙ made-alone (f.about c) _
  made-after (Becomes.misses peer challenge now place) = ap (λ b. unwrap_or (only_if b (Some stages.Protocol)) (f.about c).stage) (sym place) ∙ made-alone (f.about c) _
  made-after (Becomes.says d bytes now) =
      let effect : Effect = effect_of_line setup hash f d bytes now in
      next-made (removed_by effect (f.about c)) (c == d) effect.change (f.about c).stage _
      (λ is. subst (λ x. stage_after effect.change (f.about x).stage
      ≡ unwrap_or (line_stage (sight_of setup f) (own_of (f.about d)) (prepared_line setup hash (f.about d).sender.challenge bytes) now) (f.about x).stage) (sym (eqb-true c d is))
      (makes-line (sight_of setup f) (own_of (f.about d)) (prepared_line setup hash (f.about d).sender.challenge bytes) now))
  made-after (Becomes.quits d) =
      ap (λ r. stage_next r (c == d) (Sender senders.Falls) (f.about c).stage) (and-false (is_present (f.about c).stage))
      ∙ quit-next (c == d) (f.about c).stage ∙ made-alone (f.about c) _
  made-after (Becomes.takes d count) = made-alone (f.about c) None

-- ---- every history

or-made : (made before : Option Stage) → unwrap_or made (unwrap_or before stages.Gone) ≡ unwrap_or (option_or made before) stages.Gone
or-made made before = grind arith

pub stage_is_last_made : StageIsLastMade
unfolding facts last_made
stage_is_last_made setup hash [] c = refl
stage_is_last_made setup hash (e ∷ h) c =
    made-after (becomes setup hash (facts setup hash h) e.caller c e.call)
    ∙ ap (unwrap_or (stage_made setup hash (facts setup hash h) c e.call)) (stage_is_last_made setup hash h c)
    ∙ or-made (stage_made setup hash (facts setup hash h) c e.call) (last_made setup hash h c)
