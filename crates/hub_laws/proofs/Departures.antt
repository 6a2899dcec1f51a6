-- The lines that others are owed by a call by which a user leaves.
use Rattle.std.proofs.Common.{◌≡◌, ◌∙◌, sym, ap, refl, subst, ℕ, Bool, true, false, ◌&&◌, ◌==◌, List, [], ◌∷◌, Option, arith}
use Rattle.hub_laws.proofs.Words.{ConnState, Becomes, Call, Change, Configured, Effect, Facts, Hub, HubChange, Line, Others, Outcome, SenderView, PreparedLine, Quit, Reading, Request, Sender, HubView, Sound}
use Rattle.hub_laws.proofs.Words.{Stage, absent-newcomer, and-false, becomes, change_of, departure, effect_of_line, eqb-true, facts, false≢true, farewell, greets, is_present, lets_in}
use Rattle.hub_laws.proofs.Words.{line-outcome, proves, quit_line, removed_by, share, shuts_out, sound_of, stage_after, stage_next, waits}
use Rattle.hub_laws.proofs.Words.senders
use Rattle.hub_laws.proofs.Words.stages
use Rattle.hub_laws.specs.Departures.{DeparturesAreHeard}
use Rattle.hub_laws.proofs.StageChanges.{identify-normal, protocol-normal}
use Rattle.hub_laws.proofs.Welcome.{hears-one}
use Rattle.hub_laws.proofs.Worlds.{is_act, no-removal}

-- ---- one line

record SaysFarewell (own : SenderView) (effect : Effect) : Type 0 where
  others : effect.others ≡ quit_line own.sender.sid ∷ []
  hearers : effect.hearers ≡ Others

abbrev IsLeft : SenderView → Effect → Type 0
IsLeft own effect = own.stage ≡ stages.Normal → (stage_after effect.change own.stage ≡ stages.Normal → ⊥) → SaysFarewell own effect

module _ {hub : HubView} {own : SenderView} {line : PreparedLine} {now : ℕ} where
  left : {said : Option Reading} {request : Request} {effect : Effect} → Outcome hub own line now said request effect → IsLeft own effect
  left (shuts_out deny) here leaves = record { others = ap (λ (s : Stage). farewell s own.sender.sid) here; hearers = refl }
  left (greets reading features at applies) here leaves = absurd (protocol-normal (sym at ∙ here))
  left (waits reading u logs account) here leaves = absurd (identify-normal (sym logs.at ∙ here))
  left (lets_in reading u logs account) here leaves = absurd (identify-normal (sym logs.at ∙ here))
  left (proves reading at asks none) here leaves = absurd (leaves refl)
  left _ here leaves = absurd (leaves here)

-- ---- the call

-- whoever leaves, and is not removed, sent the line
record Leaves (same : Bool) (change : Change) (stage : Stage) : Type 0 where
  is_caller : same ≡ true
  leaves : stage_after change stage ≡ stages.Normal → ⊥

leaves-by : (removed same : Bool) (change : Change) (stage : Stage) → removed ≡ false → stage ≡ stages.Normal → (stage_next removed same change stage ≡ stages.Normal → ⊥)
    → Leaves same change stage
leaves-by removed same change stage none here leaves = grind arith

not-act : (change : Change) → ((act : HubChange) → change ≡ Hub act → ⊥) → is_act change ≡ false
not-act change none = grind arith

nobody-removed : (effect : Effect) (a : ConnState) → ((act : HubChange) → effect.change ≡ Hub act → ⊥) → removed_by effect a ≡ false
nobody-removed effect a none = ap (λ r. is_present a.stage && r) (no-removal effect.change a.sender.sid (not-act effect.change none)) ∙ and-false (is_present a.stage)

line-heard : (setup : Configured) (hash : List ℕ → List ℕ) (f : Facts) (c d : ℕ) (bytes : List ℕ) (now : ℕ) → (f.about c).stage ≡ stages.Normal
    → (stage_after (effect_of_line setup hash f c bytes now).change (f.about c).stage ≡ stages.Normal → ⊥) → (f.about d).stage ≡ stages.Normal → (d == c) ≡ false
    → share setup hash f d (Line c bytes now) ≡ quit_line (f.about c).sender.sid ∷ []
line-heard setup hash f c d bytes now here leaves there other =
    let says = left (line-outcome setup hash f c bytes now) here leaves in
    hears-one (d == c) (effect_of_line setup hash f c bytes now) (f.about d) (quit_line (f.about c).sender.sid) says.others says.hearers other there

quit-heard : (setup : Configured) (hash : List ℕ → List ℕ) (f : Facts) (c d : ℕ) → (f.about c).stage ≡ stages.Normal → (f.about d).stage ≡ stages.Normal → (d == c) ≡ false
    → share setup hash f d (Quit c) ≡ quit_line (f.about c).sender.sid ∷ []
quit-heard setup hash f c d here there other = grind arith

no-act : (act : HubChange) → Sender senders.Falls ≡ Hub act → ⊥
no-act act is = cc is

module _ {setup : Configured} {hash : List ℕ → List ℕ} {f : Facts} {caller c : ℕ} where
  left-after : {call : Call} {a : ConnState} → Becomes setup hash f caller c call a → (d : ℕ) → Sound f → (f.about c).stage ≡ stages.Normal → (a.stage ≡ stages.Normal → ⊥)
      → ((act : HubChange) → change_of setup hash f call ≡ Hub act → ⊥) → (f.about d).stage ≡ stages.Normal → (d == c) ≡ false
      → share setup hash f d call ≡ quit_line (f.about c).sender.sid ∷ []
  left-after (Becomes.joins peer challenge now place is) d sound here leaves same there other =
      absurd (false≢true (sym (absent-newcomer f sound) ∙ ap (λ x. is_present (f.about x).stage) (sym is) ∙ ap is_present here))
  left-after (Becomes.says o bytes now) d sound here leaves same there other =
      let effect : Effect = effect_of_line setup hash f o bytes now in
      let by = leaves-by (removed_by effect (f.about c)) (c == o) effect.change (f.about c).stage (nobody-removed effect (f.about c) same) here leaves in
      let is : c ≡ o = eqb-true c o by.is_caller in
      subst (λ x. share setup hash f d (Line x bytes now) ≡ quit_line (f.about c).sender.sid ∷ []) is
      (line-heard setup hash f c d bytes now here
      (subst (λ x. stage_after (effect_of_line setup hash f x bytes now).change (f.about c).stage ≡ stages.Normal → ⊥) (sym is) by.leaves) there other)
  left-after (Becomes.quits o) d sound here leaves same there other =
      let effect : Effect = departure (f.about o).stage (f.about o).sender.sid in
      let by = leaves-by (removed_by effect (f.about c)) (c == o) effect.change (f.about c).stage (nobody-removed effect (f.about c) no-act) here leaves in
      subst (λ x. share setup hash f d (Quit x) ≡ quit_line (f.about c).sender.sid ∷ []) (eqb-true c o by.is_caller) (quit-heard setup hash f c d here there other)
  left-after _ d sound here leaves same there other = absurd (leaves here)

pub departures_are_heard : DeparturesAreHeard
unfolding facts
departures_are_heard setup hash h e c d here leaves same there other =
    left-after (becomes setup hash (facts setup hash h) e.caller c e.call) d (sound_of setup hash h) here leaves same there other
