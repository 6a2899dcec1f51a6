-- The lines owed by a line after which the hub waits for a password.
use Rattle.std.proofs.Common.{◌≡◌, sym, refl, subst, ℕ, Bool, ◌⊎◌, inl, inr, ◌==◌, List, [], ◌∷◌, Option, cond, arith}
use Rattle.hub_laws.proofs.Words.{ConnState, Becomes, Call, Configured, Effect, Facts, Line, Outcome, SenderView, PreparedLine, Reading, Request, Sender, HubView, becomes, challenge_line, departure}
use Rattle.hub_laws.proofs.Words.{effect_of_line, eqb-true, facts, greets, lets_in, line-outcome, owes, own_of, proves, removed_by, share, shuts_out, stage_after, waits}
use Rattle.hub_laws.proofs.Words.senders
use Rattle.hub_laws.proofs.Words.stages
use Rattle.hub_laws.specs.Passwords.{ChallengesAreTold}
use Rattle.hub_laws.proofs.StageChanges.{moves-to, gone-verify, identify-verify, normal-verify, protocol-verify}

-- ---- one line

record Asks (own : SenderView) (effect : Effect) : Type 0 where
  challenge : effect.own ≡ challenge_line own.sender.challenge ∷ []
  others : effect.others ≡ []

abbrev IsAsking : SenderView → Effect → Type 0
IsAsking own effect = stage_after effect.change own.stage ≡ stages.Verify → (own.stage ≡ stages.Verify) ⊎ Asks own effect

module _ {hub : HubView} {own : SenderView} {line : PreparedLine} {now : ℕ} where
  asking : {said : Option Reading} {request : Request} {effect : Effect} → Outcome hub own line now said request effect → IsAsking own effect
  asking (shuts_out deny) is = absurd (gone-verify is)
  asking (greets reading features at applies) is = absurd (identify-verify is)
  asking (waits reading u logs account) is = inr (record { challenge = refl; others = refl })
  asking (lets_in reading u logs account) is = absurd (normal-verify is)
  asking (proves reading at asks none) is = absurd (normal-verify is)
  asking _ is = inl is

-- ---- the call

owes-own : (is_caller : Bool) (effect : Effect) (a : ConnState) (own : List (List ℕ)) → effect.others ≡ [] → effect.own ≡ own → owes is_caller effect a ≡ cond is_caller own []
owes-own is_caller effect a own none is = grind arith

asked-now : (own : SenderView) (effect : Effect) → (own.stage ≡ stages.Verify → ⊥) → (own.stage ≡ stages.Verify) ⊎ Asks own effect → Asks own effect
asked-now own effect before made = grind arith

line-tells : (setup : Configured) (hash : List ℕ → List ℕ) (f : Facts) (c d : ℕ) (bytes : List ℕ) (now : ℕ) → ((f.about c).stage ≡ stages.Verify → ⊥)
    → stage_after (effect_of_line setup hash f c bytes now).change (f.about c).stage ≡ stages.Verify
    → share setup hash f d (Line c bytes now) ≡ cond (d == c) (challenge_line (f.about c).sender.challenge ∷ []) []
line-tells setup hash f c d bytes now before is =
    let asks = asked-now (own_of (f.about c)) (effect_of_line setup hash f c bytes now) before
    (asking (line-outcome setup hash f c bytes now) is) in
    owes-own (d == c) (effect_of_line setup hash f c bytes now) (f.about d) (challenge_line (f.about c).sender.challenge ∷ []) asks.others asks.challenge

module _ {setup : Configured} {hash : List ℕ → List ℕ} {f : Facts} {caller c : ℕ} where
  tells-after : {call : Call} {a : ConnState} → Becomes setup hash f caller c call a → (d : ℕ) → ((f.about c).stage ≡ stages.Verify → ⊥) → a.stage ≡ stages.Verify
      → share setup hash f d call ≡ cond (d == c) (challenge_line (f.about c).sender.challenge ∷ []) []
  tells-after (Becomes.joins peer challenge now place at) d before is = absurd (protocol-verify is)
  tells-after (Becomes.says o bytes now) d before is =
      let effect : Effect = effect_of_line setup hash f o bytes now in
      let to = moves-to (removed_by effect (f.about c)) (c == o) effect.change (f.about c).stage stages.Verify gone-verify before is in
      let same : c ≡ o = eqb-true c o to.is_caller in
      subst (λ x. share setup hash f d (Line x bytes now) ≡ cond (d == c) (challenge_line (f.about c).sender.challenge ∷ []) []) same
      (line-tells setup hash f c d bytes now before
      (subst (λ x. stage_after (effect_of_line setup hash f x bytes now).change (f.about c).stage ≡ stages.Verify) (sym same) to.moves))
  tells-after (Becomes.quits o) d before is =
      absurd (gone-verify (moves-to (removed_by (departure (f.about o).stage (f.about o).sender.sid) (f.about c)) (c == o) (Sender senders.Falls) (f.about c).stage stages.Verify gone-verify before is).moves)
  tells-after _ d before is = absurd (before is)

pub challenges_are_told : ChallengesAreTold
unfolding facts
challenges_are_told setup hash h e c d before is = tells-after (becomes setup hash (facts setup hash h) e.caller c e.call) d before is
