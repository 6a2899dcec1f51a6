-- The line by which a connection comes to IDENTIFY shares out the greeting, with the topic.
use Rattle.std.proofs.Common.{◌≡◌, ◌∙◌, sym, ap, refl, subst, ℕ, Bool, true, ◌⊎◌, inl, inr, ◌==◌, List, [], ◌∷◌, Option, arith}
use Rattle.hub_rules.specs.Texts.{identifier_line, support_line}
use Rattle.hub_laws.proofs.Words.{ConnState, Becomes, Call, Configured, Effect, Facts, Line, Outcome, SenderView, PreparedLine, Reading, Request, Sender, HubView, becomes, departure}
use Rattle.hub_laws.proofs.Words.{effect_of_line, eq-eqb, eqb-true, facts, greets, hub_line, lets_in, line-outcome, owes, own_of, proves, removed_by, share, shuts_out, sight_of, stage_after, waits}
use Rattle.hub_laws.proofs.Words.senders
use Rattle.hub_laws.proofs.Words.stages
use Rattle.hub_laws.specs.Greetings.{NewcomersHearTheTopic}
use Rattle.hub_laws.proofs.StageChanges.{identify-normal, identify-verify, moves-to}
use Rattle.hub_laws.proofs.Owed.{owed-as}
use Rattle.hub_laws.proofs.Worlds.{topic_is_the_last}

gone-identify : stages.Gone ≡ stages.Identify → ⊥
gone-identify is = cc is

protocol-identify : stages.Protocol ≡ stages.Identify → ⊥
protocol-identify is = cc is

-- ---- one line

-- the greeting, with this topic
abbrev Greeting : HubView → ℕ → List ℕ → List (List ℕ)
Greeting hub sid ping = support_line ∷ identifier_line sid ∷ hub_line hub.setup hub.topic ping ∷ []

record Greets (hub : HubView) (own : SenderView) (effect : Effect) : Type 0 where
  ping : List ℕ
  greeting : effect.own ≡ Greeting hub own.sender.sid ping
  others : effect.others ≡ []

abbrev IsGreeting : HubView → SenderView → Effect → Type 0
IsGreeting hub own effect = stage_after effect.change own.stage ≡ stages.Identify → (own.stage ≡ stages.Identify) ⊎ Greets hub own effect

module _ {hub : HubView} {own : SenderView} {line : PreparedLine} {now : ℕ} where
  greeting : {said : Option Reading} {request : Request} {effect : Effect} → Outcome hub own line now said request effect → IsGreeting hub own effect
  greeting (shuts_out deny) is = absurd (gone-identify is)
  greeting (greets reading features at applies) is = inr (record { ping = _; greeting = refl; others = refl })
  greeting (waits reading u logs account) is = absurd (identify-verify (sym is))
  greeting (lets_in reading u logs account) is = absurd (identify-normal (sym is))
  greeting (proves reading at asks none) is = absurd (identify-normal (sym is))
  greeting _ is = inl is

-- ---- the call

greets-now : (hub : HubView) (own : SenderView) (effect : Effect) → (own.stage ≡ stages.Identify → ⊥) → (own.stage ≡ stages.Identify) ⊎ Greets hub own effect → Greets hub own effect
greets-now hub own effect before made = grind arith

owes-own : (same : Bool) (effect : Effect) (a : ConnState) (own : List (List ℕ)) → same ≡ true → effect.others ≡ [] → effect.own ≡ own → owes same effect a ≡ own
owes-own same effect a own is none says = grind arith

abbrev Greeted : Configured → (List ℕ → List ℕ) → Facts → ℕ → Call → Type 0
Greeted setup hash f c call = (ping : List ℕ) × (share setup hash f c call ≡ Greeting (sight_of setup f) (f.about c).sender.sid ping)

line-greets : (setup : Configured) (hash : List ℕ → List ℕ) (f : Facts) (c : ℕ) (bytes : List ℕ) (now : ℕ) → ((f.about c).stage ≡ stages.Identify → ⊥)
    → stage_after (effect_of_line setup hash f c bytes now).change (f.about c).stage ≡ stages.Identify → Greeted setup hash f c (Line c bytes now)
line-greets setup hash f c bytes now before is =
    let effect : Effect = effect_of_line setup hash f c bytes now in
    let greets = greets-now (sight_of setup f) (own_of (f.about c)) effect before (greeting (line-outcome setup hash f c bytes now) is) in
    (greets.ping, owes-own (c == c) effect (f.about c) _ (eq-eqb c c refl) greets.others greets.greeting)

module _ {setup : Configured} {hash : List ℕ → List ℕ} {f : Facts} {caller c : ℕ} where
  greets-after : {call : Call} {a : ConnState} → Becomes setup hash f caller c call a → ((f.about c).stage ≡ stages.Identify → ⊥) → a.stage ≡ stages.Identify
      → Greeted setup hash f c call
  greets-after (Becomes.joins peer challenge now place at) before is = absurd (protocol-identify is)
  greets-after (Becomes.says o bytes now) before is =
      let effect : Effect = effect_of_line setup hash f o bytes now in
      let to = moves-to (removed_by effect (f.about c)) (c == o) effect.change (f.about c).stage stages.Identify gone-identify before is in
      let same : c ≡ o = eqb-true c o to.is_caller in
      subst (λ x. Greeted setup hash f c (Line x bytes now)) same
      (line-greets setup hash f c bytes now before
      (subst (λ x. stage_after (effect_of_line setup hash f x bytes now).change (f.about c).stage ≡ stages.Identify) (sym same) to.moves))
  greets-after (Becomes.quits o) before is =
      absurd (gone-identify (moves-to (removed_by (departure (f.about o).stage (f.about o).sender.sid) (f.about c)) (c == o) (Sender senders.Falls) (f.about c).stage stages.Identify gone-identify before is).moves)
  greets-after _ before is = absurd (before is)

pub newcomers_hear_the_topic : NewcomersHearTheTopic
unfolding facts
newcomers_hear_the_topic setup hash h e c before is =
    let greeted = greets-after (becomes setup hash (facts setup hash h) e.caller c e.call) (λ same. protocol-identify (sym before ∙ same)) is in (
      greeted.0,
      owed-as setup hash h e c _ (greeted.1
          ∙ ap (λ (topic : List ℕ). support_line ∷ identifier_line ((facts setup hash h).about c).sender.sid ∷ hub_line setup topic greeted.0 ∷ []) (topic_is_the_last setup hash h)),
    )
