-- Which lines change something for all, and which bring a user in.
use Rattle.std.proofs.Common.{◌≡◌, ◌∙◌, sym, ap, ap₂, refl, subst, ℕ, ◌+◌, Bool, false, ◌&&◌, ◌⊎◌, inl, inr, ◌==◌, List, Option, eq-eqb, cond, arith}
use Rattle.hub_laws.proofs.Words.{ConnState, Becomes, Call, Configured, Effect, Entry, Facts, Field, Line, Outcome, SenderView, PreparedLine, Reading, Request, Sender, HubView, Stage, accepted_line, acts}
use Rattle.hub_laws.proofs.Words.{and-false, becomes, change_of, cid_in, departure, effect_of_line, eqb-true, facts, false≢true, fields_after, is_operator, is_present, left_of_bans, line-outcome}
use Rattle.hub_laws.proofs.Words.{own_of, prepared_line, removed_by, sight_of, stage_after, stage_next}
use Rattle.hub_laws.proofs.Words.lefts
use Rattle.hub_laws.proofs.Words.senders
use Rattle.hub_laws.proofs.Words.stages
use Rattle.hub_laws.specs.Operators.{NobodyBannedEnters, OnlyOperatorsBan, OnlyOperatorsSetTopics, OnlyOperatorsShutOut, is_of_operator, is_own}
use Rattle.hub_laws.proofs.Entrances.{EntersUnasked, GivesPassword, IsHereStill, checked-line}
use Rattle.hub_laws.proofs.StageChanges.{moves-to, gone-normal, protocol-normal}
use Rattle.hub_laws.proofs.Worlds.{is_act, no-ban, no-removal, no-topic, step-bans, step-topic}

-- ---- whose lines change something for all

abbrev may_act : HubView → SenderView → Bool
may_act hub own = is_present own.stage && is_operator hub own

module _ {hub : HubView} {own : SenderView} {line : PreparedLine} {now : ℕ} where
  operator-acts : {said : Option Reading} {request : Request} {effect : Effect} → Outcome hub own line now said request effect → may_act hub own ≡ false → is_act effect.change ≡ false
  operator-acts (acts reading done at operator asks does) none_of = absurd (false≢true (sym none_of ∙ ap₂ (λ (s : Stage) b. is_present s && b) at operator))
  operator-acts _ none_of = refl

same-call : (setup : Configured) (hash : List ℕ → List ℕ) (h : List Entry) (call : Call) → is_of_operator setup hash h call ≡ false
    → is_act (change_of setup hash (facts setup hash h) call) ≡ false
same-call setup hash h (Line c bytes now) none_of =
    let f : Facts = facts setup hash h in
    operator-acts (line-outcome setup hash f c bytes now) none_of
same-call setup hash h _ none_of = refl

pub only_operators_ban : OnlyOperatorsBan
unfolding facts
only_operators_ban setup hash h e cid now none_of = grind (arith, step-bans, no-ban, same-call)

pub only_operators_set_topics : OnlyOperatorsSetTopics
unfolding facts
only_operators_set_topics setup hash h e none_of = grind (arith, step-topic, no-topic, same-call)

-- ---- whose stage changes

none-removed : (effect : Effect) (a : ConnState) → is_act effect.change ≡ false → removed_by effect a ≡ false
none-removed effect a same = ap (λ r. is_present a.stage && r) (no-removal effect.change a.sender.sid same) ∙ and-false (is_present a.stage)

module _ {setup : Configured} {hash : List ℕ → List ℕ} {f : Facts} {caller d : ℕ} where
  kept-after : {call : Call} {a : ConnState} → Becomes setup hash f caller d call a → is_act (change_of setup hash f call) ≡ false → is_own f.joins d call ≡ false
      → a.stage ≡ (f.about d).stage
  kept-after (Becomes.joins peer challenge now place is) same other = absurd (false≢true (sym other ∙ eq-eqb d (f.joins + 1) is))
  kept-after (Becomes.says c bytes now) same other =
      let effect : Effect = effect_of_line setup hash f c bytes now in
      ap₂ (λ r b. stage_next r b effect.change (f.about d).stage) (none-removed effect (f.about d) same) other
  kept-after (Becomes.quits c) same other =
      ap₂ (λ r b. stage_next r b (Sender senders.Falls) (f.about d).stage) (none-removed (departure (f.about c).stage (f.about c).sender.sid) (f.about d) refl) other
  kept-after _ same other = refl

pub only_operators_shut_out : OnlyOperatorsShutOut
unfolding facts
only_operators_shut_out setup hash h e d none_of other = kept-after (becomes setup hash (facts setup hash h) e.caller d e.call) (same-call setup hash h e.call none_of) other

-- ---- who enters

abbrev Enters : Facts → List Field → Call → ℕ → Type 0
Enters f fields call c = (bytes : List ℕ) × (moment : ℕ) × (call ≡ Line c bytes moment) × (left_of_bans f.bans (cid_in fields) moment ≡ lefts.Free)

unbanned : (hub : HubView) (own : SenderView) (now : ℕ) (said : Option Reading) (effect : Effect) → (own.stage ≡ stages.Normal → ⊥)
    → IsHereStill hub own effect ⊎ (EntersUnasked hub own now said effect ⊎ GivesPassword hub own now said (fields_after effect.change own.fields))
    → left_of_bans hub.bans (cid_in (fields_after effect.change own.fields)) now ≡ lefts.Free
unbanned hub own now said effect absent (inl here) = absurd (absent here.at)
unbanned hub own now said effect absent (inr (inl unasked)) = unasked.logs.unbanned
unbanned hub own now said effect absent (inr (inr gives)) = gives.unbanned

module _ {setup : Configured} {hash : List ℕ → List ℕ} {f : Facts} {caller d : ℕ} where
  enters-after : {call : Call} {a : ConnState} → Becomes setup hash f caller d call a → ((f.about d).stage ≡ stages.Normal → ⊥) → a.stage ≡ stages.Normal → Enters f a.fields call d
  enters-after (Becomes.joins peer challenge now place at) absent here = absurd (protocol-normal here)
  enters-after (Becomes.says c bytes now) absent here =
      let line : PreparedLine = prepared_line setup hash (f.about c).sender.challenge bytes in
      let effect : Effect = effect_of_line setup hash f c bytes now in
      let moved = moves-to (removed_by effect (f.about d)) (d == c) effect.change (f.about d).stage stages.Normal gone-normal absent here in
      let same : d ≡ c = eqb-true d c moved.is_caller in
      let checked = checked-line (sight_of setup f) (own_of (f.about c)) line now in (
        bytes,
        now,
        ap (λ x. Line x bytes now) (sym same),
        ap (λ fs. left_of_bans f.bans (cid_in fs) now)
            (ap (λ b. cond b (fields_after effect.change (f.about d).fields) (f.about d).fields) moved.is_caller
            ∙ ap (λ x. fields_after effect.change (f.about x).fields) same)
            ∙ unbanned (sight_of setup f) (own_of (f.about c)) now (accepted_line (sight_of setup f) (own_of (f.about c)) line now) effect
            (subst (λ x. (f.about x).stage ≡ stages.Normal → ⊥) same absent)
            (checked.enters (subst (λ x. stage_after effect.change (f.about x).stage ≡ stages.Normal) same moved.moves)),
      )
  enters-after (Becomes.quits c) absent here =
      absurd (gone-normal (moves-to (removed_by (departure (f.about c).stage (f.about c).sender.sid) (f.about d)) (d == c) (Sender senders.Falls)
      (f.about d).stage stages.Normal gone-normal absent here).moves)
  enters-after _ absent here = absurd (absent here)

pub nobody_banned_enters : NobodyBannedEnters
unfolding facts
nobody_banned_enters setup hash h e c absent is = enters-after (becomes setup hash (facts setup hash h) e.caller c e.call) absent is
