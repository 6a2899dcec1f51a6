-- A refused line leads to a denial, and to nothing else.
use Rattle.std.proofs.Common.{◌≡◌, ◌∙◌, sym, ap, ap₂, refl, subst, ℕ, Bool, true, false, ◌&&◌, ◌==◌, eqb, List, [], ◌∷◌, ◌++◌, append-nil, length, filter, Option, Some, None, Result, Ok, Err, cond, arith}
use Rattle.std.specs.Prelude.{◌||◌}
use Rattle.adc_line.specs.declared.fault.LineFault.{LineFault}
use Rattle.login_state.specs.Denials.{denial_line, is_fatal}
use Rattle.hub_invariants.specs.Said.{kept_unless, unless_refused}
use Rattle.hub_laws.proofs.Words.{ConnState, Configured, Deny, Effect, Entry, Facts, Line, Nothing, Others, SenderView, PreparedLine, Reading, Sender, HubView, Stage, about_parts, accepted_line, after, happens_parts, happens-parts}
use Rattle.hub_laws.proofs.Words.{affected_parts, bans_after, denial, denial_of, effect_of_line, effect_of_reading, enters, eq-eqb, facts, happens, has, if◌then◌else◌, is_over, is_present}
use Rattle.hub_laws.proofs.Words.{left_of_bans, line_effect, nothing, or-true, owed_with, lags_with, owes, own_of, prepared_line, present_parts, quit_line, share, sight_of, sound_of, Sound, topic_after, unless_denied}
use Rattle.hub_laws.proofs.Words.denials
use Rattle.hub_laws.proofs.Words.lines
use Rattle.hub_laws.proofs.Words.senders
use Rattle.hub_laws.proofs.Words.stages
use Rattle.hub_laws.specs.Refusals.{IsSame, IsToldAlone, RefusalsAreToldAlone}
use Rattle.hub_laws.proofs.Owed.{owed-as}
use Rattle.hub_laws.proofs.AccountPasswords.{prepared-bytes}

-- ---- the effect of a line that is refused

-- it is a denial of this
record IsDenial (own : SenderView) (effect : Effect) : Type 0 where
  deny : Deny
  is : effect ≡ denial own deny

by-refusal : (own : SenderView) (reading : Reading) (refusal : Option Deny) (effect : Effect) → kept_unless refusal reading ≡ None → IsDenial own (unless_denied own refusal effect)
by-refusal own reading (Some deny) effect none = record { deny = deny; is = refl }
by-refusal own reading None effect none = let no : ⊥ = cc none in absurd no

by-reading : (hub : HubView) (own : SenderView) (line : PreparedLine) (now : ℕ) (r : Result Reading LineFault) → unless_refused hub own line now r ≡ None
    → IsDenial own (effect_of_reading hub own line now r)
by-reading hub own line now (Ok reading) none = by-refusal own reading (denial_of hub own line now reading) _ none
by-reading hub own line now (Err fault) none = record { deny = denials.Protocol; is = refl }

denied-line : (hub : HubView) (own : SenderView) (line : PreparedLine) (now : ℕ) → is_over own.stage ≡ false → (length line.bytes == 0) ≡ false → accepted_line hub own line now ≡ None
    → IsDenial own (line_effect hub own line now)
unfolding line_effect accepted_line
denied-line hub own line now still some none =
    let read : unless_refused hub own line now (lines.reading line.bytes) ≡ None =
    sym (ap₂ (λ a b. if a then None else if b then None else unless_refused hub own line now (lines.reading line.bytes)) still some) ∙ none in
    let by = by-reading hub own line now (lines.reading line.bytes) read in
    record {
      deny = by.deny;
      is = ap₂ (λ a b. if a then nothing else if b then nothing else effect_of_reading hub own line now (lines.reading line.bytes)) still some ∙ by.is;
    }

-- what a denial says, by whether it is fatal
record Says (own : SenderView) (deny : Deny) (effect : Effect) : Type 0 where
  sender : effect.own ≡ denial_line deny ∷ []
  others : effect.others ≡ cond (is_fatal deny && is_present own.stage) (quit_line own.sender.sid ∷ []) []
  hearers : effect.hearers ≡ Others
  falls : is_fatal deny ≡ true → effect.change ≡ Sender senders.Falls
  keeps : is_fatal deny ≡ false → effect.change ≡ Nothing

by-fatal : (own : SenderView) (deny : Deny) (fatal : Bool) → is_fatal deny ≡ fatal → Says own deny (denial own deny)
unfolding denial
by-fatal own deny fatal is = grind arith

-- ---- the call

owes-sender : (same : Bool) (effect : Effect) (a : ConnState) → same ≡ true → effect.hearers ≡ Others → owes same effect a ≡ effect.own
owes-sender same effect a is hearers = grind arith

owes-other : (same : Bool) (effect : Effect) (a : ConnState) (fatal here : Bool) (line : List ℕ) → same ≡ false → effect.hearers ≡ Others
    → effect.others ≡ cond (fatal && here) (line ∷ []) [] → owes same effect a ≡ cond (fatal && here && is_present a.stage) (line ∷ []) []
owes-other same effect a fatal here line is hearers others = grind arith

not-same : (d c : ℕ) (b : Bool) → (d == c) ≡ b → (d ≡ c → ⊥) → b ≡ false
not-same d c b is other = grind arith

falls-gone : (c : ℕ) (effect : Effect) (f : Facts) → effect.change ≡ Sender senders.Falls → (about_parts c effect f.about c).stage ≡ stages.Gone
falls-gone c effect f falls = grind arith

-- a connection of an effect that changes nothing
still : (same : Bool) (effect : Effect) (a : ConnState) → effect.change ≡ Nothing
    → affected_parts same effect a ≡ record a { owed = owed_with a (owes same effect a); lags = lags_with a (owes same effect a) }
still same effect a none = grind arith

all-kept : (p : ℕ → Bool) (xs : List ℕ) → ((d : ℕ) → has d xs ≡ true → p d ≡ true) → filter p xs ≡ xs
all-kept p [] all = refl
all-kept p (x ∷ xs) all =
    ap₂ (λ b (ys : List ℕ). cond b (x ∷ ys) ys) (all x (ap (λ b. b || has x xs) (eq-eqb x x refl)))
    (all-kept p xs (λ d there. all d (ap (λ b. eqb x d || b) there ∙ or-true (eqb x d))))

still-present : (c : ℕ) (effect : Effect) (f : Facts) → Sound f → effect.change ≡ Nothing → present_parts c effect f.about f.present ≡ f.present
still-present c effect f sound none =
    ap₂ (λ xs b. xs ++ cond b (c ∷ []) [])
    (all-kept (λ d. is_present (about_parts c effect f.about d).stage) f.present
    (λ d there. ap (λ (a : ConnState). is_present a.stage) (still (d == c) effect (f.about d) none) ∙ sym (sound.entered d) ∙ there)) (ap enters none)
    ∙ append-nil f.present

-- ---- every history

is-some : (bytes : List ℕ) → (bytes ≡ [] → ⊥) → (length bytes == 0) ≡ false
is-some [] some = absurd (some refl)
is-some (b ∷ bytes) some = grind arith

is-heard : (stage : Stage) → (stage ≡ stages.Gone → ⊥) → is_over stage ≡ false
is-heard stage heard = grind arith

module _ (setup : Configured) (hash : List ℕ → List ℕ) (h : List Entry) (e : Entry) (c : ℕ) (bytes : List ℕ) (now : ℕ) where
  abbrev f : Facts
  f = facts setup hash h

  abbrev effect : Effect
  effect = effect_of_line setup hash f c bytes now

  step : e.call ≡ Line c bytes now → facts setup hash (e ∷ h) ≡ happens_parts c effect f
  unfolding facts after
  step call = ap (after setup hash f e.caller) call ∙ happens-parts c effect f

  same-by : e.call ≡ Line c bytes now → effect.change ≡ Nothing → IsSame setup hash h e
  unfolding happens
  same-by call none = record {
    opened = ap (λ (g : Facts). g.opened) (step call);
    users = ap (λ (g : Facts). g.present) (step call) ∙ still-present c effect f (sound_of setup hash h) none;
    topic = ap (λ (g : Facts). g.topic) (step call) ∙ ap (λ change. topic_after change f.topic) none;
    bans = λ cid moment. ap (λ (g : Facts). left_of_bans g.bans cid moment) (step call) ∙ ap (λ change. left_of_bans (bans_after change f.bans) cid moment) none;
    connections = λ d. subst (λ (a : ConnState). a ≡ record (f.about d) { owed = a.owed; lags = a.lags })
        (sym (ap (λ (g : Facts). g.about d) (step call) ∙ still (d == c) effect (f.about d) none)) refl;
  }

  told-by : (why : Deny) → Says (own_of (f.about c)) why effect → e.call ≡ Line c bytes now → IsToldAlone setup hash h e c
  unfolding happens
  told-by why says call = record {
    why = why;
    sender = owed-as setup hash h e c _
        (ap (share setup hash f c) call ∙ owes-sender (c == c) effect (f.about c) (eq-eqb c c refl) says.hearers ∙ says.sender);
    others = λ d other. owed-as setup hash h e d _
        (ap (share setup hash f d) call
        ∙ owes-other (d == c) effect (f.about d) (is_fatal why) (is_present (f.about c).stage) _ (not-same d c (d == c) refl other) says.hearers says.others);
    shut_out = λ fatal. ap (λ (g : Facts). (g.about c).stage) (step call) ∙ falls-gone c effect f (says.falls fatal);
    kept = λ mild. same-by call (says.keeps mild);
  }

pub refusals_are_told_alone : RefusalsAreToldAlone
refusals_are_told_alone setup hash h e c r =
    let f : Facts = facts setup hash h in
    let line : PreparedLine = prepared_line setup hash (f.about c).sender.challenge r.bytes in
    let denied = denied-line (sight_of setup f) (own_of (f.about c)) line r.now (is-heard (f.about c).stage r.heard)
    (ap (λ (bs : List ℕ). length bs == 0) (prepared-bytes setup hash (f.about c).sender.challenge r.bytes) ∙ is-some r.bytes r.some) r.refused in
    told-by setup hash h e c r.bytes r.now denied.deny
    (subst (Says (own_of (f.about c)) denied.deny) (sym denied.is) (by-fatal (own_of (f.about c)) denied.deny (is_fatal denied.deny) refl)) r.call
