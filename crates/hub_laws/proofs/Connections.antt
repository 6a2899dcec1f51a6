-- What holds of a connection after every history: what its join makes so, what is so of who is shut out, and what its own lines keep.
use Rattle.std.proofs.Common.{◌≡◌, sym, refl, subst, ℕ, Bool, true, false, ◌==◌, List, [], ◌∷◌, cond}
use Rattle.hub_laws.proofs.Words.{ConnState, Becomes, Call, Change, Configured, Effect, Entry, Facts, Field, Sender, Stage, becomes, departure, effect_of_line, eqb-true, facts, features_after, fields_after, own_change}
use Rattle.hub_laws.proofs.Words.{removed_by, stage_after, stage_next}
use Rattle.hub_laws.proofs.Words.senders
use Rattle.hub_laws.proofs.Words.stages

module _ (setup : Configured) (hash : List ℕ → List ℕ) (P : Stage → List (List ℕ) → List Field → Type 0) where
  -- it holds of a connection
  abbrev pub Holds : ConnState → Type 0
  Holds a = P a.stage a.sender.features a.fields

  -- and of one after a change of its own
  abbrev pub HoldsAfter : Change → ConnState → Type 0
  HoldsAfter change a = P (stage_after change a.stage) (features_after change a.sender.features) (fields_after change a.fields)

  -- an own line keeps it
  abbrev pub IsKept : Type 0
  IsKept = (h : List Entry) (c : ℕ) (bytes : List ℕ) (now : ℕ) → Holds ((facts setup hash h).about c)
      → HoldsAfter (effect_of_line setup hash (facts setup hash h) c bytes now).change ((facts setup hash h).about c)

  holds-next : ((features : List (List ℕ)) (fields : List Field) → P stages.Gone features fields) → (removed same : Bool) (change : Change) (a : ConnState) → Holds a
      → (same ≡ true → HoldsAfter change a)
      → P (stage_next removed same change a.stage) (features_after (own_change same change) a.sender.features) (cond same (fields_after change a.fields) a.fields)
  holds-next gone true same change a holds after = gone _ _
  holds-next gone false true change a holds after = after refl
  holds-next gone false false change a holds after = holds

  holds-after : ((features : List (List ℕ)) (fields : List Field) → P stages.Gone features fields) → P stages.Protocol [] [] → IsKept → (h : List Entry) (caller d : ℕ) {call : Call} {a : ConnState}
      → Becomes setup hash (facts setup hash h) caller d call a → Holds ((facts setup hash h).about d) → Holds a
  holds-after gone joined kept h caller d (Becomes.joins peer challenge now place at) holds = joined
  holds-after gone joined kept h caller d (Becomes.says c bytes now) holds =
      let f : Facts = facts setup hash h in
      let effect : Effect = effect_of_line setup hash f c bytes now in
      holds-next gone (removed_by effect (f.about d)) (d == c) effect.change (f.about d) holds
      (λ same. subst (λ x. Holds (f.about x) → HoldsAfter effect.change (f.about x)) (sym (eqb-true d c same)) (kept h c bytes now) holds)
  holds-after gone joined kept h caller d (Becomes.quits c) holds =
      let f : Facts = facts setup hash h in
      holds-next gone (removed_by (departure (f.about c).stage (f.about c).sender.sid) (f.about d)) (d == c) (Sender senders.Falls) (f.about d) holds (λ same. gone _ _)
  holds-after gone joined kept h caller d _ holds = holds

  pub always : ((features : List (List ℕ)) (fields : List Field) → P stages.Gone features fields) → P stages.Protocol [] [] → IsKept → (h : List Entry) (d : ℕ) → Holds ((facts setup hash h).about d)
  unfolding facts
  always gone joined kept [] d = gone _ _
  always gone joined kept (e ∷ h) d = holds-after gone joined kept h e.caller d (becomes setup hash (facts setup hash h) e.caller d e.call) (always gone joined kept h d)
