-- The lines owed by a line that brings a user in.
use Rattle.std.proofs.Common.{◌≡◌, ◌∙◌, sym, ap, ap₂, refl, subst, ℕ, Bool, true, false, ◌⊎◌, inl, inr, ◌==◌, List, [], ◌∷◌, ◌++◌, map, Option, cond, arith}
use Rattle.hub_laws.proofs.Words.{ConnState, Configured, Effect, Entry, Facts, Field, Line, Others, Outcome, SenderView, PreparedLine, Reading, Request, HubView, about_parts, account_of, account_with, after, happens-parts}
use Rattle.hub_laws.proofs.Words.{effect_of_line, eq-eqb, facts, fields_after, greets, happens, has_feature, key_in, lets_in, line-outcome, line_of, listed_user, menu_line, owes, own_of, proves}
use Rattle.hub_laws.proofs.Words.{removed_by, share, shuts_out, sight_of, stage_after, ucmd, user_line, user_of, waits}
use Rattle.hub_laws.proofs.Words.stages
use Rattle.hub_laws.specs.Welcome.{EntrantsAreWelcomed, EntriesAreHeard}
use Rattle.hub_laws.proofs.StageChanges.{moves-to, gone-normal, identify-normal, verify-normal}
use Rattle.hub_laws.proofs.Operators.{nobody_banned_enters}

-- ---- one line

abbrev pub line_by : HubView → SenderView → List Field → List ℕ
line_by hub own fields = user_line own.sender.sid fields (account_of hub (key_in fields))

-- the user comes in with these fields
record Welcomes (hub : HubView) (own : SenderView) (effect : Effect) (fields : List Field) : Type 0 where
  others : effect.others ≡ line_by hub own fields ∷ []
  hearers : effect.hearers ≡ Others
  welcomes : effect.own ≡ map (line_of hub) hub.users ++ line_by hub own fields ∷ cond (has_feature ucmd own.sender.features) (map menu_line hub.setup.menu) []

abbrev IsWelcome : HubView → SenderView → Effect → Type 0
IsWelcome hub own effect = stage_after effect.change own.stage ≡ stages.Normal → (own.stage ≡ stages.Normal) ⊎ Welcomes hub own effect (fields_after effect.change own.fields)

module _ {hub : HubView} {own : SenderView} {line : PreparedLine} {now : ℕ} where
  welcome-outcome : {said : Option Reading} {request : Request} {effect : Effect} → Outcome hub own line now said request effect → IsWelcome hub own effect
  unfolding listed_user
  welcome-outcome (shuts_out deny) here = absurd (gone-normal here)
  welcome-outcome (greets reading features at applies) here = absurd (identify-normal here)
  welcome-outcome (waits reading u logs account) here = absurd (verify-normal here)
  welcome-outcome (lets_in reading u logs account) here = inr (record { others = refl; hearers = refl; welcomes = refl })
  welcome-outcome (proves reading at asks none) here = inr (record { others = refl; hearers = refl; welcomes = refl })
  welcome-outcome _ here = inl here

-- ---- the call that brings a user in

entered : (hub : HubView) (own : SenderView) (effect : Effect) (fields : List Field) → (own.stage ≡ stages.Normal → ⊥) → (own.stage ≡ stages.Normal) ⊎ Welcomes hub own effect fields
    → Welcomes hub own effect fields
entered hub own effect fields absent either = grind arith

-- what is so of the line that brought a user in
record Brings (setup : Configured) (hash : List ℕ → List ℕ) (h : List Entry) (e : Entry) (c : ℕ) : Type 0 where
  bytes : List ℕ
  now : ℕ
  call : e.call ≡ Line c bytes now
  welcomes : Welcomes (sight_of setup (facts setup hash h)) (own_of ((facts setup hash h).about c)) (effect_of_line setup hash (facts setup hash h) c bytes now) ((facts setup hash (e
      ∷ h)).about c).fields
  same_sid : ((facts setup hash (e ∷ h)).about c).sender.sid ≡ ((facts setup hash h).about c).sender.sid

record BringsBy (setup : Configured) (hash : List ℕ → List ℕ) (f g : Facts) (c : ℕ) (bytes : List ℕ) (now : ℕ) : Type 0 where
  welcomes : Welcomes (sight_of setup f) (own_of (f.about c)) (effect_of_line setup hash f c bytes now) (g.about c).fields
  same_sid : (g.about c).sender.sid ≡ (f.about c).sender.sid

brings-by : (setup : Configured) (hash : List ℕ → List ℕ) (f : Facts) (caller c : ℕ) (bytes : List ℕ) (now : ℕ) → ((f.about c).stage ≡ stages.Normal → ⊥)
    → ((after setup hash f caller (Line c bytes now)).about c).stage ≡ stages.Normal → BringsBy setup hash f (after setup hash f caller (Line c bytes now)) c bytes now
unfolding after happens
brings-by setup hash f caller c bytes now absent here =
    let effect : Effect = effect_of_line setup hash f c bytes now in
    let now_here = ap (λ (g : Facts). (g.about c).stage) (sym (happens-parts c effect f)) ∙ here in
    let moved = moves-to (removed_by effect (f.about c)) (c == c) effect.change (f.about c).stage stages.Normal gone-normal absent now_here in
    let fields : (about_parts c effect f.about c).fields ≡ fields_after effect.change (f.about c).fields =
    ap (λ b. cond b (fields_after effect.change (f.about c).fields) (f.about c).fields) (eq-eqb c c refl) in
    subst (λ g. BringsBy setup hash f g c bytes now) (sym (happens-parts c effect f)) (record {
      welcomes = subst (Welcomes (sight_of setup f) (own_of (f.about c)) effect) (sym fields)
          (entered (sight_of setup f) (own_of (f.about c)) effect (fields_after effect.change (f.about c).fields) absent
          (welcome-outcome (line-outcome setup hash f c bytes now) moved.moves));
      same_sid = refl;
    })

brings : (setup : Configured) (hash : List ℕ → List ℕ) (h : List Entry) (e : Entry) (c : ℕ) → (((facts setup hash h).about c).stage ≡ stages.Normal → ⊥)
    → ((facts setup hash (e ∷ h)).about c).stage ≡ stages.Normal → Brings setup hash h e c
unfolding facts
brings setup hash h e c absent here =
    let f : Facts = facts setup hash h in
    let line = nobody_banned_enters setup hash h e c absent here in
    let by : BringsBy setup hash f (after setup hash f e.caller e.call) c line.0 line.1 =
    subst (λ call. BringsBy setup hash f (after setup hash f e.caller call) c line.0 line.1) (sym line.2)
    (brings-by setup hash f e.caller c line.0 line.1 absent (subst (λ call. ((after setup hash f e.caller call).about c).stage ≡ stages.Normal) line.2 here)) in
    record { bytes = line.0; now = line.1; call = line.2; welcomes = by.welcomes; same_sid = by.same_sid }

-- ---- who is owed it

other-caller : (f : Facts) (c d : ℕ) (same : Bool) → (d == c) ≡ same → ((f.about c).stage ≡ stages.Normal → ⊥) → (f.about d).stage ≡ stages.Normal → same ≡ false
other-caller f c d same is absent here = grind arith

pub hears-one : (is_caller : Bool) (effect : Effect) (a : ConnState) (line : List ℕ) → effect.others ≡ line ∷ [] → effect.hearers ≡ Others → is_caller ≡ false → a.stage ≡ stages.Normal
    → owes is_caller effect a ≡ line ∷ []
hears-one is_caller effect a line others hearers other here = grind arith

hears-own : (is_caller : Bool) (effect : Effect) (a : ConnState) → effect.hearers ≡ Others → is_caller ≡ true → owes is_caller effect a ≡ effect.own
hears-own is_caller effect a hearers is = grind arith

pub entries_are_heard : EntriesAreHeard
entries_are_heard setup hash h e c d absent here there =
    let f : Facts = facts setup hash h in
    let by = brings setup hash h e c absent here in
    ap (share setup hash f d) by.call
    ∙ hears-one (d == c) (effect_of_line setup hash f c by.bytes by.now) (f.about d) _ by.welcomes.others by.welcomes.hearers
    (other-caller f c d (d == c) refl absent there) there
    ∙ ap (λ s. user_line s ((facts setup hash (e ∷ h)).about c).fields (account_with (key_in ((facts setup hash (e ∷ h)).about c).fields) setup.accounts) ∷ []) (sym by.same_sid)

lines-of : (setup : Configured) (f : Facts) (present : List ℕ)
    → map (line_of (sight_of setup f)) (map (user_of f.about) present)
    ≡ map (λ c. user_line (f.about c).sender.sid (f.about c).fields (account_with (key_in (f.about c).fields) setup.accounts)) present
unfolding listed_user
lines-of setup f [] = refl
lines-of setup f (c ∷ present) = ap (λ ls. user_line (f.about c).sender.sid (f.about c).fields (account_with (key_in (f.about c).fields) setup.accounts) ∷ ls) (lines-of setup f present)

pub entrants_are_welcomed : EntrantsAreWelcomed
entrants_are_welcomed setup hash h e c absent here =
    let f : Facts = facts setup hash h in
    let by = brings setup hash h e c absent here in
    ap (share setup hash f c) by.call
    ∙ hears-own (c == c) (effect_of_line setup hash f c by.bytes by.now) (f.about c) by.welcomes.hearers (eq-eqb c c refl)
    ∙ by.welcomes.welcomes
    ∙ ap₂ (λ first s. first ++ user_line s ((facts setup hash (e ∷ h)).about c).fields (account_with (key_in ((facts setup hash (e ∷ h)).about c).fields) setup.accounts)
    ∷ cond (has_feature ucmd (f.about c).sender.features) (map menu_line setup.menu) []) (lines-of setup f f.present) (sym by.same_sid)
