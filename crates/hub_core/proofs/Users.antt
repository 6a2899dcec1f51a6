-- The list of present users after an effect.
use Rattle.hub_invariants.proofs.CallCases.{about_parts, present_parts}
use Rattle.std.proofs.Common.{◌≡◌, ◌∙◌, sym, ap, ap₂, refl, ℕ, Bool, true, false, cond, not, ◌&&◌, ◌||◌, ◌==◌, eqb, List, [], ◌∷◌, ◌++◌, map, filter, append-nil, Option}
use Rattle.std.proofs.lemmas.Bool.{false≢true, eqb-true, eq-eqb}
use Rattle.std.proofs.lemmas.List.{map-append}
use Rattle.inf_fields.specs.Field.{Field}
use Rattle.login_state.specs.declared.stage.Stage.{Stage}
use Rattle.user_table.specs.Changes.{given_key}
use Rattle.user_table.specs.Listed.{Listed}
use Rattle.user_table.specs.Tables.{has_sid, updated_user, updated_if, with_update, without_sid}
use Rattle.hub_core.specs.Phases.{users_awaited, phase_at, phase_of}
use Rattle.hub_core.specs.State.{users_after}
use Rattle.hub_rules.specs.declared.effect.Change.{Change}
use Rattle.hub_rules.specs.declared.effect.Change.TheVariants.{Hub, Nothing, Sender}
use Rattle.hub_rules.specs.declared.effect.Effect.{Effect}
use Rattle.hub_rules.specs.declared.effect.Entrant.{Entrant}
use Rattle.hub_rules.specs.declared.effect.HubChange.TheVariants as shared
use Rattle.hub_rules.specs.declared.effect.SenderChange.{SenderChange}
use Rattle.hub_rules.specs.declared.sender.SeatChange.{SeatChange}
use Rattle.hub_rules.specs.declared.effect.SenderChange.TheVariants as senders
use Rattle.hub_rules.specs.Configured.{Configured}
use Rattle.hub_rules.specs.Effects.{is_present}
use Rattle.hub_rules.specs.Facts.{Facts, enters, own_of, user_of}
use Rattle.hub_rules.specs.Identities.{listed_user}
use Rattle.hub_rules.specs.Senders.{is_removal}
use Rattle.hub_rules.specs.Shares.{ConnState}
use Rattle.hub_invariants.specs.Afterwards.{fields_after, is_removed, removed_by, stage_after}
use Rattle.hub_invariants.proofs.Kept.{differs-sid}
use Rattle.hub_invariants.proofs.Members.{and-false, has}
use Rattle.hub_invariants.proofs.Sids.{Numbered}
use Rattle.hub_invariants.proofs.Sound.{Sound, not-over, or-true, stage_next}
use Rattle.hub_invariants.proofs.Suits.{Suited, Suits, listed-sid}
use Rattle.hub_core.proofs.OpenSeats.{not-self}

-- ---- lists of connections

abbrev Users : Type 0
Users = List Listed

keep-one : (p : ℕ → Bool) (f g : ℕ → Listed) (d : ℕ) (xs : List ℕ) (keep : Bool) → p d ≡ keep → keep ≡ true → f d ≡ g d
    → map f (filter p xs) ≡ map g xs → map f (cond (p d) (d ∷ filter p xs) (filter p xs)) ≡ g d ∷ map g xs
keep-one p f g d xs true is kept same rest =
    ap (λ b. map f (cond b (d ∷ filter p xs) (filter p xs))) is ∙ ap₂ (λ (u : Listed) (us : List Listed). u ∷ us) same rest
keep-one p f g d xs false is kept same rest = absurd (false≢true kept)

-- where all pass the test, each becomes what it becomes
keep-all : (p : ℕ → Bool) (f g : ℕ → Listed) (xs : List ℕ) → ((d : ℕ) → has d xs ≡ true → (p d ≡ true) × (f d ≡ g d)) → map f (filter p xs) ≡ map g xs
keep-all p f g [] each = refl
keep-all p f g (d ∷ xs) each =
    let here = each d (ap (λ b. b || has d xs) (eq-eqb d d refl)) in
    keep-one p f g d xs (p d) refl here.0 here.1 (keep-all p f g xs (λ x there. each x (ap (λ b. (d == x) || b) there ∙ or-true (d == x))))

drop-one : (sid : ℕ) (p : ℕ → Bool) (f g : ℕ → Listed) (d : ℕ) (xs : List ℕ) (keep : Bool) → p d ≡ keep → not (has_sid sid (g d)) ≡ keep → (keep ≡ true → f d ≡ g d)
    → map f (filter p xs) ≡ without_sid sid (map g xs)
    → map f (cond (p d) (d ∷ filter p xs) (filter p xs)) ≡ without_sid sid (g d ∷ map g xs)
drop-one sid p f g d xs true is other same rest =
    ap (λ b. map f (cond b (d ∷ filter p xs) (filter p xs))) is ∙ ap₂ (λ (u : Listed) (us : List Listed). u ∷ us) (same refl) rest
    ∙ ap (λ b. cond b (g d ∷ without_sid sid (map g xs)) (without_sid sid (map g xs))) (sym other)
drop-one sid p f g d xs false is other same rest =
    ap (λ b. map f (cond b (d ∷ filter p xs) (filter p xs))) is ∙ rest
    ∙ ap (λ b. cond b (g d ∷ without_sid sid (map g xs)) (without_sid sid (map g xs))) (sym other)

-- where those with a session identifier fail the test, they are left out
drop-some : (sid : ℕ) (p : ℕ → Bool) (f g : ℕ → Listed) (xs : List ℕ)
    → ((d : ℕ) → has d xs ≡ true → (p d ≡ not (has_sid sid (g d))) × (p d ≡ true → f d ≡ g d)) → map f (filter p xs) ≡ without_sid sid (map g xs)
drop-some sid p f g [] each = refl
drop-some sid p f g (d ∷ xs) each =
    let here = each d (ap (λ b. b || has d xs) (eq-eqb d d refl)) in
    drop-one sid p f g d xs (p d) refl (sym here.0) here.1 (drop-some sid p f g xs (λ x there. each x (ap (λ b. (d == x) || b) there ∙ or-true (d == x))))

map-users : (f : Listed → Listed) (g : ℕ → Listed) (xs : List ℕ) → map f (map g xs) ≡ map (λ d. f (g d)) xs
map-users f g [] = refl
map-users f g (d ∷ xs) = ap (λ (us : List Listed). f (g d) ∷ us) (map-users f g xs)

chosen-same : {A : Type 0} (b : Bool) (x y : A) → x ≡ y → cond b x y ≡ y
chosen-same true x y same = same
chosen-same false x y same = refl

-- ---- one user

module _ (setup : Configured) (f : Facts) (c : ℕ) (effect : Effect) where
  abbrev next : ℕ → ConnState
  next d = about_parts c effect f.about d

  abbrev stays : ℕ → Bool
  stays d = is_present (next d).stage

  user-other : (d : ℕ) → (d == c) ≡ false → user_of next d ≡ user_of f.about d
  user-other d other = ap (λ b. listed_user (f.about d).sender.sid (cond b (fields_after effect.change (f.about d).fields) (f.about d).fields)) other

  user-kept : (d : ℕ) → fields_after effect.change (f.about d).fields ≡ (f.about d).fields → user_of next d ≡ user_of f.about d
  user-kept d kept = ap (listed_user (f.about d).sender.sid) (chosen-same (d == c) (fields_after effect.change (f.about d).fields) (f.about d).fields kept)

  user-self : user_of next c ≡ listed_user (f.about c).sender.sid (fields_after effect.change (f.about c).fields)
  user-self = ap (λ b. listed_user (f.about c).sender.sid (cond b (fields_after effect.change (f.about c).fields) (f.about c).fields)) (eq-eqb c c refl)

  abbrev Quiet : Type 0
  Quiet = (sid : ℕ) → is_removed effect.change sid ≡ false

  removed-none : Quiet → (d : ℕ) → removed_by effect (f.about d) ≡ false
  removed-none quiet d = ap (λ b. is_present (f.about d).stage && b) (quiet (f.about d).sender.sid) ∙ and-false (is_present (f.about d).stage)

  -- where the change is of no stage, all who are present stay
  stays-kept : Quiet → ((s : Stage) → stage_after effect.change s ≡ s) → (d : ℕ) → is_present (f.about d).stage ≡ true → stays d ≡ true
  stays-kept quiet same d here =
      ap (λ r. is_present (stage_next r (d == c) effect.change (f.about d).stage)) (removed-none quiet d)
      ∙ ap is_present (chosen-same (d == c) (stage_after effect.change (f.about d).stage) (f.about d).stage (same (f.about d).stage)) ∙ here

  -- where nobody is shut out, the others who are present stay
  stays-other : Quiet → (d : ℕ) → is_present (f.about d).stage ≡ true → (d == c) ≡ false → stays d ≡ true
  stays-other quiet d here other = ap₂ (λ r b. is_present (stage_next r b effect.change (f.about d).stage)) (removed-none quiet d) other ∙ here

  stays-self : Quiet → (d : ℕ) → (d == c) ≡ true → stays d ≡ is_present (stage_after effect.change (f.about d).stage)
  stays-self quiet d is = ap₂ (λ r b. is_present (stage_next r b effect.change (f.about d).stage)) (removed-none quiet d) is

  -- ---- where the connection that sent the line is not present

  absent-other : (d : ℕ) → is_present (f.about c).stage ≡ false → is_present (f.about d).stage ≡ true → (same : Bool) → (d == c) ≡ same → same ≡ false
  absent-other d away here true is = absurd (false≢true (sym away ∙ ap (λ x. is_present (f.about x).stage) (sym (eqb-true d c is)) ∙ here))
  absent-other d away here false is = refl

  all-stay : Quiet → ((d : ℕ) → has d f.present ≡ is_present (f.about d).stage) → is_present (f.about c).stage ≡ false
      → map (user_of next) (filter stays f.present) ≡ map (user_of f.about) f.present
  all-stay quiet entered away =
      keep-all stays (user_of next) (user_of f.about) f.present
      (λ d there. let other = absent-other d away (sym (entered d) ∙ there) (d == c) refl in
      (stays-other quiet d (sym (entered d) ∙ there) other, user-other d other))

  -- ---- where it stays what it is

  all-kept : Quiet → ((d : ℕ) → has d f.present ≡ is_present (f.about d).stage) → ((s : Stage) → stage_after effect.change s ≡ s)
      → ((fields : List Field) → fields_after effect.change fields ≡ fields)
      → map (user_of next) (filter stays f.present) ≡ map (user_of f.about) f.present
  all-kept quiet entered stages fields =
      keep-all stays (user_of next) (user_of f.about) f.present
      (λ d there. (stays-kept quiet stages d (sym (entered d) ∙ there), user-kept d (fields (f.about d).fields)))

  -- ---- session identifiers tell users apart

  own-sid : (sid : ℕ) (d : ℕ) → has_sid sid (user_of f.about d) ≡ eqb (f.about d).sender.sid sid
  own-sid sid d = ap (λ s. eqb s sid) (listed-sid (f.about d).sender.sid (f.about d).fields)

  tells-by : Sound f → Numbered setup f → has c f.opened ≡ true → (d : ℕ) → has d f.opened ≡ true → (same : Bool) → (d == c) ≡ same → eqb (f.about d).sender.sid (f.about c).sender.sid ≡ same
  tells-by sound n open_c d open_d true is = eq-eqb (f.about d).sender.sid (f.about c).sender.sid (ap (λ x. (f.about x).sender.sid) (eqb-true d c is))
  tells-by sound n open_c d open_d false is =
      differs-sid setup f sound n c d open_c open_d (not-self d c is) (eqb (f.about d).sender.sid (f.about c).sender.sid) refl

  tells : Sound f → Numbered setup f → has c f.opened ≡ true → (d : ℕ) → is_present (f.about d).stage ≡ true → has_sid (f.about c).sender.sid (user_of f.about d) ≡ (d == c)
  tells sound n open_c d here =
      own-sid (f.about c).sender.sid d ∙ tells-by sound n open_c d (sound.are_open d (not-over (f.about d).stage here)) (d == c) refl

  -- ---- an update

  update-one : (update : List Field) (key : Option (List ℕ)) → listed_user (f.about c).sender.sid (fields_after effect.change (f.about c).fields) ≡ updated_user update key (user_of f.about c)
      → (d : ℕ) (same : Bool) → (d == c) ≡ same → user_of next d ≡ updated_if same update key (user_of f.about d)
  update-one update key is d true same =
      let e : d ≡ c = eqb-true d c same in
      ap (user_of next) e ∙ user-self ∙ is ∙ ap (λ x. updated_user update key (user_of f.about x)) (sym e)
  update-one update key is d false same = user-other d same

  all-updated : Sound f → Numbered setup f → has c f.opened ≡ true → Quiet → ((s : Stage) → stage_after effect.change s ≡ s)
      → (update : List Field) (key : Option (List ℕ)) → listed_user (f.about c).sender.sid (fields_after effect.change (f.about c).fields) ≡ updated_user update key (user_of f.about c)
      → map (user_of next) (filter stays f.present) ≡ with_update (f.about c).sender.sid update key (map (user_of f.about) f.present)
  all-updated sound n open_c quiet stages update key is =
      keep-all stays (user_of next) (λ d. updated_if (has_sid (f.about c).sender.sid (user_of f.about d)) update key (user_of f.about d)) f.present
      (λ d there. let here = sym (sound.entered d) ∙ there in (
        stays-kept quiet stages d here,
        update-one update key is d (d == c) refl ∙ ap (λ b. updated_if b update key (user_of f.about d)) (sym (tells sound n open_c d here)),
      ))
      ∙ sym (map-users (λ user. updated_if (has_sid (f.about c).sender.sid user) update key user) (user_of f.about) f.present)

  -- ---- a fall

  falls-one : Quiet → effect.change ≡ Sender senders.Falls → (d : ℕ) → is_present (f.about d).stage ≡ true → (same : Bool) → (d == c) ≡ same → stays d ≡ not same
  falls-one quiet falls d here true same = stays-self quiet d same ∙ ap (λ t. is_present (stage_after t (f.about d).stage)) falls
  falls-one quiet falls d here false same = stays-other quiet d here same

  fall-user : Quiet → effect.change ≡ Sender senders.Falls → (d : ℕ) → user_of next d ≡ user_of f.about d
  fall-user quiet falls d = user-kept d (ap (λ t. fields_after t (f.about d).fields) falls)

  all-fall : Sound f → Numbered setup f → has c f.opened ≡ true → Quiet → effect.change ≡ Sender senders.Falls
      → map (user_of next) (filter stays f.present) ≡ without_sid (f.about c).sender.sid (map (user_of f.about) f.present)
  all-fall sound n open_c quiet falls =
      drop-some (f.about c).sender.sid stays (user_of next) (user_of f.about) f.present
      (λ d there. let here = sym (sound.entered d) ∙ there in (
        falls-one quiet falls d here (d == c) refl ∙ ap not (sym (tells sound n open_c d here)),
        λ stay. fall-user quiet falls d,
      ))

  -- ---- an operator shuts a user out

  gone-or : (target : ℕ) → ((s : Stage) → stage_after effect.change s ≡ s) → (d : ℕ) → is_present (f.about d).stage ≡ true → (gone : Bool) → is_present (stage_next gone (d == c) effect.change (f.about d).stage) ≡ not gone
  gone-or target same d here true = refl
  gone-or target same d here false = ap is_present (chosen-same (d == c) (stage_after effect.change (f.about d).stage) (f.about d).stage (same (f.about d).stage)) ∙ here

  all-removed : ((d : ℕ) → has d f.present ≡ is_present (f.about d).stage) → (target : ℕ) → ((sid : ℕ) → is_removed effect.change sid ≡ eqb sid target)
      → ((s : Stage) → stage_after effect.change s ≡ s) → ((fields : List Field) → fields_after effect.change fields ≡ fields)
      → map (user_of next) (filter stays f.present) ≡ without_sid target (map (user_of f.about) f.present)
  all-removed entered target removed stages fields =
      drop-some target stays (user_of next) (user_of f.about) f.present
      (λ d there. let here = sym (entered d) ∙ there in (
        ap₂ (λ p r. is_present (stage_next (p && r) (d == c) effect.change (f.about d).stage)) here (removed (f.about d).sender.sid)
            ∙ gone-or target stages d here (eqb (f.about d).sender.sid target) ∙ ap not (sym (own-sid target d)),
        λ stayed. user-kept d (fields (f.about d).fields),
      ))

  -- ---- all changes

  abbrev Done : Change → Type 0
  Done change = users_after change (f.about c).sender.sid (phase_of (f.about c)) (map (user_of f.about) f.present)
      ≡ map (user_of next) (filter stays f.present) ++ map (user_of next) (cond (enters change) (c ∷ []) [])

  nobody-new : (users : List Listed) → users ≡ users ++ []
  nobody-new users = sym (append-nil users)

  -- a change after which all are present who were, as they were
  done-kept : Sound f → (change : Change) → effect.change ≡ change → ((sid : ℕ) → is_removed change sid ≡ false) → ((s : Stage) → stage_after change s ≡ s) → ((fields : List Field) → fields_after change fields ≡ fields)
      → map (user_of f.about) f.present ≡ map (user_of next) (filter stays f.present) ++ []
  done-kept sound change is quiet stages fields =
      sym (all-kept (λ sid. ap (λ t. is_removed t sid) is ∙ quiet sid) sound.entered (λ s. ap (λ t. stage_after t s) is ∙ stages s) (λ fs. ap (λ t. fields_after t fs) is ∙ fields fs))
      ∙ nobody-new _

  done-removed : Sound f → (change : Change) → effect.change ≡ change → (target : ℕ) → ((sid : ℕ) → is_removed change sid ≡ eqb sid target)
      → ((s : Stage) → stage_after change s ≡ s) → ((fields : List Field) → fields_after change fields ≡ fields)
      → without_sid target (map (user_of f.about) f.present) ≡ map (user_of next) (filter stays f.present) ++ []
  done-removed sound change is target removed stages fields =
      sym (all-removed sound.entered target (λ sid. ap (λ t. is_removed t sid) is ∙ removed sid) (λ s. ap (λ t. stage_after t s) is ∙ stages s) (λ fs. ap (λ t. fields_after t fs) is ∙ fields fs))
      ∙ nobody-new _

  by-sender : Sound f → Numbered setup f → has c f.opened ≡ true → Quiet → (change : SenderChange) → effect.change ≡ Sender change → Suited (own_of (f.about c)) (Sender change) → Done (Sender change)
  by-sender sound n open_c quiet (senders.Greets features) is suited = sym (all-stay quiet sound.entered (ap is_present suited)) ∙ nobody-new _
  by-sender sound n open_c quiet (senders.Waits newcomer expected) is suited = sym (all-stay quiet sound.entered (ap is_present suited.0)) ∙ nobody-new _
  by-sender sound n open_c quiet senders.Enters is suited =
      ap₂ ◌++◌ (sym (all-stay quiet sound.entered (ap is_present suited)))
      (ap (λ s. users_awaited (phase_at s (f.about c))) suited
      ∙ ap (λ (u : Listed). u ∷ []) (sym (user-self ∙ ap (λ t. listed_user (f.about c).sender.sid (fields_after t (f.about c).fields)) is)))
  by-sender sound n open_c quiet (senders.EntersAs newcomer) is suited =
      ap₂ ◌++◌ (sym (all-stay quiet sound.entered (ap is_present suited.0)))
      (ap (λ (e : Entrant). e.user ∷ []) suited.1
      ∙ ap (λ (u : Listed). u ∷ []) (sym (user-self ∙ ap (λ t. listed_user (f.about c).sender.sid (fields_after t (f.about c).fields)) is)))
  by-sender sound n open_c quiet (senders.Learns features) is suited = done-kept sound (Sender (senders.Learns features)) is (λ sid. refl) (λ s. refl) (λ fs. refl)
  by-sender sound n open_c quiet (senders.Updates revision) is suited =
      sym (all-updated sound n open_c quiet (λ s. ap (λ t. stage_after t s) is) revision.update (given_key revision.nick)
      (ap (λ t. listed_user (f.about c).sender.sid (fields_after t (f.about c).fields)) is ∙ suited.2)) ∙ nobody-new _
  by-sender sound n open_c quiet (senders.Searches now) is suited = done-kept sound (Sender (senders.Searches now)) is (λ sid. refl) (λ s. refl) (λ fs. refl)
  by-sender sound n open_c quiet senders.Falls is suited = sym (all-fall sound n open_c quiet is) ∙ nobody-new _

  -- an operator changes a user's connection, and shuts it out or not
  done-at : Sound f → (target : ℕ) (change : SeatChange) → effect.change ≡ Hub (shared.At target change) → (removal : Bool) → is_removal change ≡ removal
      → cond removal (without_sid target (map (user_of f.about) f.present)) (map (user_of f.about) f.present) ≡ map (user_of next) (filter stays f.present) ++ []
  done-at sound target change is true removal = done-removed sound (Hub (shared.At target change)) is target (λ sid. ap (λ b. b && eqb sid target) removal) (λ s. refl) (λ fs. refl)
  done-at sound target change is false removal = done-kept sound (Hub (shared.At target change)) is (λ sid. ap (λ b. b && eqb sid target) removal) (λ s. refl) (λ fs. refl)

  by-change : Sound f → Numbered setup f → has c f.opened ≡ true → (change : Change) → effect.change ≡ change → Suited (own_of (f.about c)) change → Done change
  by-change sound n open_c Nothing is suited = done-kept sound Nothing is (λ sid. refl) (λ s. refl) (λ fs. refl)
  by-change sound n open_c (Sender change) is suited = by-sender sound n open_c (λ sid. ap (λ t. is_removed t sid) is) change is suited
  by-change sound n open_c (Hub (shared.At target change)) is suited = done-at sound target change is (is_removal change) refl
  by-change sound n open_c (Hub (shared.Ban banned)) is suited = done-removed sound (Hub (shared.Ban banned)) is banned.sid (λ sid. refl) (λ s. refl) (λ fs. refl)
  by-change sound n open_c (Hub (shared.Unban cid)) is suited = done-kept sound (Hub (shared.Unban cid)) is (λ sid. refl) (λ s. refl) (λ fs. refl)
  by-change sound n open_c (Hub (shared.Topic text)) is suited = done-kept sound (Hub (shared.Topic text)) is (λ sid. refl) (λ s. refl) (λ fs. refl)

  pub users-carried : Sound f → Numbered setup f → has c f.opened ≡ true → Suits (own_of (f.about c)) effect
      → users_after effect.change (f.about c).sender.sid (phase_of (f.about c)) (map (user_of f.about) f.present)
      ≡ map (user_of next) (present_parts c effect f.about f.present)
  users-carried sound n open_c suits =
      by-change sound n open_c effect.change refl suits.change
      ∙ sym (map-append (user_of next) (filter stays f.present) (cond (enters effect.change) (c ∷ []) []))
