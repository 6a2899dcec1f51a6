-- A decision that is carried out: a hub that stands at a history then stands at the next.
use Rattle.hub_invariants.proofs.CallCases.{about_parts, happens-parts}
use Rattle.std.specs.List.{find}
use Rattle.std.proofs.Common.{◌≡◌, ◌∙◌, sym, ap, ap₂, refl, subst, ℕ, Bool, true, false, ◌||◌, ◌==◌, eqb, List, [], ◌∷◌, map, length, get_or, slice_set, Option, Some}
use Rattle.std.specs.Prelude.{if◌then◌else◌}
use Rattle.std.proofs.lemmas.Bool.{false≢true, eqb-true, eq-eqb}
use Rattle.inf_fields.specs.Field.{Field}
use Rattle.login_state.specs.declared.stage.Stage.{Stage}
use Rattle.login_state.specs.declared.stage.Stage.TheVariants as stages
use Rattle.operator_acts.specs.declared.ban.Ban.{Ban}
use Rattle.user_table.specs.Listed.{Listed}
use Rattle.user_table.specs.Tables.{has_sid, user_by_sid}
use Rattle.hub_core.specs.declared.seat.Phase.TheVariants as phases
use Rattle.hub_core.specs.declared.seat.Seat.{Seat}
use Rattle.hub_core.specs.declared.share.Touched.{Touched}
use Rattle.hub_core.specs.CoreState.{CoreState}
use Rattle.hub_core.specs.Decided.{Decided, DecidedFor, sight_in, user_at}
use Rattle.hub_core.specs.Phases.{phase_at}
use Rattle.hub_core.specs.Seats.{at_seat, changed_seat, seat_after_change_at, seat_of, seat_share}
use Rattle.hub_core.specs.Backlogs.{given_backlog, given_each}
use Rattle.outboxes.specs.Backlogs.{Backlog}
use Rattle.hub_core.specs.State.{carried_out, core_of, users_after}
use Rattle.hub_rules.specs.declared.effect.Effect.{Effect}
use Rattle.hub_rules.specs.Configured.{Configured}
use Rattle.adc_line.specs.Lines as lines
use Rattle.hub_rules.specs.Effects.{entrant, effect_of_reading, is_over, is_present, line_effect}
use Rattle.hub_rules.specs.Facts.{Facts, bans_after, happens, own_of, sight_of, topic_after, user_of}
use Rattle.hub_rules.specs.Identities.{listed_user}
use Rattle.hub_rules.specs.Quiet.{nothing}
use Rattle.hub_rules.specs.Shares.{ConnState, change_at}
use Rattle.hub_rules.specs.Views.{SenderView, PreparedLine, HubView}
use Rattle.hub_invariants.proofs.Kept.{differs-sid}
use Rattle.hub_invariants.proofs.Members.{has}
use Rattle.hub_invariants.proofs.Sids.{Numbered}
use Rattle.hub_invariants.proofs.Sound.{Sound, not-over, or-true}
use Rattle.hub_invariants.proofs.Suits.{Suits, listed-sid}
use Rattle.hub_invariants.proofs.Tidy.{Tidy, is_unasked, is_unnamed}
use Rattle.hub_core.proofs.OpenSeats.{at-one, backlog_at, each-given, each-same, in-open, map-seats, not-self, seat_one}
use Rattle.hub_core.proofs.Places.{StandsFirst, phase-at, set-read, sid-at}
use Rattle.hub_core.proofs.SeatShares.{backlog-by, seat-by, share-same}
use Rattle.hub_core.proofs.Users.{users-carried}

-- ---- one equation for a hub

pub same-core : (setup : Configured) (joins last : ℕ) {s t : List Seat} {os ps : List Backlog} {us vs : List Listed} {bans : List (List ℕ × Ban)} {topic : List ℕ} {touched : Touched} → s ≡ t → os ≡ ps → us ≡ vs
    → ◌≡◌ {A = CoreState} (record { setup = setup; joins = joins; last = last; seats = s; backlogs = os; users = us; bans = bans; topic = topic; touched = touched })
    (record { setup = setup; joins = joins; last = last; seats = t; backlogs = ps; users = vs; bans = bans; topic = topic; touched = touched })
same-core setup joins last {s} {t} {os} {ps} {us} {vs} {bans} {topic} {touched} seats backlogs users =
    ap₂ (λ (x : List Seat) (y : List Listed). record { setup = setup; joins = joins; last = last; seats = x; backlogs = os; users = y; bans = bans; topic = topic; touched = touched }) seats users
    ∙ ap (λ (x : List Backlog). record { setup = setup; joins = joins; last = last; seats = t; backlogs = x; users = vs; bans = bans; topic = topic; touched = touched }) backlogs

seats-carried : (c : ℕ) (effect : Effect) (f : Facts) → Sound f → Suits (own_of (f.about c)) effect
    → map (seat_after_change_at (change_at effect.change)) (at_seat c (changed_seat effect.change) (map (seat_of f.about) f.opened)) ≡ map (seat_of (about_parts c effect f.about)) f.opened
seats-carried c effect f sound suits =
    ap (map (seat_after_change_at (change_at effect.change))) (at-one c (changed_seat effect.change) f.about f.opened sound.open_once)
    ∙ map-seats (seat_after_change_at (change_at effect.change)) (seat_one c (changed_seat effect.change) f.about) f.opened
    ∙ each-same _ (seat_of (about_parts c effect f.about)) f.opened
    (λ d. seat-by (d == c) effect d (f.about d) (λ is. subst (λ x. Suits (own_of (f.about x)) effect) (sym (eqb-true d c is)) suits))

backlogs-carried : (c : ℕ) (effect : Effect) (f : Facts) → Sound f → ((d : ℕ) → Tidy (f.about d)) → Suits (own_of (f.about c)) effect
    → given_each (map (seat_share c effect) (map (seat_of f.about) f.opened)) (map (backlog_at f.about) f.opened) ≡ map (backlog_at (about_parts c effect f.about)) f.opened
backlogs-carried c effect f sound tidy suits =
    ap (λ ss. given_each ss (map (backlog_at f.about) f.opened)) (map-seats (seat_share c effect) (seat_of f.about) f.opened)
    ∙ each-given (λ d. seat_share c effect (seat_of f.about d)) (backlog_at f.about) f.opened
    ∙ each-same _ (backlog_at (about_parts c effect f.about)) f.opened
    (λ d. ap (λ ls. given_backlog ls (backlog_at f.about d)) (share-same c d effect (f.about d) suits.routed)
    ∙ backlog-by (d == c) effect (f.about d) (sound.taken d) (tidy d).lines (tidy d).bytes)

pub carried-out : (setup : Configured) (c : ℕ) (effect : Effect) (f : Facts) → Sound f → Numbered setup f → ((d : ℕ) → Tidy (f.about d)) → has c f.opened ≡ true → Suits (own_of (f.about c)) effect
    → carried_out c effect (core_of setup f) ≡ core_of setup (happens c effect f)
unfolding carried_out
carried-out setup c effect f sound n tidy open_c suits =
    same-core setup f.joins f.last (seats-carried c effect f sound suits) (backlogs-carried c effect f sound tidy suits)
    (ap₂ (λ sid phase. users_after effect.change sid phase (map (user_of f.about) f.present))
    (in-open c (λ seat. seat.sender.sid) 0 f.about f.opened open_c) (in-open c (λ seat. seat.phase) phases.Gone f.about f.opened open_c)
    ∙ users-carried setup f c effect sound n open_c suits)
    ∙ ap (core_of setup) (sym (happens-parts c effect f))

-- ---- the decision

abbrev own_with : ConnState → Stage → List Field → List ℕ → SenderView
own_with a stage fields expected =
    record { sender = a.sender; stage = stage; fields = fields; expected = expected }

own-is : (a : ConnState) (stage : Stage) (fields : List Field) (expected : List ℕ) → a.stage ≡ stage → a.fields ≡ fields → a.expected ≡ expected → own_with a stage fields expected ≡ own_of a
own-is a stage fields expected s fs e =
    ap (λ x. own_with a x fields expected) (sym s) ∙ ap (λ x. own_with a a.stage x expected) (sym fs) ∙ ap (λ x. own_with a a.stage a.fields x) (sym e)

quiet-by : (hub : HubView) (own : SenderView) (line : PreparedLine) (now : ℕ) → is_over own.stage ≡ true → line_effect hub own line now ≡ nothing
unfolding line_effect
quiet-by hub own line now over = ap (λ b. if b then nothing else (if length line.bytes == 0 then nothing else effect_of_reading hub own line now (lines.reading line.bytes))) over

entrant-user : (sid : ℕ) (fields : List Field) → (entrant (listed_user sid fields)).user ≡ listed_user sid (entrant (listed_user sid fields)).user.fields
unfolding listed_user
entrant-user sid fields = refl

entrant-fields : (sid : ℕ) (fields : List Field) → (entrant (listed_user sid fields)).user.fields ≡ fields
unfolding listed_user
entrant-fields sid fields = refl

fields-listed : (sid : ℕ) (fields : List Field) → (listed_user sid fields).fields ≡ fields
unfolding listed_user
fields-listed sid fields = refl

itself-listed : (sid : ℕ) (fields : List Field) → listed_user sid fields ≡ listed_user sid (listed_user sid fields).fields
unfolding listed_user
itself-listed sid fields = refl

-- the user of a connection is found by its session identifier
found-one : (f : Facts) (c d : ℕ) (xs : List ℕ) (same : Bool) → (d == c) ≡ same → has_sid (f.about c).sender.sid (user_of f.about d) ≡ same
    → (same ≡ false → find (has_sid (f.about c).sender.sid) (map (user_of f.about) xs) ≡ Some (user_of f.about c))
    → (if has_sid (f.about c).sender.sid (user_of f.about d) then Some (user_of f.about d) else find (has_sid (f.about c).sender.sid) (map (user_of f.about) xs)) ≡ Some (user_of f.about c)
found-one f c d xs true is tell rest =
    ap (λ b. if b then Some (user_of f.about d) else find (has_sid (f.about c).sender.sid) (map (user_of f.about) xs)) tell ∙ ap (λ x. Some (user_of f.about x)) (eqb-true d c is)
found-one f c d xs false is tell rest =
    ap (λ b. if b then Some (user_of f.about d) else find (has_sid (f.about c).sender.sid) (map (user_of f.about) xs)) tell ∙ rest refl

rest-has : (c d : ℕ) (xs : List ℕ) → (d == c) ≡ false → ((d == c) || has c xs) ≡ true → has c xs ≡ true
rest-has c d xs other there = sym (ap (λ b. b || has c xs) other) ∙ there

found-by : (f : Facts) (c : ℕ) (xs : List ℕ) → ((d : ℕ) → has d xs ≡ true → has_sid (f.about c).sender.sid (user_of f.about d) ≡ (d == c)) → has c xs ≡ true
    → find (has_sid (f.about c).sender.sid) (map (user_of f.about) xs) ≡ Some (user_of f.about c)
found-by f c [] tells there = absurd (false≢true there)
found-by f c (d ∷ xs) tells there =
    found-one f c d xs (d == c) refl (tells d (ap (λ b. b || has d xs) (eq-eqb d d refl)))
    (λ other. found-by f c xs (λ x here. tells x (ap (λ b. (d == x) || b) here ∙ or-true (d == x))) (rest-has c d xs other there))

tells-sid : (setup : Configured) (f : Facts) (c : ℕ) → Sound f → Numbered setup f → has c f.opened ≡ true → (d : ℕ) → has d f.opened ≡ true → (same : Bool) → (d == c) ≡ same
    → eqb (f.about d).sender.sid (f.about c).sender.sid ≡ same
tells-sid setup f c sound n open_c d open_d true is = eq-eqb (f.about d).sender.sid (f.about c).sender.sid (ap (λ x. (f.about x).sender.sid) (eqb-true d c is))
tells-sid setup f c sound n open_c d open_d false is = differs-sid setup f sound n c d open_c open_d (not-self d c is) (eqb (f.about d).sender.sid (f.about c).sender.sid) refl

pub found-user : (setup : Configured) (f : Facts) (c : ℕ) → Sound f → Numbered setup f → has c f.opened ≡ true → is_present (f.about c).stage ≡ true
    → user_by_sid (f.about c).sender.sid (map (user_of f.about) f.present) ≡ Some (user_of f.about c)
found-user setup f c sound n open_c here =
    found-by f c f.present
    (λ d there. ap (λ s. eqb s (f.about c).sender.sid) (listed-sid (f.about d).sender.sid (f.about d).fields)
    ∙ tells-sid setup f c sound n open_c d (sound.are_open d (not-over (f.about d).stage (sym (sound.entered d) ∙ there))) (d == c) refl)
    (sound.entered c ∙ here)

decided-by : (setup : Configured) (f : Facts) (c : ℕ) (line : PreparedLine) (now : ℕ) (effect : Effect) (stage : Stage) → (f.about c).stage ≡ stage
    → Sound f → Numbered setup f → Tidy (f.about c) → has c f.opened ≡ true
    → DecidedFor (user_at (phase_at stage (f.about c)) (f.about c).sender.sid (map (user_of f.about) f.present)) (sight_of setup f) (record (seat_of f.about c) { phase = phase_at stage (f.about c) }) line now effect
    → effect ≡ line_effect (sight_of setup f) (own_of (f.about c)) line now
decided-by setup f c line now effect stages.Protocol is sound n tidy open_c decided =
    decided tt ∙ ap (λ o. line_effect (sight_of setup f) o line now)
    (own-is (f.about c) stages.Protocol [] [] is (tidy.unnamed (ap is_unnamed is)) (tidy.unasked (ap is_unasked is)))
decided-by setup f c line now effect stages.Identify is sound n tidy open_c decided =
    decided refl ∙ ap (λ o. line_effect (sight_of setup f) o line now)
    (own-is (f.about c) stages.Identify [] [] is (tidy.unnamed (ap is_unnamed is)) (tidy.unasked (ap is_unasked is)))
decided-by setup f c line now effect stages.Verify is sound n tidy open_c decided =
    decided (ap Some (entrant-user (f.about c).sender.sid (f.about c).fields))
    ∙ ap (λ o. line_effect (sight_of setup f) o line now)
    (own-is (f.about c) stages.Verify _ (f.about c).expected is (sym (entrant-fields (f.about c).sender.sid (f.about c).fields)) refl)
decided-by setup f c line now effect stages.Normal is sound n tidy open_c decided =
    subst (λ (u : Option Listed). DecidedFor u (sight_of setup f) (record (seat_of f.about c) { phase = phase_at stages.Normal (f.about c) }) line now effect)
    (found-user setup f c sound n open_c (ap is_present is)) decided (ap Some (itself-listed (f.about c).sender.sid (f.about c).fields))
    ∙ ap (λ o. line_effect (sight_of setup f) o line now)
    (own-is (f.about c) stages.Normal _ [] is (sym (fields-listed (f.about c).sender.sid (f.about c).fields)) (tidy.unasked (ap is_unasked is)))
decided-by setup f c line now effect stages.Gone is sound n tidy open_c decided =
    decided tt ∙ quiet-by (sight_of setup f) _ line now refl ∙ sym (quiet-by (sight_of setup f) (own_of (f.about c)) line now (ap is_over is))

-- what was decided at the seat is what the rules say
pub decided-is : (setup : Configured) (f : Facts) (c : ℕ) (line : PreparedLine) (now : ℕ) (effect : Effect) → Sound f → Numbered setup f → Tidy (f.about c) → has c f.opened ≡ true
    → Decided (sight_in (core_of setup f)) (seat_of f.about c) line now effect → effect ≡ line_effect (sight_of setup f) (own_of (f.about c)) line now
decided-is setup f c line now effect sound n tidy open_c decided = decided-by setup f c line now effect (f.about c).stage refl sound n tidy open_c decided

-- what the code makes of a hub, part by part
pub carried-as : (core : CoreState) (c : ℕ) (effect : Effect) (i : ℕ) (seat now : Seat) (seats : List Seat) (backlogs : List Backlog) (users : List Listed) (bans : List (List ℕ × Ban)) (topic : List ℕ)
    → StandsFirst c core.seats i → seat ≡ get_or core.seats i seat → now ≡ changed_seat effect.change seat
    → seats ≡ map (seat_after_change_at (change_at effect.change)) (slice_set core.seats i now)
    → backlogs ≡ given_each (map (seat_share c effect) core.seats) core.backlogs
    → users ≡ users_after effect.change seat.sender.sid seat.phase core.users
    → bans ≡ bans_after effect.change core.bans → topic ≡ topic_after effect.change core.topic
    → record core { seats = seats; backlogs = backlogs; users = users; bans = bans; topic = topic } ≡ carried_out c effect core
unfolding carried_out
carried-as core c effect i seat now seats backlogs users bans topic at is_seat is_now is_seats is_backlogs is_users is_bans is_topic =
    ap₂ (λ (b : List (List ℕ × Ban)) (t : List ℕ). record core { seats = seats; backlogs = backlogs; users = users; bans = b; topic = t }) is_bans is_topic
    ∙ same-core core.setup core.joins core.last
    (is_seats ∙ ap (map (seat_after_change_at (change_at effect.change))) (set-read c (changed_seat effect.change) core.seats i seat now at is_seat is_now))
    is_backlogs
    (is_users ∙ ap₂ (λ sid phase. users_after effect.change sid phase core.users) (sym (sid-at c core.seats i seat at is_seat)) (sym (phase-at c core.seats i seat at is_seat)))
