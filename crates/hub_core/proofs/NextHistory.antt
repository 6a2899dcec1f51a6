-- A hub that stands at a history stands at the next one after each call.
use Rattle.hub_invariants.proofs.CallCases.{about_parts, happens-parts}
use Rattle.hub_invariants.specs.Afterwards.{affected_parts}
use Rattle.std.proofs.Common.{◌≡◌, ◌∙◌, sym, ap, ap₂, refl, subst, ℕ, ◌+◌, ◌<◌, ◌≤◌, Bool, true, false, not, ◌&&◌, ◌||◌, ◌==◌, List, [], ◌∷◌, ◌++◌, length, map, take}
use Rattle.std.specs.Prelude.{nat_le, cond}
use Rattle.std.specs.List.{concat, list_any}
use Rattle.std.proofs.lemmas.Bool.{false≢true, eqb-true, eq-eqb}
use Rattle.std.proofs.lemmas.List.{map-append, length-map}
use Rattle.adc_base32.specs.Turns.{next_free}
use Rattle.outboxes.specs.Backlogs.{Backlog, with_lines}
use Rattle.operator_acts.specs.declared.ban.Ban.{Ban}
use Rattle.outboxes.specs.Quits.{quit_line}
use Rattle.user_table.specs.Listed.{Listed}
use Rattle.user_table.specs.Tables.{totals_of, without_sid}
use Rattle.user_table.specs.declared.totals.Totals.{Totals}
use Rattle.login_state.specs.declared.stage.Stage.{Stage}
use Rattle.login_state.specs.declared.stage.Stage.TheVariants as stages
use Rattle.hub_core.specs.declared.look.Look.{Look}
use Rattle.hub_core.specs.Promises.{CountsJoins, LooksAt, SidOf, SumsUp}
use Rattle.hub_core.specs.declared.seat.Phase.TheVariants as phases
use Rattle.hub_core.specs.declared.seat.Seat.{Seat}
use Rattle.hub_core.specs.declared.share.Touched.{Touched}
use Rattle.hub_core.specs.declared.share.Touched.TheVariants.{Nobody}
use Rattle.hub_core.specs.CoreState.{CoreState, noted}
use Rattle.hub_core.specs.Decided.{Decided, sight_in}
use Rattle.hub_core.specs.Departures.{has_ended, left_core, core_after_take, lines_in, others_of, told_of}
use Rattle.hub_core.specs.Moves.{LineMoves, Moves, StandsAt}
use Rattle.hub_core.specs.Phases.{phase_at, stage_in}
use Rattle.hub_core.specs.Seats.{in_seat, new_seat, phase_in, seat_of, seat_with, sid_in}
use Rattle.hub_core.specs.Backlogs.{backlog_after_take, backlog_in, backlog_of, backlogs_but, ends_by, given_backlog, given_each, no_backlog}
use Rattle.hub_core.specs.State.{HasSeat, IsSeated, Stands, carried_out, core_of}
use Rattle.hub_rules.specs.declared.effect.Effect.{Effect}
use Rattle.hub_rules.specs.declared.history.Call.{Call}
use Rattle.hub_rules.specs.declared.history.Call.TheVariants.{Join, Quit, Take}
use Rattle.hub_rules.specs.declared.history.Entry.{Entry}
use Rattle.hub_rules.specs.declared.history.Reply.{Reply}
use Rattle.hub_rules.specs.declared.history.Reply.TheVariants.{Joined, Full, JoinsSpent, Said, Left, Took}
use Rattle.hub_rules.specs.declared.history.Verdict.{Verdict}
use Rattle.hub_rules.specs.Configured.{most_users, Configured}
use Rattle.hub_rules.specs.Effects.{departure, is_over, is_present, line_effect}
use Rattle.hub_rules.specs.Facts.{Facts, about_after, after, without_connection, effect_of_line, facts, with_lines_taken, happens, has_joins, has_place, with_connection, max_joins, newcomer, next_sid, own_of, sight_of, user_of, with_one}
use Rattle.hub_rules.specs.Identities.{listed_user}
use Rattle.hub_rules.specs.Legal.{Legal, is_open, join_reply, reply, take_reply, verdict_of}
use Rattle.hub_rules.specs.Senders.{new_sender}
use Rattle.hub_rules.specs.Shares.{ConnState, waiting}
use Rattle.hub_rules.specs.Prepared.{prepared_line}
use Rattle.hub_rules.specs.Views.{PreparedLine}
use Rattle.hub_invariants.proofs.Calls.{not-open, sound_of}
use Rattle.hub_invariants.proofs.Members.{has}
use Rattle.hub_invariants.proofs.Sids.{Numbered, numbered_of}
use Rattle.hub_invariants.proofs.Sound.{Sound, not-over, or-true}
use Rattle.hub_invariants.proofs.Suits.{Suits}
use Rattle.hub_invariants.proofs.Tidy.{Tidy, suits_of, tidy_of, waiting-given}
use Rattle.hub_core.proofs.Carried.{carried-out, decided-is, same-core}
use Rattle.hub_core.proofs.OpenSeats.{backlog-open, backlog_at, backlogs-left, each-given, each-same, in-open, map-seats, one-waits, others-same-by, others_of as numbers_but, seated-open, seats-left}
use Rattle.hub_core.proofs.SeatShares.{backlog-by, seat-by, stage-kept}
use Rattle.hub_core.proofs.Tests.{false-le, true-le}
use Rattle.hub_core.proofs.Users.{users-carried}

-- ---- hints

-- a hub stands where it stood, whatever its hint
pub moves-noted : (old new : CoreState) (call : Call) (reply : Reply) (touched : Touched) → Moves old call reply new → Moves old call reply (noted touched new)
unfolding Stands
moves-noted old new call reply touched moves setup hash h caller at may =
    let stood = moves setup hash h caller at may in record { legal = stood.legal; stands = stood.stands }

-- ---- lines

-- the stage of an open connection is read off its seat
phase-open : (setup : Configured) (c : ℕ) (effect : Effect) (f : Facts) → has c f.opened ≡ true
    → stage_in (phase_in c (core_of setup (happens c effect f)).seats) ≡ ((happens c effect f).about c).stage
unfolding happens
phase-open setup c effect f open_c =
    ap stage_in (in-open c (λ seat. seat.phase) phases.Gone (about_after c effect f.about) f.opened open_c) ∙ stage-kept c (about_after c effect f.about c)

-- what was decided at the seat of an open connection is what the rules say of its line
pub effect-is : (old : CoreState) (c : ℕ) (line : PreparedLine) (now : ℕ) (seat : Seat) (effect : Effect)
    → old.setup.plain.max_users ≤ most_users
    → seat ≡ in_seat c (λ s. s) seat old.seats
    → Decided (sight_in old) seat line now effect
    → (setup : Configured) (hash : List ℕ → List ℕ) (h : List Entry) → StandsAt setup hash h old → has c (facts setup hash h).opened ≡ true
    → line ≡ prepared_line setup hash ((facts setup hash h).about c).sender.challenge line.bytes
    → effect ≡ effect_of_line setup hash (facts setup hash h) c line.bytes now
unfolding Stands
effect-is old c line now seat effect small is_seat decided setup hash h at open_c is_line =
    let f : Facts = facts setup hash h in
    let few : setup.plain.max_users ≤ most_users = subst (λ (s : CoreState). s.setup.plain.max_users ≤ most_users) at.stands small in
    let mine : seat ≡ seat_of f.about c =
    is_seat ∙ ap (λ (s : CoreState). in_seat c (λ x. x) seat s.seats) at.stands ∙ in-open c (λ s. s) seat f.about f.opened open_c in
    decided-is setup f c line now effect (sound_of setup hash h) (numbered_of setup hash h few) (tidy_of setup hash h c) open_c
    (subst (λ (s : Seat). Decided (sight_in (core_of setup f)) s line now effect) mine (subst (λ (s : CoreState). Decided (sight_in s) seat line now effect) at.stands decided))
    ∙ ap (λ l. line_effect (sight_of setup f) (own_of (f.about c)) l now) is_line

pub line-moves : (old new : CoreState) (c : ℕ) (line : PreparedLine) (now : ℕ) (seat : Seat) (effect : Effect) (verdict : Verdict) (touched : Touched)
    → old.setup.plain.max_users ≤ most_users
    → seat ≡ in_seat c (λ s. s) seat old.seats
    → Decided (sight_in old) seat line now effect
    → new ≡ noted touched (carried_out c effect old)
    → verdict ≡ verdict_of (stage_in (phase_in c new.seats))
    → LineMoves old c line now verdict new
unfolding Legal Stands facts after reply carried_out
line-moves old new c line now seat effect verdict touched small is_seat decided is_new is_verdict setup hash h caller at may is_line =
    let f : Facts = facts setup hash h in
    let sound : Sound f = sound_of setup hash h in
    let few : setup.plain.max_users ≤ most_users = subst (λ (s : CoreState). s.setup.plain.max_users ≤ most_users) at.stands small in
    let n : Numbered setup f = numbered_of setup hash h few in
    let is_effect = effect-is old c line now seat effect small is_seat decided setup hash h at may.0 is_line in
    let stands : noted Nobody new ≡ core_of setup (happens c (effect_of_line setup hash f c line.bytes now) f) =
    ap (noted Nobody) is_new ∙ ap₂ (carried_out c) is_effect at.stands
    ∙ carried-out setup c (effect_of_line setup hash f c line.bytes now) f sound n (tidy_of setup hash h) may.0 (suits_of setup hash h c line.bytes now) in
    let stage : stage_in (phase_in c new.seats) ≡ ((happens c (effect_of_line setup hash f c line.bytes now) f).about c).stage =
    ap (λ (s : CoreState). stage_in (phase_in c s.seats)) stands ∙ phase-open setup c (effect_of_line setup hash f c line.bytes now) f may.0 in
    record { legal = (at.legal, may, ap Said (is_verdict ∙ ap verdict_of stage)); stands = stands }

-- ---- takes

given-phase : (stage : Stage) (count : ℕ) (a : ConnState) → phase_at stage a ≡ phase_at stage (with_lines_taken count a)
given-phase stages.Protocol count a = refl
given-phase stages.Identify count a = refl
given-phase stages.Verify count a = refl
given-phase stages.Normal count a = refl
given-phase stages.Gone count a = refl

-- a take changes no seat
seat-taken : (count d : ℕ) (a : ConnState) (same : Bool) → seat_with d a ≡ seat_with d (cond same (with_lines_taken count a) a)
seat-taken count d a true = ap (λ p. record (seat_with d a) { phase = p }) (given-phase a.stage count a)
seat-taken count d a false = refl

-- it takes the first lines of one connection
lines-taken : (count : ℕ) (a : ConnState) (same : Bool) → cond same (backlog_after_take count (backlog_of a)) (backlog_of a) ≡ backlog_of (cond same (with_lines_taken count a) a)
lines-taken count a true = ap (λ (ls : List (List ℕ)). with_lines (backlog_of a) ls) (sym (waiting-given count a))
lines-taken count a false = refl

user-one : (turn : ConnState → ConnState) (a : ConnState) (same : Bool) → (turn a).sender.sid ≡ a.sender.sid → (turn a).fields ≡ a.fields
    → listed_user a.sender.sid a.fields ≡ listed_user (cond same (turn a) a).sender.sid (cond same (turn a) a).fields
user-one turn a true sid fields = sym (ap₂ listed_user sid fields)
user-one turn a false sid fields = refl

-- a take changes no user
users-one : (c : ℕ) (turn : ConnState → ConnState) (f : Facts) → ((a : ConnState) → (turn a).sender.sid ≡ a.sender.sid) → ((a : ConnState) → (turn a).fields ≡ a.fields) → (xs : List ℕ)
    → map (user_of f.about) xs ≡ map (user_of (with_one c turn f.about)) xs
users-one c turn f sid fields [] = refl
users-one c turn f sid fields (d ∷ xs) =
    ap₂ (λ (u : Listed) (us : List Listed). u ∷ us) (user-one turn (f.about d) (d == c) (sid (f.about d)) (fields (f.about d))) (users-one c turn f sid fields xs)

pub take-moves : (old new : CoreState) (c count lines : ℕ) (bytes : List ℕ) (over : Bool) (touched : Touched)
    → new ≡ noted touched (core_after_take c count old)
    → bytes ≡ concat (take count (lines_in c old))
    → lines ≡ length (take count (lines_in c old))
    → over ≡ has_ended c count old
    → Moves old (Take c count) (Took bytes lines over) new
unfolding Legal Stands facts after reply
take-moves old new c count lines bytes over touched is_new is_bytes is_lines is_ended setup hash h caller at may =
    let f : Facts = facts setup hash h in
    let sound : Sound f = sound_of setup hash h in
    let stands : noted Nobody new ≡ core_of setup (record f { about = with_one c (with_lines_taken count) f.about }) =
    ap (noted Nobody) is_new ∙ ap (core_after_take c count) at.stands
    ∙ same-core setup f.joins f.last
    (each-same (seat_of f.about) (seat_of (with_one c (with_lines_taken count) f.about)) f.opened (λ d. seat-taken count d (f.about d) (d == c)))
    (one-waits c (backlog_after_take count) f.about f.opened sound.open_once
    ∙ each-same _ (backlog_at (with_one c (with_lines_taken count) f.about)) f.opened (λ d. lines-taken count (f.about d) (d == c)))
    (users-one c (with_lines_taken count) f (λ a. refl) (λ a. refl) f.present) in
    let backlog : backlog_in c old.seats old.backlogs ≡ backlog_of (f.about c) =
    ap (λ (s : CoreState). backlog_in c s.seats s.backlogs) at.stands ∙ backlog-open c f.about f.opened may.0 in
    let stage : stage_in (phase_in c old.seats) ≡ (f.about c).stage =
    ap (λ (s : CoreState). stage_in (phase_in c s.seats)) at.stands ∙ ap stage_in (in-open c (λ seat. seat.phase) phases.Gone f.about f.opened may.0) ∙ stage-kept c (f.about c) in
    let ended : over ≡ (nat_le (length (waiting (f.about c))) count && (is_over (f.about c).stage || (f.about c).lags)) =
    is_ended ∙ ap₂ (λ (o : Backlog) s. ends_by (is_over s) count o) backlog stage in
    let replied : Took bytes lines over ≡ take_reply count (f.about c) =
    ap (λ b. Took b lines over) (is_bytes ∙ ap (λ (o : Backlog). concat (take count o.lines)) backlog)
    ∙ ap (λ n. Took (concat (take count (waiting (f.about c)))) n over) (is_lines ∙ ap (λ (o : Backlog). length (take count o.lines)) backlog)
    ∙ ap (λ b. Took (concat (take count (waiting (f.about c)))) (length (take count (waiting (f.about c)))) b) ended in
    record { legal = (at.legal, may, replied); stands = stands }

-- ---- quits

abbrev leaves : ConnState → Effect
leaves a = departure a.stage a.sender.sid

-- who is told of a departure is owed its line
told-share : (here there : Bool) (line : List ℕ) → cond (here && there) (line ∷ []) [] ≡ cond (there && true) (cond here (line ∷ []) []) [] ++ []
told-share true true line = refl
told-share true false line = refl
told-share false true line = refl
told-share false false line = refl

left-seat : (c d : ℕ) (a b : ConnState) → (d == c) ≡ false → seat_with d b ≡ seat_with d (affected_parts (d == c) (leaves a) b)
left-seat c d a b other = seat-by false (leaves a) d b (λ is. absurd (false≢true is)) ∙ ap (λ same. seat_with d (affected_parts same (leaves a) b)) (sym other)

left-backlog : (c d : ℕ) (a b : ConnState) → (d == c) ≡ false → b.taken ≤ length b.owed → Tidy b
    → given_backlog (told_of (is_present a.stage) a.sender.sid (seat_with d b)) (backlog_of b) ≡ backlog_of (affected_parts (d == c) (leaves a) b)
left-backlog c d a b other few tidy =
    ap (λ ls. given_backlog ls (backlog_of b))
    (ap (λ s. cond (is_present a.stage && is_present s) (quit_line a.sender.sid ∷ []) []) (stage-kept d b)
    ∙ told-share (is_present a.stage) (is_present b.stage) (quit_line a.sender.sid))
    ∙ backlog-by false (leaves a) b few tidy.lines tidy.bytes
    ∙ ap (λ same. backlog_of (affected_parts same (leaves a) b)) (sym other)

seats-gone : (c : ℕ) (f : Facts) → others_of c (map (seat_of f.about) f.opened) ≡ map (seat_of (about_parts c (leaves (f.about c)) f.about)) (numbers_but c f.opened)
seats-gone c f =
    seats-left c (seat_of f.about) f.opened (λ d. refl)
    ∙ others-same-by c (seat_of f.about) (seat_of (about_parts c (leaves (f.about c)) f.about)) f.opened (λ d other. left-seat c d (f.about c) (f.about d) other)

backlogs-gone : (c : ℕ) (f : Facts) → Sound f → ((d : ℕ) → Tidy (f.about d))
    → given_each (map (told_of (is_present (f.about c).stage) (f.about c).sender.sid) (others_of c (map (seat_of f.about) f.opened))) (backlogs_but c (map (seat_of f.about) f.opened) (map (backlog_at f.about) f.opened))
    ≡ map (backlog_at (about_parts c (leaves (f.about c)) f.about)) (numbers_but c f.opened)
backlogs-gone c f sound tidy =
    ap₂ (λ (ss : List Seat) (os : List Backlog). given_each (map (told_of (is_present (f.about c).stage) (f.about c).sender.sid) ss) os)
    (seats-left c (seat_of f.about) f.opened (λ d. refl)) (backlogs-left c f.about (backlog_at f.about) f.opened sound.open_once)
    ∙ ap (λ ss. given_each ss (map (backlog_at f.about) (numbers_but c f.opened))) (map-seats (told_of (is_present (f.about c).stage) (f.about c).sender.sid) (seat_of f.about) (numbers_but c f.opened))
    ∙ each-given (λ d. told_of (is_present (f.about c).stage) (f.about c).sender.sid (seat_of f.about d)) (backlog_at f.about) (numbers_but c f.opened)
    ∙ others-same-by c _ (backlog_at (about_parts c (leaves (f.about c)) f.about)) f.opened
    (λ d other. left-backlog c d (f.about c) (f.about d) other (sound.taken d) (tidy d))

suits-leaves : (a : ConnState) → Suits (own_of a) (leaves a)
suits-leaves a = record { change = tt; routed = tt }

left-stands : (setup : Configured) (c : ℕ) (f : Facts) → Sound f → Numbered setup f → ((d : ℕ) → Tidy (f.about d)) → has c f.opened ≡ true
    → left_core c (core_of setup f) ≡ core_of setup (without_connection c (happens c (leaves (f.about c)) f))
unfolding without_connection
left-stands setup c f sound n tidy open_c =
    let sid : sid_in c (map (seat_of f.about) f.opened) ≡ (f.about c).sender.sid = in-open c (λ seat. seat.sender.sid) 0 f.about f.opened open_c in
    let stage : stage_in (phase_in c (map (seat_of f.about) f.opened)) ≡ (f.about c).stage =
    ap stage_in (in-open c (λ seat. seat.phase) phases.Gone f.about f.opened open_c) ∙ stage-kept c (f.about c) in
    same-core setup f.joins f.last
    (seats-gone c f)
    (ap₂ (λ s i. given_each (map (told_of (is_present s) i) (others_of c (map (seat_of f.about) f.opened))) (backlogs_but c (map (seat_of f.about) f.opened) (map (backlog_at f.about) f.opened))) stage sid
    ∙ backlogs-gone c f sound tidy)
    (ap (λ i. without_sid i (map (user_of f.about) f.present)) sid ∙ users-carried setup f c (leaves (f.about c)) sound n open_c (suits-leaves (f.about c)))
    ∙ ap (λ (g : Facts). core_of setup (without_connection c g)) (sym (happens-parts c (leaves (f.about c)) f))

pub quit-moves : (old new : CoreState) (c : ℕ) (touched : Touched) → old.setup.plain.max_users ≤ most_users → new ≡ noted touched (left_core c old) → Moves old (Quit c) Left new
unfolding Legal Stands facts after reply
quit-moves old new c touched small is_new setup hash h caller at may =
    let f : Facts = facts setup hash h in
    let few : setup.plain.max_users ≤ most_users = subst (λ (s : CoreState). s.setup.plain.max_users ≤ most_users) at.stands small in
    record {
      legal = (at.legal, may, refl);
      stands = ap (noted Nobody) is_new ∙ ap (left_core c) at.stands
          ∙ left-stands setup c f (sound_of setup hash h) (numbered_of setup hash h few) (tidy_of setup hash h) may.0;
    }

-- ---- joins

-- whether a join is accepted can be seen at the hub
places : (setup : Configured) (f : Facts) (old : CoreState) → noted Nobody old ≡ core_of setup f
    → (has_place setup f ≡ not (nat_le old.setup.plain.max_users (length old.seats))) × (has_joins f ≡ not (nat_le max_joins old.joins))
places setup f old stands =
    let seats : length old.seats ≡ length f.opened = ap (λ (s : CoreState). length s.seats) stands ∙ length-map f.opened (seat_of f.about) in
    let most : old.setup.plain.max_users ≡ setup.plain.max_users = ap (λ (s : CoreState). s.setup.plain.max_users) stands in
    let joins : old.joins ≡ f.joins = ap (λ (s : CoreState). s.joins) stands in
    (sym (ap (λ n. not (nat_le n (length old.seats))) most ∙ ap (λ n. not (nat_le setup.plain.max_users n)) seats), sym (ap (λ n. not (nat_le max_joins n)) joins))

pub full-moves : (old : CoreState) (peer challenge : List ℕ) (now : ℕ) → old.setup.plain.max_users ≤ length old.seats → Moves old (Join peer challenge now) Full old
unfolding Legal Stands facts after reply
full-moves old peer challenge now full setup hash h caller at may =
    let f : Facts = facts setup hash h in
    let none : has_place setup f ≡ false = (places setup f old at.stands).0 ∙ ap not (true-le old.setup.plain.max_users (length old.seats) full) in
    record {
      legal = (at.legal, may, sym (ap (λ b. join_reply b (has_joins f) f.joins) none));
      stands = at.stands ∙ ap (core_of setup) (sym (ap (λ b. cond (b && has_joins f) (with_connection f caller peer challenge) f) none));
    }

pub spent-moves : (old : CoreState) (peer challenge : List ℕ) (now : ℕ) → length old.seats < old.setup.plain.max_users → max_joins ≤ old.joins → Moves old (Join peer challenge now) JoinsSpent old
unfolding Legal Stands facts after reply
spent-moves old peer challenge now room spent setup hash h caller at may =
    let f : Facts = facts setup hash h in
    let place : has_place setup f ≡ true = (places setup f old at.stands).0 ∙ ap not (false-le old.setup.plain.max_users (length old.seats) room) in
    let none : has_joins f ≡ false = (places setup f old at.stands).1 ∙ ap not (true-le max_joins old.joins spent) in
    record {
      legal = (at.legal, may, sym (ap (λ b. join_reply b (has_joins f) f.joins) place ∙ ap (λ b. join_reply true b f.joins) none));
      stands = at.stands ∙ ap (core_of setup) (sym (ap (λ b. cond (b && has_joins f) (with_connection f caller peer challenge) f) place ∙ ap (λ b. cond b (with_connection f caller peer challenge) f) none));
    }

-- the identifiers that are taken
abbrev pub sids_in : List Seat → List ℕ
sids_in seats = map (λ (seat : Seat). seat.sender.sid) seats

-- a connection joined
abbrev pub joined_core : ℕ → List ℕ → List ℕ → CoreState → CoreState
joined_core sid peer challenge core =
    record core {
      joins = core.joins + 1;
      last = sid;
      seats = core.seats ++ new_seat (core.joins + 1) (new_sender sid peer challenge) ∷ [];
      backlogs = core.backlogs ++ no_backlog ∷ [];
    }

map-sids : (about : ℕ → ConnState) (xs : List ℕ) → sids_in (map (seat_of about) xs) ≡ map (λ d. (about d).sender.sid) xs
map-sids about [] = refl
map-sids about (d ∷ xs) = ap (λ (ns : List ℕ). (about d).sender.sid ∷ ns) (map-sids about xs)

same-on : {A : Type 0} (p q : ℕ → A) (xs : List ℕ) → ((d : ℕ) → has d xs ≡ true → p d ≡ q d) → map p xs ≡ map q xs
same-on p q [] each = refl
same-on p q (d ∷ xs) each =
    ap₂ (λ y ys. y ∷ ys) (each d (ap (λ b. b || has d xs) (eq-eqb d d refl))) (same-on p q xs (λ x there. each x (ap (λ b. (d == x) || b) there ∙ or-true (d == x))))

not-new : (f : Facts) → Sound f → (d : ℕ) → has d f.opened ≡ true → (same : Bool) → (d == (f.joins + 1)) ≡ same → same ≡ false
not-new f sound d there true is = absurd (false≢true (sym (not-open f sound) ∙ ap (λ x. has x f.opened) (sym (eqb-true d (f.joins + 1) is)) ∙ there))
not-new f sound d there false is = refl

other-kept : (f : Facts) → Sound f → (mine : ConnState) → (d : ℕ) → has d f.opened ≡ true → with_one (f.joins + 1) (λ a. mine) f.about d ≡ f.about d
other-kept f sound mine d there = ap (λ b. cond b mine (f.about d)) (not-new f sound d there (d == (f.joins + 1)) refl)

joined-stands : (setup : Configured) (f : Facts) (caller : ℕ) (peer challenge : List ℕ) → Sound f
    → joined_core (next_sid f) peer challenge (core_of setup f) ≡ core_of setup (with_connection f caller peer challenge)
unfolding with_connection
joined-stands setup f caller peer challenge sound =
    let mine : ConnState = newcomer caller (next_sid f) peer challenge in
    let now_about : ℕ → ConnState = with_one (f.joins + 1) (λ a. mine) f.about in
    same-core setup (f.joins + 1) (next_sid f)
    (ap (λ (ss : List Seat). ss ++ new_seat (f.joins + 1) (new_sender (next_sid f) peer challenge) ∷ [])
    (same-on (seat_of f.about) (seat_of now_about) f.opened (λ d there. ap (seat_with d) (sym (other-kept f sound mine d there))))
    ∙ ap (λ (s : Seat). map (seat_of now_about) f.opened ++ s ∷ []) (ap (seat_with (f.joins + 1)) (sym (ap (λ b. cond b mine (f.about (f.joins + 1))) (eq-eqb (f.joins + 1) (f.joins + 1) refl))))
    ∙ sym (map-append (seat_of now_about) f.opened ((f.joins + 1) ∷ [])))
    (ap (λ (os : List Backlog). os ++ no_backlog ∷ [])
    (same-on (backlog_at f.about) (backlog_at now_about) f.opened (λ d there. ap backlog_of (sym (other-kept f sound mine d there))))
    ∙ ap (λ (o : Backlog). map (backlog_at now_about) f.opened ++ o ∷ []) (ap backlog_of (sym (ap (λ b. cond b mine (f.about (f.joins + 1))) (eq-eqb (f.joins + 1) (f.joins + 1) refl))))
    ∙ sym (map-append (backlog_at now_about) f.opened ((f.joins + 1) ∷ [])))
    (same-on (user_of f.about) (user_of now_about) f.present
    (λ d there. ap (λ (a : ConnState). listed_user a.sender.sid a.fields)
    (sym (other-kept f sound mine d (sound.are_open d (not-over (f.about d).stage (sym (sound.entered d) ∙ there)))))))

join-moves-at : (old new : CoreState) (peer challenge : List ℕ) (now sid : ℕ) → length old.seats < old.setup.plain.max_users → old.joins < max_joins
    → sid ≡ next_free old.last (sids_in old.seats)
    → new ≡ joined_core sid peer challenge old
    → Moves old (Join peer challenge now) (Joined (old.joins + 1)) new
unfolding Legal Stands facts after reply
join-moves-at old new peer challenge now sid room left is_sid is_new setup hash h caller at may =
    let f : Facts = facts setup hash h in
    let place : has_place setup f ≡ true = (places setup f old at.stands).0 ∙ ap not (false-le old.setup.plain.max_users (length old.seats) room) in
    let counted : has_joins f ≡ true = (places setup f old at.stands).1 ∙ ap not (false-le max_joins old.joins left) in
    let joins : old.joins ≡ f.joins = ap (λ (s : CoreState). s.joins) at.stands in
    let next : sid ≡ next_sid f =
    is_sid ∙ ap (λ (s : CoreState). next_free s.last (sids_in s.seats)) at.stands ∙ ap (next_free f.last) (map-sids f.about f.opened) in
    let stands : noted Nobody new ≡ core_of setup (with_connection f caller peer challenge) =
    ap (noted Nobody) is_new ∙ ap₂ (λ i (s : CoreState). joined_core i peer challenge s) next at.stands ∙ joined-stands setup f caller peer challenge (sound_of setup hash h) in
    record {
      legal = (at.legal, may, ap (λ n. Joined (n + 1)) joins ∙ sym (ap (λ b. join_reply b (has_joins f) f.joins) place ∙ ap (λ b. join_reply true b f.joins) counted));
      stands = stands ∙ ap (core_of setup) (sym (ap (λ b. cond (b && has_joins f) (with_connection f caller peer challenge) f) place ∙ ap (λ b. cond b (with_connection f caller peer challenge) f) counted));
    }

pub join-moves : (old new : CoreState) (peer challenge : List ℕ) (now sid n : ℕ) → n ≡ old.joins + 1 → length old.seats < old.setup.plain.max_users → old.joins < max_joins
    → sid ≡ next_free old.last (sids_in old.seats)
    → new ≡ joined_core sid peer challenge old
    → Moves old (Join peer challenge now) (Joined n) new
join-moves old new peer challenge now sid n is_n room left is_sid is_new =
    subst (λ m. Moves old (Join peer challenge now) (Joined m) new) (sym is_n) (join-moves-at old new peer challenge now sid room left is_sid is_new)

-- ---- looks

pub open-stands : (setup : Configured) (hash : List ℕ → List ℕ)
    → StandsAt setup hash [] (record { setup = setup; joins = 0; last = 0; seats = []; backlogs = []; users = []; bans = []; topic = setup.topic; touched = Nobody })
unfolding Legal Stands facts
open-stands setup hash = record { legal = tt; stands = refl }

opened-at : (setup : Configured) (hash : List ℕ → List ℕ) (h : List Entry) (core : CoreState) (c : ℕ) → StandsAt setup hash h core → HasSeat c core.seats
    → has c (facts setup hash h).opened ≡ true
unfolding Stands
opened-at setup hash h core c at has_one =
    sym (seated-open c (facts setup hash h).about (facts setup hash h).opened)
    ∙ sym (ap (λ (s : CoreState). list_any (λ (seat : Seat). seat.number == c) s.seats) at.stands) ∙ has_one

pub sid-told : (core : CoreState) (c sid : ℕ) → sid ≡ sid_in c core.seats → HasSeat c core.seats → SidOf sid c core
unfolding Stands
sid-told core c sid e has_one setup hash h at =
    let f : Facts = facts setup hash h in
    e ∙ ap (λ (s : CoreState). sid_in c s.seats) at.stands ∙ in-open c (λ seat. seat.sender.sid) 0 f.about f.opened (opened-at setup hash h core c at has_one)

pub look-told : (core : CoreState) (c : ℕ) (look : Look) → look.stage ≡ stage_in (phase_in c core.seats) → look.present ≡ length core.users
    → look.waiting ≡ length (lines_in c core) → HasSeat c core.seats → LooksAt look c core
unfolding Stands
look-told core c look stage present waits has_one setup hash h at =
    let f : Facts = facts setup hash h in
    let open_c = opened-at setup hash h core c at has_one in
    ap₂ (λ s n. record { stage = s; present = n; waiting = look.waiting })
    (stage ∙ ap (λ (s : CoreState). stage_in (phase_in c s.seats)) at.stands
    ∙ ap stage_in (in-open c (λ seat. seat.phase) phases.Gone f.about f.opened open_c) ∙ stage-kept c (f.about c))
    (present ∙ ap (λ (s : CoreState). length s.users) at.stands ∙ length-map f.present (user_of f.about))
    ∙ ap (λ n. record { stage = (f.about c).stage; present = length f.present; waiting = n })
    (waits ∙ ap (λ (s : CoreState). length (lines_in c s)) at.stands ∙ ap (λ (o : Backlog). length o.lines) (backlog-open c f.about f.opened open_c))

pub joins-told : (core : CoreState) (joins : ℕ) → joins ≡ core.joins → CountsJoins joins core
unfolding Stands
joins-told core joins e setup hash h at = e ∙ ap (λ (s : CoreState). s.joins) at.stands

pub totals-told : (core : CoreState) (totals : Totals) → totals ≡ totals_of core.users → SumsUp totals core
unfolding Stands
totals-told core totals e setup hash h at = e ∙ ap (λ (s : CoreState). totals_of s.users) at.stands

-- a connection that is open has a seat
pub open-has-seat : (setup : Configured) (hash : List ℕ → List ℕ) (h : List Entry) (core : CoreState) (c : ℕ) → StandsAt setup hash h core → is_open c (facts setup hash h) ≡ true → IsSeated c core
unfolding Stands
open-has-seat setup hash h core c at opened =
    ap (λ (s : CoreState). list_any (λ (seat : Seat). seat.number == c) s.seats) at.stands ∙ seated-open c (facts setup hash h).about (facts setup hash h).opened ∙ opened

pub open-stands-as : (setup : Configured) (seats : List Seat) (backlogs : List Backlog) (users : List Listed) (bans : List (List ℕ × Ban)) (topic : List ℕ) → seats ≡ [] → backlogs ≡ [] → users ≡ [] → bans ≡ [] → topic ≡ setup.topic
    → (hash : List ℕ → List ℕ) → StandsAt setup hash [] (record { setup = setup; joins = 0; last = 0; seats = seats; backlogs = backlogs; users = users; bans = bans; topic = topic; touched = Nobody })
open-stands-as setup seats backlogs users bans topic s w u b t hash =
    subst (λ (x : List Seat). StandsAt setup hash [] (record { setup = setup; joins = 0; last = 0; seats = x; backlogs = backlogs; users = users; bans = bans; topic = topic; touched = Nobody })) (sym s)
    (subst (λ (x : List Backlog). StandsAt setup hash [] (record { setup = setup; joins = 0; last = 0; seats = []; backlogs = x; users = users; bans = bans; topic = topic; touched = Nobody })) (sym w)
    (subst (λ (x : List Listed). StandsAt setup hash [] (record { setup = setup; joins = 0; last = 0; seats = []; backlogs = []; users = x; bans = bans; topic = topic; touched = Nobody })) (sym u)
    (subst (λ (x : List (List ℕ × Ban)). StandsAt setup hash [] (record { setup = setup; joins = 0; last = 0; seats = []; backlogs = []; users = []; bans = x; topic = topic; touched = Nobody })) (sym b)
    (subst (λ (x : List ℕ). StandsAt setup hash [] (record { setup = setup; joins = 0; last = 0; seats = []; backlogs = []; users = []; bans = []; topic = x; touched = Nobody })) (sym t) (open-stands setup hash)))))
