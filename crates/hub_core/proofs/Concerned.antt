-- Whom a call concerned, by what it made of each connection.
use Rattle.hub_invariants.proofs.CallCases.{about-parts}
use Rattle.std.proofs.Common.{◌≡◌, ◌∙◌, sym, ap, refl, subst, ℕ, ◌+◌, ◌<◌, ◌≤◌, Bool, true, false, not, ◌&&◌, ◌==◌, List, [], ◌∷◌, ◌++◌, length, filter, arith, length-drop, Option, None}
use Rattle.std.specs.Prelude.{◌≢◌, cond}
use Rattle.std.proofs.lemmas.Bool.{false≢true, eqb-true, eq-eqb}
use Rattle.login_state.specs.declared.stage.Stage.{Stage}
use Rattle.login_state.specs.declared.stage.Stage.TheVariants as stages
use Rattle.outboxes.specs.Backlogs.{Backlog}
use Rattle.outboxes.specs.Quits.{quit_line}
use Rattle.hub_core.specs.declared.seat.Phase.TheVariants as phases
use Rattle.hub_core.specs.declared.seat.Seat.{Seat}
use Rattle.hub_core.specs.declared.share.Touched.{Touched}
use Rattle.hub_core.specs.CoreState.{CoreState}
use Rattle.hub_core.specs.Decided.{Decided, sight_in}
use Rattle.hub_core.specs.Phases.{stage_in}
use Rattle.hub_core.specs.Seats.{in_seat, phase_in, seat_with, sid_in}
use Rattle.hub_core.specs.State.{Stands}
use Rattle.hub_core.specs.TouchedSids.{LineTouches, NamesEffect, NamesOne, NamesOwed, Touches, falls, names}
use Rattle.hub_rules.specs.declared.effect.Change.{Change}
use Rattle.hub_rules.specs.declared.effect.Change.TheVariants.{Hub, Nothing, Sender}
use Rattle.hub_rules.specs.declared.effect.Effect.{Effect}
use Rattle.hub_rules.specs.declared.sender.SeatChange.{SeatChange}
use Rattle.hub_rules.specs.declared.effect.SenderChange.TheVariants as senders
use Rattle.hub_rules.specs.declared.history.Call.TheVariants.{Join, Quit, Take}
use Rattle.hub_rules.specs.Configured.{most_users}
use Rattle.hub_rules.specs.Effects.{departure, is_over, is_present}
use Rattle.hub_rules.specs.Facts.{Facts, after, effect_of_line, facts, happens, has_joins, has_place, newcomer, next_sid, own_of, with_connection, with_lines_taken, without_connection}
use Rattle.hub_rules.specs.Shares.{ConnState, change_at, hears_those, lags_with, owed_with, owes, waiting}
use Rattle.hub_invariants.specs.Afterwards.{is_gone_at, is_removed, removed_by, stage_after, affected_parts}
use Rattle.hub_rules.specs.Views.{PreparedLine}
use Rattle.hub_invariants.proofs.Members.{both, has, has-filter}
use Rattle.hub_invariants.proofs.Suits.{Routed, Suits}
use Rattle.hub_invariants.proofs.Tidy.{Tidy, suits_of, tidy_of, waiting-given}
use Rattle.hub_core.proofs.OpenSeats.{in-open}
use Rattle.hub_core.proofs.SeatShares.{share-same, stage-kept, with-nothing}
use Rattle.hub_core.proofs.NextHistory.{effect-is}

-- ---- one connection

pub same-named : (touched : Touched) (a : ConnState) → NamesOne touched a a
same-named touched a = record {
  told = λ more. absurd (omega (arith, more));
  lags = λ was is. absurd (false≢true (sym was ∙ is));
  shut_out = λ was is. absurd (false≢true (sym was ∙ is));
}

-- more lines wait for a connection only where it is owed some
told-by : (touched : Touched) (a : ConnState) (share : List (List ℕ)) → Tidy a → (share ≢ [] → names touched a.sender.sid ≡ true)
    → length (waiting a) < length (waiting (record a { owed = owed_with a share })) → names touched a.sender.sid ≡ true
told-by touched a [] tidy some more = absurd (omega (arith, more, ap (λ (o : Backlog). length o.lines) (with-nothing a tidy.lines tidy.bytes)))
told-by touched a (line ∷ lines) tidy some more = some (λ none. cc)

lags-by : (touched : Touched) (a : ConnState) (share : List (List ℕ)) → Tidy a → (share ≢ [] → names touched a.sender.sid ≡ true) → a.lags ≡ false → lags_with a share ≡ true → names touched a.sender.sid ≡ true
lags-by touched a [] tidy some was is = absurd (false≢true (sym was ∙ ap (λ (o : Backlog). o.lags) (with-nothing a tidy.lines tidy.bytes) ∙ is))
lags-by touched a (line ∷ lines) tidy some was is = some (λ none. cc)

falls-by : (change : Change) (stage : Stage) → is_over stage ≡ false → is_over (stage_after change stage) ≡ true → falls change ≡ true
falls-by Nothing stage was is = absurd (false≢true (sym was ∙ is))
falls-by (Sender (senders.Greets features)) stage was is = absurd (false≢true is)
falls-by (Sender (senders.Waits newcomer expected)) stage was is = absurd (false≢true is)
falls-by (Sender senders.Enters) stage was is = absurd (false≢true is)
falls-by (Sender (senders.EntersAs newcomer)) stage was is = absurd (false≢true is)
falls-by (Sender (senders.Learns features)) stage was is = absurd (false≢true (sym was ∙ is))
falls-by (Sender (senders.Updates revision)) stage was is = absurd (false≢true (sym was ∙ is))
falls-by (Sender (senders.Searches now)) stage was is = absurd (false≢true (sym was ∙ is))
falls-by (Sender senders.Falls) stage was is = refl
falls-by (Hub change) stage was is = absurd (false≢true (sym was ∙ is))

over-by : (touched : Touched) (sid : ℕ) (removed is_caller : Bool) (change : Change) (stage : Stage) → (removed ≡ true → names touched sid ≡ true)
    → (is_caller ≡ true → falls change ≡ true → names touched sid ≡ true) → is_over stage ≡ false
    → is_over (cond removed stages.Gone (cond is_caller (stage_after change stage) stage)) ≡ true → names touched sid ≡ true
over-by touched sid true is_caller change stage gone fallen was is = gone refl
over-by touched sid false true change stage gone fallen was is = fallen refl (falls-by change stage was is)
over-by touched sid false false change stage gone fallen was is = absurd (false≢true (sym was ∙ is))

-- whoever is named where it is owed lines or shut out is named where an effect concerns it
affected-named : (touched : Touched) (effect : Effect) (is_caller : Bool) (a : ConnState) → Tidy a → (owes is_caller effect a ≢ [] → names touched a.sender.sid ≡ true)
    → (is_removed effect.change a.sender.sid ≡ true → names touched a.sender.sid ≡ true) → (is_caller ≡ true → falls effect.change ≡ true → names touched a.sender.sid ≡ true)
    → NamesOne touched a (affected_parts is_caller effect a)
affected-named touched effect is_caller a tidy some gone fallen = record {
  told = λ more. told-by touched a (owes is_caller effect a) tidy some more;
  lags = λ was is. lags-by touched a (owes is_caller effect a) tidy some was is;
  shut_out = λ was is. over-by touched a.sender.sid (removed_by effect a) is_caller effect.change a.stage
      (λ removed. gone ((both (is_present a.stage) (is_removed effect.change a.sender.sid) removed).1)) fallen was is;
}

-- ---- lines

-- nobody is shut out by an operator where the change names nobody
pub removed-none : (change : Change) (sid : ℕ) → change_at change ≡ None → is_removed change sid ≡ true → ⊥
removed-none change sid none is = false≢true (ap (λ (at : Option (ℕ × SeatChange)). is_gone_at at sid) (sym none) ∙ is)

owed-named : (touched : Touched) (own c d : ℕ) (effect : Effect) (a : ConnState) → NamesOwed touched own effect → Routed effect.hearers → ((d == c) ≡ true → a.sender.sid ≡ own)
    → owes (d == c) effect a ≢ [] → names touched a.sender.sid ≡ true
owed-named touched own c d effect a owed routed is_own some =
    owed c (seat_with d a) (λ is. is_own (eq-eqb d c is)) (λ none. some (sym (share-same c d effect a routed) ∙ none))

line-named : (touched : Touched) (own c d : ℕ) (effect : Effect) (a : ConnState) → NamesEffect touched own effect → Routed effect.hearers → ((d == c) ≡ true → a.sender.sid ≡ own) → Tidy a
    → NamesOne touched a (affected_parts (d == c) effect a)
line-named touched own c d effect a n routed is_own tidy =
    affected-named touched effect (d == c) a tidy (owed-named touched own c d effect a n.owed routed is_own) (n.removed a.sender.sid)
    (λ is falls. ap (names touched) (is_own is) ∙ n.fallen falls)

pub line-touches : (old new : CoreState) (c : ℕ) (line : PreparedLine) (now : ℕ) (seat : Seat) (effect : Effect)
    → old.setup.plain.max_users ≤ most_users
    → seat ≡ in_seat c (λ s. s) seat old.seats
    → Decided (sight_in old) seat line now effect
    → NamesEffect new.touched (sid_in c old.seats) effect
    → LineTouches old c line now new
unfolding Stands facts after happens
line-touches old new c line now seat effect small is_seat decided n setup hash h caller reply at may is_line d there =
    let f : Facts = facts setup hash h in
    let is_effect = effect-is old c line now seat effect small is_seat decided setup hash h at may.0 is_line in
    let is_sid : sid_in c old.seats ≡ (f.about c).sender.sid =
    ap (λ (s : CoreState). sid_in c s.seats) at.stands ∙ in-open c (λ seat. seat.sender.sid) 0 f.about f.opened may.0 in
    let suits : Suits (own_of (f.about c)) (effect_of_line setup hash f c line.bytes now) = suits_of setup hash h c line.bytes now in
    subst (NamesOne new.touched (f.about d)) (sym (about-parts c (effect_of_line setup hash f c line.bytes now) f.about d))
    (line-named new.touched (f.about c).sender.sid c d (effect_of_line setup hash f c line.bytes now) (f.about d)
    (subst (NamesEffect new.touched (f.about c).sender.sid) is_effect (subst (λ sid. NamesEffect new.touched sid effect) is_sid n))
    suits.routed (λ is. ap (λ x. (f.about x).sender.sid) (eqb-true d c is)) (tidy_of setup hash h d))

-- ---- quits

-- nobody is owed anything where the user who leaves was not present
farewell-none : (here heard is_caller : Bool) (sid : ℕ) → here ≡ false → (cond heard (cond here (quit_line sid ∷ []) []) [] ++ cond is_caller [] []) ≡ []
farewell-none true heard is_caller sid is = absurd (false≢true (sym is))
farewell-none false true true sid is = refl
farewell-none false true false sid is = refl
farewell-none false false true sid is = refl
farewell-none false false false sid is = refl

left-told : (touched : Touched) (stage : Stage) (sid : ℕ) (is_caller : Bool) (a : ConnState) (here : Bool) → is_present stage ≡ here
    → (here ≡ true → (s : ℕ) → names touched s ≡ true) → owes is_caller (departure stage sid) a ≢ [] → names touched a.sender.sid ≡ true
left-told touched stage sid is_caller a true is all some = all refl a.sender.sid
left-told touched stage sid is_caller a false is all some =
    absurd (some (farewell-none (is_present stage) (is_present a.stage && hears_those is_caller (departure stage sid).hearers a) is_caller sid is))

-- who is open after a connection left is another
left-other : (c d : ℕ) (xs : List ℕ) → has d (filter (λ x. not (x == c)) xs) ≡ true → (d == c) ≡ true → ⊥
left-other c d xs there same =
    let kept = (both (has d xs) (not (d == c)) (sym (has-filter (λ x. not (x == c)) d xs) ∙ there)).1 in false≢true (ap not (sym same) ∙ kept)

pub quit-touches : (old new : CoreState) (c : ℕ) → (is_present (stage_in (phase_in c old.seats)) ≡ true → (sid : ℕ) → names new.touched sid ≡ true) → Touches old (Quit c) new
unfolding Stands facts after happens without_connection
quit-touches old new c all setup hash h caller reply at may d there =
    let f : Facts = facts setup hash h in
    let stage : stage_in (phase_in c old.seats) ≡ (f.about c).stage =
    ap (λ (s : CoreState). stage_in (phase_in c s.seats)) at.stands
    ∙ ap stage_in (in-open c (λ seat. seat.phase) phases.Gone f.about f.opened may.0) ∙ stage-kept c (f.about c) in
    subst (NamesOne new.touched (f.about d)) (sym (about-parts c (departure (f.about c).stage (f.about c).sender.sid) f.about d))
    (affected-named new.touched (departure (f.about c).stage (f.about c).sender.sid) (d == c) (f.about d) (tidy_of setup hash h d)
    (left-told new.touched (f.about c).stage (f.about c).sender.sid (d == c) (f.about d) (is_present (f.about c).stage) refl (λ is. all (ap is_present stage ∙ is)))
    (λ is. absurd (false≢true is))
    (λ is _. absurd (left-other c d f.opened there is)))

-- ---- takes and joins, which concern nobody

taken-named : (touched : Touched) (count : ℕ) (a : ConnState) (same : Bool) → NamesOne touched a (cond same (with_lines_taken count a) a)
taken-named touched count a true = record {
  told = λ more. absurd (omega (arith, more, ap length (waiting-given count a), length-drop count (waiting a)));
  lags = λ was is. absurd (false≢true (sym was ∙ is));
  shut_out = λ was is. absurd (false≢true (sym was ∙ is));
}
taken-named touched count a false = same-named touched a

pub take-touches : (old new : CoreState) (c count : ℕ) → Touches old (Take c count) new
unfolding facts after
take-touches old new c count setup hash h caller reply at may d there = taken-named new.touched count ((facts setup hash h).about d) (d == c)

new-named : (touched : Touched) (owner sid : ℕ) (peer challenge : List ℕ) (a : ConnState) (same : Bool) → NamesOne touched a (cond same (newcomer owner sid peer challenge) a)
new-named touched owner sid peer challenge a true = record {
  told = λ more. absurd (omega (arith, more));
  lags = λ was is. absurd (false≢true is);
  shut_out = λ was is. absurd (false≢true is);
}
new-named touched owner sid peer challenge a false = same-named touched a

joined-named : (touched : Touched) (f : Facts) (owner d : ℕ) (peer challenge : List ℕ) (accepted : Bool)
    → NamesOne touched (f.about d) ((cond accepted (with_connection f owner peer challenge) f).about d)
unfolding with_connection
joined-named touched f owner d peer challenge true = new-named touched owner (next_sid f) peer challenge (f.about d) (d == (f.joins + 1))
joined-named touched f owner d peer challenge false = same-named touched (f.about d)

pub join-touches : (old new : CoreState) (peer challenge : List ℕ) (now : ℕ) → Touches old (Join peer challenge now) new
unfolding facts after
join-touches old new peer challenge now setup hash h caller reply at may d there =
    joined-named new.touched (facts setup hash h) caller d peer challenge (has_place setup (facts setup hash h) && has_joins (facts setup hash h))
