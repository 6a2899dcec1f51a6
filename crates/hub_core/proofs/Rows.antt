-- What waits for each connection once lines are given, and who is a member then.
use Rattle.std.proofs.Common.{◌≡◌, ◌∙◌, sym, ap, ap₂, refl, ℕ, zero, suc, ◌+◌, ◌-◌, ◌<◌, ◌≤◌, ◌&&◌, ◌||◌, Bool, true, false, List, [], ◌∷◌, ◌++◌, append-nil, drop, get_or, length, map, arith, Some, None}
use Rattle.std.specs.Prelude.{◌==◌, ◌≢◌, cond, nat_le}
use Rattle.std.proofs.lemmas.Bool.Decides.{nat_tests}
use Rattle.std.proofs.lemmas.List.{at_drop_all, at_drop_more, length-drop, length-map}
use Rattle.feature_route.specs.Audiences.{holds_words}
use Rattle.feature_route.specs.declared.receivers.Audience.TheVariants as audiences
use Rattle.outboxes.specs.Backlogs.{Backlog}
use Rattle.hub_core.specs.declared.delivery.Delivery.{Delivery}
use Rattle.hub_core.specs.declared.delivery.Delivery.TheVariants.{All as ToAll, Each}
use Rattle.hub_core.specs.declared.seat.Phase.TheVariants as phases
use Rattle.hub_core.specs.declared.seat.Seat.{Seat}
use Rattle.hub_core.specs.declared.share.Share.{Share}
use Rattle.hub_core.specs.Deliveries.{AreAll, IsDelivery, IsForAll, delivered, given_all, given_to_all, named_in, row_given, with_members}
use Rattle.hub_core.specs.Owed.{share_at, shares_from}
use Rattle.hub_core.specs.Phases.{phase_hears, stage_in}
use Rattle.hub_core.specs.Seats.{seat_share}
use Rattle.hub_core.specs.Backlogs.{backlogs_of, ends_by, given_backlog, given_each, here_in, is_here, members_of}
use Rattle.hub_rules.specs.declared.effect.Effect.{Effect}
use Rattle.hub_rules.specs.declared.effect.Hearers.TheVariants.{Others, Those}
use Rattle.hub_rules.specs.Effects.{is_present}
use Rattle.shared_log.specs.Tables.{Row, Table, at_place, at_row, given, new_row, taken, told, with_membership, with_rows}

abbrev Lines : Type 0
Lines = List (List ℕ)

-- ---- a change at one place

module _ {X Y : Type 0} (f : X → Y) where
  -- it is seen as another
  pub seen-at : (g : X → X) (h : Y → Y) → ((x : X) → f (g x) ≡ h (f x)) → (i : ℕ) (xs : List X) → map f (at_place i g xs) ≡ at_place i h (map f xs)
  seen-at g h same i [] = refl
  seen-at g h same zero (x ∷ xs) = ap (λ y. y ∷ map f xs) (same x)
  seen-at g h same (suc i) (x ∷ xs) = ap (λ ys. f x ∷ ys) (seen-at g h same i xs)

  -- it is not seen
  pub unseen-at : (g : X → X) → ((x : X) → f (g x) ≡ f x) → (i : ℕ) (xs : List X) → map f (at_place i g xs) ≡ map f xs
  unseen-at g same i [] = refl
  unseen-at g same zero (x ∷ xs) = ap (λ y. y ∷ map f xs) (same x)
  unseen-at g same (suc i) (x ∷ xs) = ap (λ ys. f x ∷ ys) (unseen-at g same i xs)

  pub unseen : (g : X → X) → ((x : X) → f (g x) ≡ f x) → (xs : List X) → map f (map g xs) ≡ map f xs
  unseen g same [] = refl
  unseen g same (x ∷ xs) = ap₂ (λ y ys. y ∷ ys) (same x) (unseen g same xs)

module _ {X : Type 0} where
  -- of two at one place the later counts
  pub twice-at : (x y : X) (i : ℕ) (xs : List X) → at_place i (λ _. y) (at_place i (λ _. x) xs) ≡ at_place i (λ _. y) xs
  twice-at x y i [] = refl
  twice-at x y zero (z ∷ zs) = refl
  twice-at x y (suc i) (z ∷ zs) = ap (λ ws. z ∷ ws) (twice-at x y i zs)

  -- what stands at the place already
  pub nothing-at : (g : X → X) → ((x : X) → g x ≡ x) → (i : ℕ) (xs : List X) → at_place i g xs ≡ xs
  nothing-at g same i [] = refl
  nothing-at g same zero (x ∷ xs) = ap (λ y. y ∷ xs) (same x)
  nothing-at g same (suc i) (x ∷ xs) = ap (λ ys. x ∷ ys) (nothing-at g same i xs)

  pub length-at : (g : X → X) (i : ℕ) (xs : List X) → length (at_place i g xs) ≡ length xs
  length-at g i [] = refl
  length-at g zero (x ∷ xs) = refl
  length-at g (suc i) (x ∷ xs) = ap suc (length-at g i xs)

  later-at : (g : X → X) (i : ℕ) (x : X) (xs : List X) → at_place (i + 1) g (x ∷ xs) ≡ x ∷ at_place i g xs
  later-at g i x xs =
      let next : i + 1 ≡ suc i = omega arith in ap (λ n. at_place n g (x ∷ xs)) next

-- lines of none change no row
pub row-nothing : (row : Row) → row_given [] row ≡ row
row-nothing row = refl

-- ---- lines for all

abbrev pub share_if : Bool → Lines → Lines
share_if true lines = lines
share_if false lines = []

-- what each is owed: the one at this place its own, and of the others those that are members these lines
abbrev shares_but : ℕ → Lines → Lines → List Bool → List Lines
shares_but place own lines [] = []
shares_but zero own lines (here ∷ more) = own ∷ map (λ b. share_if b lines) more
shares_but (suc place) own lines (here ∷ more) = share_if here lines ∷ shares_but place own lines more

told-by : (lines : Lines) → lines ≢ [] → (row : Row) (b : Bool) → row.is_member ≡ b → (told lines row).backlog ≡ given_backlog (share_if b lines) row.backlog
told-by [] some row b is = absurd (some refl)
told-by (line ∷ lines) some row true is = ap (λ b. (cond b (given (line ∷ lines) row) row).backlog) is
told-by (line ∷ lines) some row false is = ap (λ b. (cond b (given (line ∷ lines) row) row).backlog) is

pub tell-all : (lines : Lines) → lines ≢ [] → (rows : List Row) → backlogs_of (map (told lines) rows) ≡ given_each (map (λ b. share_if b lines) (members_of rows)) (backlogs_of rows)
unfolding given_each
tell-all lines some [] = refl
tell-all lines some (row ∷ rows) = ap₂ (λ (o : Backlog) (os : List Backlog). o ∷ os) (told-by lines some row row.is_member refl) (tell-all lines some rows)

-- who is no member hears its own alone
all-given : (others own : Lines) → others ≢ [] → (place : ℕ) (rows : List Row) → place < length rows
    → backlogs_of (given_to_all others own place rows) ≡ given_each (shares_but place own others (members_of rows)) (backlogs_of rows)
unfolding given_each
all-given others own some place [] within = absurd (omega (arith, within))
all-given others own some zero (row ∷ rows) within = ap (λ (os : List Backlog). given_backlog own row.backlog ∷ os) (tell-all others some rows)
all-given others own some (suc place) (row ∷ rows) within =
    ap₂ (λ (o : Backlog) (os : List Backlog). o ∷ os) (told-by others some row row.is_member refl) (all-given others own some place rows (omega (arith, within)))

-- ---- whom lines for all are for

other-share : (c : ℕ) (effect : Effect) (seat : Seat) → IsForAll effect → (seat.number == c) ≡ false → share_if (is_here seat) effect.others ≡ seat_share c effect seat
other-share c effect seat for_all other =
    sym (ap (λ b. cond (phase_hears seat.phase b effect.hearers seat.sender.sid) effect.others [] ++ cond b effect.own []) other
    ∙ append-nil (cond (phase_hears seat.phase false effect.hearers seat.sender.sid) effect.others [])
    ∙ ap (λ b. cond b effect.others []) (for_all.all seat.phase seat.sender.sid)
    ∙ share-cond (is_present (stage_in seat.phase)) effect.others) where
      share-cond : (b : Bool) (lines : Lines) → cond b lines [] ≡ share_if b lines
      share-cond true lines = refl
      share-cond false lines = refl

others-share : (c : ℕ) (effect : Effect) → IsForAll effect → (seats : List Seat) → ((i : ℕ) (d : Seat) → i < length seats → ((get_or seats i d).number == c) ≡ false)
    → map (λ b. share_if b effect.others) (here_in seats) ≡ map (seat_share c effect) seats
others-share c effect for_all [] other = refl
others-share c effect for_all (seat ∷ seats) other =
    ap₂ (λ (s : Lines) (ss : List Lines). s ∷ ss) (other-share c effect seat for_all (other 0 seat (omega arith)))
    (others-share c effect for_all seats (λ i d within. other (suc i) d (omega (arith, within))))

all-share : (c : ℕ) (effect : Effect) (own : Lines) → IsForAll effect → (place : ℕ) (seats : List Seat) → place < length seats
    → ((d : Seat) → own ≡ seat_share c effect (get_or seats place d))
    → ((i : ℕ) (d : Seat) → i < length seats → i ≢ place → ((get_or seats i d).number == c) ≡ false)
    → shares_but place own effect.others (here_in seats) ≡ map (seat_share c effect) seats
all-share c effect own for_all place [] within mine other = absurd (omega (arith, within))
all-share c effect own for_all zero (seat ∷ seats) within mine other =
    ap₂ (λ (s : Lines) (ss : List Lines). s ∷ ss) (mine seat)
    (others-share c effect for_all seats (λ i d less. other (suc i) d (omega (arith, less)) (λ same. omega (arith, same))))
all-share c effect own for_all (suc place) (seat ∷ seats) within mine other =
    ap₂ (λ (s : Lines) (ss : List Lines). s ∷ ss) (other-share c effect seat for_all (other 0 seat (omega arith) (λ same. omega (arith, same))))
    (all-share c effect own for_all place seats (omega (arith, within)) mine (λ i d less differs. other (suc i) d (omega (arith, less)) (λ same. differs (omega (arith, same)))))

-- ---- shares of those that hear something

none-given : (rows : List Row) → given_all [] rows ≡ rows
unfolding given_all
none-given rows = refl

pub first-given : (share : Share) (shares : List Share) (rows : List Row) → given_all (share ∷ shares) rows ≡ given_all shares (at_place share.place (row_given share.lines) rows)
unfolding given_all
first-given share shares rows = refl

later-by : (place : ℕ) (owed : Seat → Lines) (lines : Lines) (xs : List Seat) (row : Row) (rows : List Row)
    → ((row : Row) (rows : List Row) → given_all (shares_from (place + 1 + 1) owed xs) (row ∷ rows) ≡ row ∷ given_all (shares_from (place + 1) owed xs) rows)
    → given_all (share_at (place + 1) lines ++ shares_from (place + 1 + 1) owed xs) (row ∷ rows) ≡ row ∷ given_all (share_at place lines ++ shares_from (place + 1) owed xs) rows
unfolding given_all
later-by place owed [] xs row rows rest = rest row rows
later-by place owed (line ∷ lines) xs row rows rest =
    ap (given_all (shares_from (place + 1 + 1) owed xs)) (later-at (row_given (line ∷ lines)) place row rows) ∙ rest row (at_place place (row_given (line ∷ lines)) rows)

-- the shares of those behind the first leave it as it is
later-given : (place : ℕ) (owed : Seat → Lines) (xs : List Seat) (row : Row) (rows : List Row)
    → given_all (shares_from (place + 1) owed xs) (row ∷ rows) ≡ row ∷ given_all (shares_from place owed xs) rows
unfolding shares_from given_all
later-given place owed [] row rows = refl
later-given place owed (x ∷ xs) row rows = later-by place owed (owed x) xs row rows (later-given (place + 1) owed xs)

first-each : (owed : Seat → Lines) (lines : Lines) (xs : List Seat) (row : Row) (rows : List Row)
    → backlogs_of (given_all (shares_from 0 owed xs) rows) ≡ given_each (map owed xs) (backlogs_of rows)
    → backlogs_of (given_all (share_at 0 lines ++ shares_from 1 owed xs) (row ∷ rows)) ≡ given_backlog lines row.backlog ∷ given_each (map owed xs) (backlogs_of rows)
unfolding given_all
first-each owed [] xs row rows rest = ap backlogs_of (later-given 0 owed xs row rows) ∙ ap (λ (os : List Backlog). row.backlog ∷ os) rest
first-each owed (line ∷ lines) xs row rows rest =
    ap backlogs_of (later-given 0 owed xs (row_given (line ∷ lines) row) rows) ∙ ap (λ (os : List Backlog). given_backlog (line ∷ lines) row.backlog ∷ os) rest

each-given : (owed : Seat → Lines) (xs : List Seat) (rows : List Row) → length xs ≡ length rows
    → backlogs_of (given_all (shares_from 0 owed xs) rows) ≡ given_each (map owed xs) (backlogs_of rows)
unfolding shares_from given_all given_each
each-given owed [] rows same = refl
each-given owed (x ∷ xs) [] same = absurd (omega (arith, same))
each-given owed (x ∷ xs) (row ∷ rows) same = first-each owed (owed x) xs row rows (each-given owed xs rows (omega (arith, same)))

members-given : (shares : List Share) (rows : List Row) → members_of (given_all shares rows) ≡ members_of rows
unfolding given_all
members-given [] rows = refl
members-given (share ∷ shares) rows =
    members-given shares (at_place share.place (row_given share.lines) rows)
    ∙ unseen-at (λ (row : Row). row.is_member) (row_given share.lines) (λ row. refl) share.place rows

-- ---- who is a member

abbrev set_from : ℕ → List Bool → List Bool → List Bool
set_from place [] members = members
set_from place (here ∷ more) members = set_from (place + 1) more (at_place place (λ _. here) members)

members-set : (place : ℕ) (here : List Bool) (rows : List Row) → members_of (with_members place here rows) ≡ set_from place here (members_of rows)
unfolding with_members
members-set place [] rows = refl
members-set place (here ∷ more) rows =
    members-set (place + 1) more (at_place place (with_membership here) rows)
    ∙ ap (set_from (place + 1) more) (seen-at (λ (row : Row). row.is_member) (with_membership here) (λ _. here) (λ row. refl) place rows)

backlogs-set : (place : ℕ) (here : List Bool) (rows : List Row) → backlogs_of (with_members place here rows) ≡ backlogs_of rows
unfolding with_members
backlogs-set place [] rows = refl
backlogs-set place (here ∷ more) rows =
    backlogs-set (place + 1) more (at_place place (with_membership here) rows)
    ∙ unseen-at (λ (row : Row). row.backlog) (with_membership here) (λ row. refl) place rows

set-later : (place : ℕ) (here : List Bool) (b : Bool) (members : List Bool) → set_from (place + 1) here (b ∷ members) ≡ b ∷ set_from place here members
set-later place [] b members = refl
set-later place (here ∷ more) b members =
    ap (set_from (place + 1 + 1) more) (later-at (λ _. here) place b members) ∙ set-later (place + 1) more b (at_place place (λ _. here) members)

set-all : (here members : List Bool) → length here ≡ length members → set_from 0 here members ≡ here
set-all [] [] same = refl
set-all [] (b ∷ members) same = absurd (omega (arith, same))
set-all (here ∷ more) [] same = absurd (omega (arith, same))
set-all (here ∷ more) (b ∷ members) same = set-later 0 more here members ∙ ap (λ bs. here ∷ bs) (set-all more members (omega (arith, same)))

told-as : (lines : Lines) (row : Row) (b : Bool) → row.is_member ≡ b → (told lines row).is_member ≡ row.is_member
told-as lines row true is = ap (λ b. (cond b (given lines row) row).is_member) is
told-as lines row false is = ap (λ b. (cond b (given lines row) row).is_member) is

pub told-member : (lines : Lines) (row : Row) → (told lines row).is_member ≡ row.is_member
told-member lines row = told-as lines row row.is_member refl

pub members-kept : (others own : Lines) (b : Bool) (place : ℕ) (rows : List Row)
    → members_of (at_place place (with_membership b) (given_to_all others own place rows)) ≡ at_place place (λ _. b) (members_of rows)
members-kept others own b place rows =
    seen-at (λ (row : Row). row.is_member) (with_membership b) (λ _. b) (λ row. refl) place (given_to_all others own place rows)
    ∙ ap (at_place place (λ _. b))
    (unseen-at (λ (row : Row). row.is_member) (row_given own) (λ row. refl) place (map (told others) (at_place place (with_membership false) rows))
    ∙ unseen (λ (row : Row). row.is_member) (told others) (told-member others) (at_place place (with_membership false) rows)
    ∙ seen-at (λ (row : Row). row.is_member) (with_membership false) (λ _. false) (λ row. refl) place rows)
    ∙ twice-at false b place (members_of rows)

module _ (c place : ℕ) (effect : Effect) (seats : List Seat) (rows : List Row) (here : List Bool) (within : place < length seats) (even : length seats ≡ length rows)
    (members : members_of rows ≡ here_in seats)
    (other : (i : ℕ) (d : Seat) → i < length seats → i ≢ place → ((get_or seats i d).number == c) ≡ false) where
  -- what waits once a delivery was given
  pub backlogs-delivered : (delivery : Delivery) → IsDelivery delivery place c effect seats
      → backlogs_of (delivered delivery place here rows) ≡ given_each (map (seat_share c effect) seats) (backlogs_of rows)
  backlogs-delivered (ToAll others own) is =
      unseen-at (λ (row : Row). row.backlog) (with_membership (get_or here place false)) (λ row. refl) place (given_to_all others own place rows)
      ∙ ap (λ ls. backlogs_of (given_to_all ls own place rows)) is.0
      ∙ all-given effect.others own is.2.some place rows (omega (arith, within, even))
      ∙ ap (λ bs. given_each (shares_but place own effect.others bs) (backlogs_of rows)) members
      ∙ ap (λ ss. given_each ss (backlogs_of rows)) (all-share c effect own is.2 place seats within is.1 other)
  backlogs-delivered (Each shares None) is =
      unseen-at (λ (row : Row). row.backlog) (with_membership (get_or here place false)) (λ row. refl) place (given_all shares.items rows)
      ∙ ap (λ ss. backlogs_of (given_all ss rows)) is.0 ∙ each-given (seat_share c effect) seats rows even
  backlogs-delivered (Each shares (Some named)) is =
      backlogs-set 0 here (given_all shares.items rows)
      ∙ ap (λ ss. backlogs_of (given_all ss rows)) is.0 ∙ each-given (seat_share c effect) seats rows even

-- who is a member then
pub members-delivered : (place : ℕ) (here : List Bool) (rows : List Row) (delivery : Delivery) → length here ≡ length rows
    → (named_in delivery ≡ None → at_place place (λ _. get_or here place false) (members_of rows) ≡ here)
    → members_of (delivered delivery place here rows) ≡ here
members-delivered place here rows (ToAll others own) even alone = members-kept others own (get_or here place false) place rows ∙ alone refl
members-delivered place here rows (Each shares None) even alone =
    seen-at (λ (row : Row). row.is_member) (with_membership (get_or here place false)) (λ _. get_or here place false) (λ row. refl) place (given_all shares.items rows)
    ∙ ap (at_place place (λ _. get_or here place false)) (members-given shares.items rows) ∙ alone refl
members-delivered place here rows (Each shares (Some named)) even alone =
    members-set 0 here (given_all shares.items rows)
    ∙ ap (set_from 0 here) (members-given shares.items rows)
    ∙ set-all here (members_of rows) (even ∙ sym (length-map rows (λ (row : Row). row.is_member)))

-- ---- one step

-- nothing stands behind the last place
past-at : {X : Type 0} (g : X → X) (i : ℕ) (xs : List X) → length xs ≤ i → at_place i g xs ≡ xs
past-at g i [] past = refl
past-at g zero (x ∷ xs) past = absurd (omega (arith, past))
past-at g (suc i) (x ∷ xs) past = ap (λ ys. x ∷ ys) (past-at g i xs (omega (arith, past)))

abbrev with_given : List Share → Table → Table
with_given shares table = with_rows (given_all shares table.rows) table

pub share-given : (all old new : Table) (before rest : List Share) (share : Share) → all ≡ with_given before old → before ≡ share ∷ rest
    → new ≡ at_row share.place (row_given share.lines) old → all ≡ with_given rest new
share-given all old new before rest share done is is_new =
    done ∙ ap (λ ss. with_given ss old) is ∙ ap (λ rows. with_rows rows old) (first-given share rest old.rows) ∙ sym (ap (with_given rest) is_new)

pub share-past : (all old : Table) (before rest : List Share) (share : Share) → all ≡ with_given before old → before ≡ share ∷ rest → length old.rows ≤ share.place → all ≡ with_given rest old
share-past all old before rest share done is past =
    done ∙ ap (λ ss. with_given ss old) is
    ∙ ap (λ rows. with_rows rows old) (first-given share rest old.rows ∙ ap (given_all rest) (past-at (row_given share.lines) share.place old.rows past))

no-items : {A : Type 0} (xs : List A) → length xs ≡ 0 → xs ≡ []
no-items [] e = refl
no-items (x ∷ xs) e = absurd (omega (arith, e))

pub shares-given : (all new : Table) (before : List Share) → all ≡ with_given before new → length before ≡ 0 → new ≡ all
shares-given all new before done none = sym (done ∙ ap (λ ss. with_given ss new) (no-items before none) ∙ ap (λ rows. with_rows rows new) (none-given new.rows))

abbrev with_here : ℕ → List Bool → Table → Table
with_here place here table = with_rows (with_members place here table.rows) table

next-member : (place : ℕ) (here : Bool) (more : List Bool) (rows : List Row) → with_members place (here ∷ more) rows ≡ with_members (place + 1) more (at_place place (with_membership here) rows)
unfolding with_members
next-member place here more rows = refl

last-member : (place : ℕ) (rows : List Row) → with_members place [] rows ≡ rows
unfolding with_members
last-member place rows = refl

pub member-set : (place : ℕ) (seats : List Seat) (seat : Seat) (all old new : Table) (here : Bool) → place < length seats → seat ≡ get_or seats place seat → here ≡ is_here seat
    → all ≡ with_here place (here_in (drop place seats)) old → new ≡ at_row place (with_membership here) old → all ≡ with_here (place + 1) (here_in (drop (place + 1) seats)) new
member-set place seats seat all old new here within is present done is_new =
    done ∙ at_drop_more (λ ss. with_here place (here_in ss) old) seats place seat within
    ∙ ap (λ rows. with_rows rows old) (next-member place (is_here (get_or seats place seat)) (here_in (drop (place + 1) seats)) old.rows)
    ∙ sym (ap (with_here (place + 1) (here_in (drop (place + 1) seats))) (is_new ∙ ap (λ b. at_row place (with_membership b) old) (present ∙ ap is_here is)))

pub member-past : (place : ℕ) (seats : List Seat) (seat : Seat) (all old new : Table) → place < length seats → length old.rows ≤ place
    → all ≡ with_here place (here_in (drop place seats)) old → new ≡ old → all ≡ with_here (place + 1) (here_in (drop (place + 1) seats)) new
member-past place seats seat all old new within past done same =
    done ∙ at_drop_more (λ ss. with_here place (here_in ss) old) seats place seat within
    ∙ ap (λ rows. with_rows rows old)
    (next-member place (is_here (get_or seats place seat)) (here_in (drop (place + 1) seats)) old.rows
    ∙ ap (with_members (place + 1) (here_in (drop (place + 1) seats))) (past-at (with_membership (is_here (get_or seats place seat))) place old.rows past))
    ∙ sym (ap (with_here (place + 1) (here_in (drop (place + 1) seats))) same)

pub members-end : (place : ℕ) (seats : List Seat) (all new : Table) → length seats ≤ place → all ≡ with_here place (here_in (drop place seats)) new → new ≡ all
members-end place seats all new over done =
    sym (done ∙ at_drop_all (λ ss. with_here place (here_in ss) new) seats place over ∙ ap (λ rows. with_rows rows new) (last-member place new.rows))

-- ---- takes

-- how much is left where the first lines were taken
pub taken-left : (count place : ℕ) (rows : List Row) → place < length rows
    → length (get_or (at_place place (taken count) rows) place (new_row 0 0)).backlog.lines ≡ length (drop count (get_or rows place (new_row 0 0)).backlog.lines)
taken-left count place [] within = absurd (omega (arith, within))
taken-left count zero (row ∷ rows) within = refl
taken-left count (suc place) (row ∷ rows) within = taken-left count place rows (omega (arith, within))

none-left : (lines count left : ℕ) → left ≡ lines - count → (left == 0) ≡ nat_le lines count
none-left lines count left is = grind (arith, nat_tests, is)

ended-as : (left over lags : Bool) → ((left && lags) || (left && over)) ≡ (left && (over || lags))
ended-as left over lags = grind arith

pub ended-by : (count : ℕ) (over : Bool) (backlog : Backlog) (ended : Bool) (left : ℕ) → ended ≡ ((length (drop count backlog.lines) == 0) && backlog.lags)
    → left ≡ length (drop count backlog.lines) → (ended || ((left == 0) && over)) ≡ ends_by over count backlog
ended-by count over backlog ended left is_ended is_left =
    ap₂ (λ b n. b || ((n == 0) && over)) is_ended is_left
    ∙ ended-as (length (drop count backlog.lines) == 0) over backlog.lags
    ∙ ap (λ b. b && (over || backlog.lags)) (none-left (length backlog.lines) count (length (drop count backlog.lines)) (length-drop count backlog.lines))

-- ---- for whom lines are

pub all_but : AreAll Others
all_but phases.Protocol sid = refl
all_but phases.Identify sid = refl
all_but (phases.Verify newcomer expected) sid = refl
all_but (phases.Normal support) sid = refl
all_but phases.Gone sid = refl

pub all_those : AreAll (Those audiences.All)
unfolding holds_words
all_those phases.Protocol sid = refl
all_those phases.Identify sid = refl
all_those (phases.Verify newcomer expected) sid = refl
all_those (phases.Normal support) sid = refl
all_those phases.Gone sid = refl

-- what the sender hears itself
pub sender-owed : (c : ℕ) (effect : Effect) (seat : Seat) → (seat.number == c) ≡ true
    → cond (phase_hears seat.phase true effect.hearers seat.sender.sid) effect.others [] ++ effect.own ≡ seat_share c effect seat
sender-owed c effect seat is = sym (ap (λ b. cond (phase_hears seat.phase b effect.hearers seat.sender.sid) effect.others [] ++ cond b effect.own []) is)
