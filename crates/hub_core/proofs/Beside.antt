-- What waits for a connection is found at the place of its seat.
use Rattle.std.proofs.Common.{◌≡◌, ◌∙◌, sym, ap, ap₂, refl, subst, ℕ, zero, suc, ◌<◌, ◌&&◌, Bool, true, false, cond, List, [], ◌∷◌, ◌++◌, length, get_or, map, set, arith, None}
use Rattle.std.specs.Prelude.{◌==◌, ◌≢◌, not, OnErr, OnOk, Result, Ok, Err}
use Rattle.std.specs.Result.{is_err}
use Rattle.std.proofs.lemmas.Bool.{false≢true}
use Rattle.std.specs.List.{remove}
use Rattle.std.proofs.lemmas.List.{length-map, map-append}
use Rattle.outboxes.specs.Backlogs.{Backlog, empty_backlog}
use Rattle.outboxes.specs.Quits.{quit_line}
use Rattle.hub_core.specs.declared.delivery.Delivery.{Delivery}
use Rattle.hub_core.specs.declared.delivery.Delivery.TheVariants.{All as ToAll, Each}
use Rattle.hub_core.specs.declared.seat.Seat.{Seat}
use Rattle.hub_core.specs.Deliveries.{IsDelivery, WaitsAs, delivered, named_in}
use Rattle.hub_core.specs.Departures.{others_of, told_of}
use Rattle.hub_core.specs.Backlogs.{AreBeside, at_backlog, backlog_after_take, backlog_in, backlogs_but, backlogs_of, given_each, here_in, is_here, members_of, no_backlog}
use Rattle.hub_rules.specs.declared.effect.Effect.{Effect}
use Rattle.hub_rules.specs.Shares.{change_at}
use Rattle.hub_core.proofs.Places.{StandsFirst, rest_first}
use Rattle.hub_core.proofs.Rows.{members-delivered, share_if, tell-all, told-member, unseen, unseen-at}
use Rattle.shared_log.specs.Tables.{Row, Table, after_quit, at_place, at_row, is_member_at, new_row, taken, told, told_if, with_new, with_rows, with_settled, without}

-- there is one for each seat
pub even : (table : Table) (seats : List Seat) → AreBeside table seats → length table.rows ≡ length seats
even table seats beside = sym (length-map table.rows (λ (row : Row). row.is_member)) ∙ ap length beside.members ∙ length-map seats is_here

module _ (c : ℕ) where
  pub backlog-at : (seats : List Seat) (rows : List Row) (i : ℕ) → StandsFirst c seats i → i < length rows → backlog_in c seats (backlogs_of rows) ≡ (get_or rows i (new_row 0 0)).backlog
  unfolding backlog_in
  backlog-at [] rows i at within = absurd (omega (arith, at.within))
  backlog-at (seat ∷ seats) [] i at within = absurd (omega (arith, within))
  backlog-at (seat ∷ seats) (row ∷ rows) zero at within = ap (λ b. cond b row.backlog (backlog_in c seats (backlogs_of rows))) (at.here seat)
  backlog-at (seat ∷ seats) (row ∷ rows) (suc i) at within =
      ap (λ b. cond b row.backlog (backlog_in c seats (backlogs_of rows))) (at.before zero seat (omega arith))
      ∙ backlog-at seats rows i (rest_first c seat seats i at) (omega (arith, within))

  pub taken-at : (count : ℕ) (seats : List Seat) (rows : List Row) (i : ℕ) → StandsFirst c seats i
      → backlogs_of (at_place i (taken count) rows) ≡ at_backlog c (backlog_after_take count) seats (backlogs_of rows)
  unfolding at_backlog
  taken-at count [] rows i at = absurd (omega (arith, at.within))
  taken-at count (seat ∷ seats) [] i at = refl
  taken-at count (seat ∷ seats) (row ∷ rows) zero at =
      sym (ap (λ b. cond b (backlog_after_take count row.backlog ∷ backlogs_of rows) (row.backlog ∷ at_backlog c (backlog_after_take count) seats (backlogs_of rows))) (at.here seat))
  taken-at count (seat ∷ seats) (row ∷ rows) (suc i) at =
      ap (λ os. row.backlog ∷ os) (taken-at count seats rows i (rest_first c seat seats i at))
      ∙ sym (ap (λ b. cond b (backlog_after_take count row.backlog ∷ backlogs_of rows) (row.backlog ∷ at_backlog c (backlog_after_take count) seats (backlogs_of rows))) (at.before zero seat (omega arith)))

  pub but-at : (seats : List Seat) (rows : List Row) (i : ℕ) → StandsFirst c seats i → backlogs_of (remove rows i) ≡ backlogs_but c seats (backlogs_of rows)
  unfolding backlogs_but
  but-at [] rows i at = absurd (omega (arith, at.within))
  but-at (seat ∷ seats) [] zero at = refl
  but-at (seat ∷ seats) [] (suc i) at = refl
  but-at (seat ∷ seats) (row ∷ rows) zero at = sym (ap (λ b. cond b (backlogs_of rows) (row.backlog ∷ backlogs_but c seats (backlogs_of rows))) (at.here seat))
  but-at (seat ∷ seats) (row ∷ rows) (suc i) at =
      ap (λ os. row.backlog ∷ os) (but-at seats rows i (rest_first c seat seats i at))
      ∙ sym (ap (λ b. cond b (backlogs_of rows) (row.backlog ∷ backlogs_but c seats (backlogs_of rows))) (at.before zero seat (omega arith)))

  all-others : (seats : List Seat) → ((i : ℕ) (d : Seat) → i < length seats → ((get_or seats i d).number == c) ≡ false) → seats ≡ others_of c seats
  all-others [] other = refl
  all-others (seat ∷ seats) other =
      ap (λ ss. seat ∷ ss) (all-others seats (λ i d within. other (suc i) d (omega (arith, within))))
      ∙ sym (ap (λ b. cond (not b) (seat ∷ others_of c seats) (others_of c seats)) (other 0 seat (omega arith)))

  -- without the seat at its place the others are left
  pub others-at : (seats : List Seat) (i : ℕ) → StandsFirst c seats i → ((k : ℕ) (d : Seat) → k < length seats → k ≢ i → ((get_or seats k d).number == c) ≡ false)
      → remove seats i ≡ others_of c seats
  others-at [] i at other = absurd (omega (arith, at.within))
  others-at (seat ∷ seats) zero at other =
      all-others seats (λ k d within. other (suc k) d (omega (arith, within)) (λ same. omega (arith, same)))
      ∙ sym (ap (λ b. cond (not b) (seat ∷ others_of c seats) (others_of c seats)) (at.here seat))
  others-at (seat ∷ seats) (suc i) at other =
      ap (λ ss. seat ∷ ss) (others-at seats i (rest_first c seat seats i at) (λ k d within differs. other (suc k) d (omega (arith, within)) (λ same. differs (omega (arith, same)))))
      ∙ sym (ap (λ b. cond (not b) (seat ∷ others_of c seats) (others_of c seats)) (at.before zero seat (omega arith)))

-- ---- rows and seats that stay beside each other

module _ {X Y : Type 0} (f : X → Y) where
  map-remove : (i : ℕ) (xs : List X) → map f (remove xs i) ≡ remove (map f xs) i
  map-remove zero [] = refl
  map-remove (suc i) [] = refl
  map-remove zero (x ∷ xs) = refl
  map-remove (suc i) (x ∷ xs) = ap (λ ys. f x ∷ ys) (map-remove i xs)

  map-read : (i : ℕ) (xs : List X) (d : X) → get_or (map f xs) i (f d) ≡ f (get_or xs i d)
  map-read i [] d = refl
  map-read zero (x ∷ xs) d = refl
  map-read (suc i) (x ∷ xs) d = map-read i xs d

  map-within : (i : ℕ) (xs : List X) (x : X) (y : Y) → i < length xs → x ≡ get_or xs i x → get_or (map f xs) i y ≡ f x
  map-within i [] x y within is = absurd (omega (arith, within))
  map-within zero (z ∷ zs) x y within is = ap f (sym is)
  map-within (suc i) (z ∷ zs) x y within is = map-within i zs x y (omega (arith, within)) is

  map-set : (i : ℕ) (xs : List X) (x : X) → map f (set xs i x) ≡ at_place i (λ _. f x) (map f xs)
  map-set i [] x = refl
  map-set zero (z ∷ zs) x = refl
  map-set (suc i) (z ∷ zs) x = ap (λ ws. f z ∷ ws) (map-set i zs x)

append-removed : {X : Type 0} (xs : List X) (x : X) (i : ℕ) → i ≡ length xs → remove (xs ++ x ∷ []) i ≡ xs
append-removed [] x i is = ap (λ n. remove (x ∷ []) n) is
append-removed (y ∷ ys) x zero is = absurd (omega (arith, is))
append-removed (y ∷ ys) x (suc i) is = ap (λ zs. y ∷ zs) (append-removed ys x i (omega (arith, is)))

-- who is present is a member
pub member-at : (rows : List Row) (seats : List Seat) (i : ℕ) (seat : Seat) → members_of rows ≡ here_in seats → i < length seats → seat ≡ get_or seats i seat
    → (get_or rows i (new_row 0 0)).is_member ≡ is_here seat
member-at rows seats i seat members within is =
    sym (map-read (λ (row : Row). row.is_member) i rows (new_row 0 0)) ∙ ap (λ bs. get_or bs i false) members ∙ map-within is_here i seats seat false within is

pub beside-same : (a b : Table) (seats : List Seat) → members_of b.rows ≡ members_of a.rows → b.cap ≡ a.cap → b.bytes ≡ a.bytes → AreBeside a seats → AreBeside b seats
beside-same a b seats members cap bytes beside = record { members = members ∙ beside.members; cap = cap ∙ beside.cap; bytes = bytes ∙ beside.bytes }

-- ---- a take

pub beside-taken : (count i : ℕ) (a b : Table) (seats : List Seat) → WaitsAs (at_row i (taken count) a) b → AreBeside a seats → AreBeside b seats
beside-taken count i a b seats waits beside =
    beside-same a b seats (ap members_of waits.rows ∙ unseen-at (λ (row : Row). row.is_member) (taken count) (λ row. refl) i a.rows) waits.cap waits.bytes beside

-- ---- a join

pub beside-joined : (settled : List Bool) (a b : Table) (seats : List Seat) (seat : Seat) → b ≡ with_settled settled (with_new a) → is_here seat ≡ false → AreBeside a seats
    → AreBeside b (seats ++ seat ∷ [])
beside-joined settled a b seats seat is away beside = record {
  members = ap (λ (t : Table). members_of t.rows) is
      ∙ map-append (λ (row : Row). row.is_member) a.rows (new_row a.cap a.bytes ∷ [])
      ∙ ap₂ (λ bs c. bs ++ c ∷ []) beside.members (sym away) ∙ sym (map-append is_here seats (seat ∷ []));
  cap = ap (λ (t : Table). t.cap) is ∙ beside.cap;
  bytes = ap (λ (t : Table). t.bytes) is ∙ beside.bytes;
}

pub backlogs-joined : (settled : List Bool) (a b : Table) (seats : List Seat) → b ≡ with_settled settled (with_new a) → AreBeside a seats → backlogs_of b.rows ≡ backlogs_of a.rows ++ no_backlog ∷ []
backlogs-joined settled a b seats is beside =
    ap (λ (t : Table). backlogs_of t.rows) is ∙ map-append (λ (row : Row). row.backlog) a.rows (new_row a.cap a.bytes ∷ [])
    ∙ ap₂ (λ cap bytes. backlogs_of a.rows ++ empty_backlog cap bytes ∷ []) beside.cap beside.bytes

-- one that could not join is gone again
pub rows-again : (settled : List Bool) (i : ℕ) (a b d : Table) → b ≡ with_settled settled (with_new a) → d ≡ without i b → i ≡ length a.rows → WaitsAs a d
rows-again settled i a b d is gone at = record {
  rows = ap (λ (t : Table). t.rows) (gone ∙ ap (without i) is) ∙ append-removed a.rows (new_row a.cap a.bytes) i at;
  cap = ap (λ (t : Table). t.cap) (gone ∙ ap (without i) is);
  bytes = ap (λ (t : Table). t.bytes) (gone ∙ ap (without i) is);
}

pub beside-again : (a b : Table) (seats : List Seat) → WaitsAs a b → AreBeside a seats → AreBeside b seats
beside-again a b seats waits beside = beside-same a b seats (ap members_of waits.rows) waits.cap waits.bytes beside

-- ---- a quit

module _ (sid : ℕ) where
  nothing-told : (seats : List Seat) (backlogs : List Backlog) → given_each (map (told_of false sid) seats) backlogs ≡ backlogs
  unfolding given_each
  nothing-told [] backlogs = refl
  nothing-told (seat ∷ seats) [] = refl
  nothing-told (seat ∷ seats) (backlog ∷ backlogs) = ap (λ os. backlog ∷ os) (nothing-told seats backlogs)

  told-share : (b : Bool) → share_if b (quit_line sid ∷ []) ≡ cond (true && b) (quit_line sid ∷ []) []
  told-share true = refl
  told-share false = refl

  told-shares : (seats : List Seat) → map (λ b. share_if b (quit_line sid ∷ [])) (here_in seats) ≡ map (told_of true sid) seats
  told-shares [] = refl
  told-shares (seat ∷ seats) = ap₂ (λ (s : List (List ℕ)) ss. s ∷ ss) (told-share (is_here seat)) (told-shares seats)

  pub backlogs-told : (was_here : Bool) (seats : List Seat) (rows : List Row) → members_of rows ≡ here_in seats
      → backlogs_of (told_if was_here (quit_line sid ∷ []) rows) ≡ given_each (map (told_of was_here sid) seats) (backlogs_of rows)
  backlogs-told true seats rows members =
      tell-all (quit_line sid ∷ []) (λ none. cc) rows
      ∙ ap (λ bs. given_each (map (λ b. share_if b (quit_line sid ∷ [])) bs) (backlogs_of rows)) members
      ∙ ap (λ ss. given_each ss (backlogs_of rows)) (told-shares seats)
  backlogs-told false seats rows members = sym (nothing-told seats (backlogs_of rows))

  members-told : (was_here : Bool) (rows : List Row) → members_of (told_if was_here (quit_line sid ∷ []) rows) ≡ members_of rows
  members-told true rows = unseen (λ (row : Row). row.is_member) (told (quit_line sid ∷ [])) (told-member (quit_line sid ∷ [])) rows
  members-told false rows = refl

pub members-removed : (i : ℕ) (rows : List Row) (seats : List Seat) → members_of rows ≡ here_in seats → members_of (remove rows i) ≡ here_in (remove seats i)
members-removed i rows seats members = map-remove (λ (row : Row). row.is_member) i rows ∙ ap (λ bs. remove bs i) members ∙ sym (map-remove is_here i seats)

pub beside-left : (settled : List Bool) (i sid : ℕ) (a b : Table) (seats : List Seat) → b ≡ with_settled settled (after_quit i sid a) → AreBeside a seats → AreBeside b (remove seats i)
beside-left settled i sid a b seats is beside = record {
  members = ap (λ (t : Table). members_of t.rows) is ∙ members-told sid (is_member_at i a) (remove a.rows i) ∙ members-removed i a.rows seats beside.members;
  cap = ap (λ (t : Table). t.cap) is ∙ beside.cap;
  bytes = ap (λ (t : Table). t.bytes) is ∙ beside.bytes;
}

-- ---- a delivery

pub beside-delivered : (place : ℕ) (delivery : Delivery) (a b : Table) (seats now : List Seat) → WaitsAs (with_rows (delivered delivery place (here_in now) a.rows) a) b → length now ≡ length a.rows
    → (named_in delivery ≡ None → at_place place (λ _. get_or (here_in now) place false) (members_of a.rows) ≡ here_in now) → AreBeside a seats → AreBeside b now
beside-delivered place delivery a b seats now waits same alone beside = record {
  members = ap members_of waits.rows ∙ members-delivered place (here_in now) a.rows delivery (length-map now is_here ∙ same) alone;
  cap = waits.cap ∙ beside.cap;
  bytes = waits.bytes ∙ beside.bytes;
}

-- where one seat alone changed
pub here-set : (place : ℕ) (seats : List Seat) (seat : Seat) (rows : List Row) → place < length seats → members_of rows ≡ here_in seats
    → at_place place (λ _. get_or (here_in (set seats place seat)) place false) (members_of rows) ≡ here_in (set seats place seat)
here-set place seats seat rows within members =
    ap₂ (λ b bs. at_place place (λ _. b) bs) (ap (λ bs. get_or bs place false) (map-set is_here place seats seat) ∙ set-read (is_here seat) place (here_in seats) (subst (λ n. place < n) (sym (length-map seats is_here)) within)) members
    ∙ sym (map-set is_here place seats seat) where
      set-read : (b : Bool) (i : ℕ) (bs : List Bool) → i < length bs → get_or (at_place i (λ _. b) bs) i false ≡ b
      set-read b i [] within = absurd (omega (arith, within))
      set-read b zero (x ∷ xs) within = refl
      set-read b (suc i) (x ∷ xs) within = set-read b i xs (omega (arith, within))

-- what holds of a call that ended so
pub err-holds : {A E P : Type 0} (r : Result A E) → is_err r ≡ true → OnErr r P → P
err-holds (Ok x) is holds = absurd (false≢true is)
err-holds (Err e) is holds = holds

pub ok-holds : {A E P : Type 0} (r : Result A E) → is_err r ≡ false → OnOk r P → P
ok-holds (Ok x) is holds = holds
ok-holds (Err e) is holds = absurd (false≢true (sym is))

pub named-is : (delivery : Delivery) (place c : ℕ) (effect : Effect) (seats : List Seat) → IsDelivery delivery place c effect seats → named_in delivery ≡ change_at effect.change
named-is (ToAll others own) place c effect seats is = sym is.2.unnamed
named-is (Each shares named) place c effect seats is = is.1
