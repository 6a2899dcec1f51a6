-- The seats of a hub are those of the connections that are open, in the order of their joins.
use Rattle.std.proofs.Common.{◌≡◌, ◌∙◌, sym, ap, ap₂, refl, ℕ, Bool, true, false, cond, not, ◌||◌, List, [], ◌∷◌, map, filter}
use Rattle.std.specs.Prelude.{◌==◌}
use Rattle.std.specs.List.{list_any}
use Rattle.std.proofs.lemmas.Bool.{false≢true, eqb-true, eq-eqb}
use Rattle.outboxes.specs.Backlogs.{Backlog}
use Rattle.hub_core.specs.declared.seat.Seat.{Seat}
use Rattle.hub_core.specs.Seats.{at_seat, in_seat, seat_of}
use Rattle.hub_core.specs.Backlogs.{at_backlog, backlog_in, backlog_of, backlogs_but, given_backlog, given_each}
use Rattle.hub_rules.specs.Shares.{ConnState}
use Rattle.hub_invariants.proofs.Members.{apart, both, has, or-parts}

-- a change of one connection
abbrev pub seat_one : ℕ → (Seat → Seat) → (ℕ → ConnState) → ℕ → Seat
seat_one c change about d = cond (d == c) (change (seat_of about d)) (seat_of about d)

flip : (c d : ℕ) (same : Bool) → (d == c) ≡ same → (c == d) ≡ false → same ≡ false
flip c d true is other = absurd (false≢true (sym other ∙ eq-eqb c d (sym (eqb-true d c is))))
flip c d false is other = refl

pub not-self : (c d : ℕ) → (c == d) ≡ false → (d == c) ≡ false
not-self c d other = flip c d (d == c) refl other

-- seats of other connections do not change
others-same : (c : ℕ) (change : Seat → Seat) (about : ℕ → ConnState) (xs : List ℕ) → has c xs ≡ false → map (seat_of about) xs ≡ map (seat_one c change about) xs
others-same c change about [] none = refl
others-same c change about (d ∷ xs) none =
    let parts = or-parts (d == c) (has c xs) none in
    ap₂ (λ (s : Seat) (ss : List Seat). s ∷ ss) (ap (λ b. cond b (change (seat_of about d)) (seat_of about d)) (sym parts.0)) (others-same c change about xs parts.1)

has-self : (c d : ℕ) (xs : List ℕ) → (d == c) ≡ true → not (has d xs) ≡ true → (b : Bool) → has c xs ≡ b → b ≡ false
has-self c d xs is fresh true there = absurd (false≢true (sym (ap (λ x. not (has x xs)) (eqb-true d c is) ∙ ap not there) ∙ fresh))
has-self c d xs is fresh false there = refl

head-one : (c : ℕ) (change : Seat → Seat) (about : ℕ → ConnState) (d : ℕ) (xs : List ℕ) (same : Bool) → (d == c) ≡ same → not (has d xs) ≡ true
    → at_seat c change (map (seat_of about) xs) ≡ map (seat_one c change about) xs
    → cond same (change (seat_of about d) ∷ map (seat_of about) xs) (seat_of about d ∷ at_seat c change (map (seat_of about) xs)) ≡ map (seat_one c change about) (d ∷ xs)
head-one c change about d xs true is fresh rest =
    ap₂ (λ (s : Seat) (ss : List Seat). s ∷ ss) (ap (λ b. cond b (change (seat_of about d)) (seat_of about d)) (sym is))
    (others-same c change about xs (has-self c d xs is fresh (has c xs) refl))
head-one c change about d xs false is fresh rest =
    ap₂ (λ (s : Seat) (ss : List Seat). s ∷ ss) (ap (λ b. cond b (change (seat_of about d)) (seat_of about d)) (sym is)) rest

-- a change at the seat of connection c changes that of no other
pub at-one : (c : ℕ) (change : Seat → Seat) (about : ℕ → ConnState) (xs : List ℕ) → apart xs ≡ true → at_seat c change (map (seat_of about) xs) ≡ map (seat_one c change about) xs
unfolding at_seat
at-one c change about [] once = refl
at-one c change about (d ∷ xs) once =
    let tests = both (not (has d xs)) (apart xs) once in
    head-one c change about d xs (d == c) refl tests.0 (at-one c change about xs tests.1)

-- what is kept of an open connection is read off its seat
open-seat : {A : Type 0} (c : ℕ) (read : Seat → A) (none : A) (about : ℕ → ConnState) (d : ℕ) (xs : List ℕ)
    → (has c xs ≡ true → in_seat c read none (map (seat_of about) xs) ≡ read (seat_of about c))
    → (b : Bool) → (d == c) ≡ b → (b || has c xs) ≡ true
    → cond b (read (seat_of about d)) (in_seat c read none (map (seat_of about) xs)) ≡ read (seat_of about c)
open-seat c read none about d xs rest true e h = ap (λ x. read (seat_of about x)) (eqb-true d c e)
open-seat c read none about d xs rest false e h = rest h

pub in-open : {A : Type 0} (c : ℕ) (read : Seat → A) (none : A) (about : ℕ → ConnState) (xs : List ℕ)
    → has c xs ≡ true → in_seat c read none (map (seat_of about) xs) ≡ read (seat_of about c)
unfolding in_seat
in-open c read none about [] h = absurd (false≢true h)
in-open c read none about (d ∷ xs) h = open-seat c read none about d xs (in-open c read none about xs) (d == c) refl h

-- a hub has a seat for each open connection
pub seated-open : (c : ℕ) (about : ℕ → ConnState) (xs : List ℕ) → list_any (λ (seat : Seat). seat.number == c) (map (seat_of about) xs) ≡ has c xs
seated-open c about [] = refl
seated-open c about (d ∷ xs) = ap (λ b. (d == c) || b) (seated-open c about xs)

pub map-seats : {A : Type 0} (f : Seat → A) (seat : ℕ → Seat) (xs : List ℕ) → map f (map seat xs) ≡ map (λ d. f (seat d)) xs
map-seats f seat [] = refl
map-seats f seat (d ∷ xs) = ap (λ ys. f (seat d) ∷ ys) (map-seats f seat xs)

pub each-same : {A : Type 0} (f g : ℕ → A) (xs : List ℕ) → ((d : ℕ) → f d ≡ g d) → map f xs ≡ map g xs
each-same f g [] same = refl
each-same f g (d ∷ xs) same = ap₂ (λ y ys. y ∷ ys) (same d) (each-same f g xs same)

-- ---- a connection that leaves

abbrev pub others_of : ℕ → List ℕ → List ℕ
others_of c xs = filter (λ d. not (d == c)) xs

left-one : (c : ℕ) (seat : ℕ → Seat) (d : ℕ) (xs : List ℕ) (b : Bool) → (seat d).number ≡ d
    → filter (λ (s : Seat). not (s.number == c)) (map seat xs) ≡ map seat (others_of c xs)
    → not (d == c) ≡ b
    → cond (not ((seat d).number == c)) (seat d ∷ filter (λ (s : Seat). not (s.number == c)) (map seat xs)) (filter (λ (s : Seat). not (s.number == c)) (map seat xs))
    ≡ map seat (cond (not (d == c)) (d ∷ others_of c xs) (others_of c xs))
left-one c seat d xs true number rest is =
    ap (λ n. cond (not (n == c)) (seat d ∷ filter (λ (s : Seat). not (s.number == c)) (map seat xs)) (filter (λ (s : Seat). not (s.number == c)) (map seat xs))) number
    ∙ ap (λ b. cond b (seat d ∷ filter (λ (s : Seat). not (s.number == c)) (map seat xs)) (filter (λ (s : Seat). not (s.number == c)) (map seat xs))) is
    ∙ ap (λ (ss : List Seat). seat d ∷ ss) rest
    ∙ ap (λ b. map seat (cond b (d ∷ others_of c xs) (others_of c xs))) (sym is)
left-one c seat d xs false number rest is =
    ap (λ n. cond (not (n == c)) (seat d ∷ filter (λ (s : Seat). not (s.number == c)) (map seat xs)) (filter (λ (s : Seat). not (s.number == c)) (map seat xs))) number
    ∙ ap (λ b. cond b (seat d ∷ filter (λ (s : Seat). not (s.number == c)) (map seat xs)) (filter (λ (s : Seat). not (s.number == c)) (map seat xs))) is
    ∙ rest
    ∙ ap (λ b. map seat (cond b (d ∷ others_of c xs) (others_of c xs))) (sym is)

pub seats-left : (c : ℕ) (seat : ℕ → Seat) (xs : List ℕ) → ((d : ℕ) → (seat d).number ≡ d)
    → filter (λ (s : Seat). not (s.number == c)) (map seat xs) ≡ map seat (others_of c xs)
seats-left c seat [] numbers = refl
seats-left c seat (d ∷ xs) numbers = left-one c seat d xs (not (d == c)) (numbers d) (seats-left c seat xs numbers) refl

-- those that are left are others
same-others : {A : Type 0} (c : ℕ) (f g : ℕ → A) (d : ℕ) (rest : List ℕ) (b : Bool) → (d == c) ≡ b → ((x : ℕ) → (x == c) ≡ false → f x ≡ g x)
    → map f rest ≡ map g rest → map f (cond (not b) (d ∷ rest) rest) ≡ map g (cond (not b) (d ∷ rest) rest)
same-others c f g d rest true is same more = more
same-others c f g d rest false is same more = ap₂ (λ y ys. y ∷ ys) (same d is) more

pub others-same-by : {A : Type 0} (c : ℕ) (f g : ℕ → A) (xs : List ℕ) → ((d : ℕ) → (d == c) ≡ false → f d ≡ g d) → map f (others_of c xs) ≡ map g (others_of c xs)
others-same-by c f g [] same = refl
others-same-by c f g (d ∷ xs) same = same-others c f g d (others_of c xs) (d == c) refl same (others-same-by c f g xs same)

-- ---- what waits

abbrev pub backlog_at : (ℕ → ConnState) → ℕ → Backlog
backlog_at about d = backlog_of (about d)

pub each-given : (share : ℕ → List (List ℕ)) (backlog : ℕ → Backlog) (xs : List ℕ) → given_each (map share xs) (map backlog xs) ≡ map (λ d. given_backlog (share d) (backlog d)) xs
unfolding given_each
each-given share backlog [] = refl
each-given share backlog (d ∷ xs) = ap (λ (os : List Backlog). given_backlog (share d) (backlog d) ∷ os) (each-given share backlog xs)

open-backlog : (c : ℕ) (about : ℕ → ConnState) (d : ℕ) (xs : List ℕ)
    → (has c xs ≡ true → backlog_in c (map (seat_of about) xs) (map (backlog_at about) xs) ≡ backlog_at about c)
    → (b : Bool) → (d == c) ≡ b → (b || has c xs) ≡ true
    → cond b (backlog_at about d) (backlog_in c (map (seat_of about) xs) (map (backlog_at about) xs)) ≡ backlog_at about c
open-backlog c about d xs rest true e h = ap (backlog_at about) (eqb-true d c e)
open-backlog c about d xs rest false e h = rest h

-- what waits for an open connection
pub backlog-open : (c : ℕ) (about : ℕ → ConnState) (xs : List ℕ) → has c xs ≡ true → backlog_in c (map (seat_of about) xs) (map (backlog_at about) xs) ≡ backlog_at about c
unfolding backlog_in
backlog-open c about [] h = absurd (false≢true h)
backlog-open c about (d ∷ xs) h = open-backlog c about d xs (backlog-open c about xs) (d == c) refl h

-- what waits for one connection changes
abbrev backlog_one : ℕ → (Backlog → Backlog) → (ℕ → ConnState) → ℕ → Backlog
backlog_one c change about d = cond (d == c) (change (backlog_at about d)) (backlog_at about d)

others-wait : (c : ℕ) (change : Backlog → Backlog) (about : ℕ → ConnState) (xs : List ℕ) → has c xs ≡ false → map (backlog_at about) xs ≡ map (backlog_one c change about) xs
others-wait c change about [] none = refl
others-wait c change about (d ∷ xs) none =
    let parts = or-parts (d == c) (has c xs) none in
    ap₂ (λ (o : Backlog) (os : List Backlog). o ∷ os) (ap (λ b. cond b (change (backlog_at about d)) (backlog_at about d)) (sym parts.0)) (others-wait c change about xs parts.1)

head-waits : (c : ℕ) (change : Backlog → Backlog) (about : ℕ → ConnState) (d : ℕ) (xs : List ℕ) (same : Bool) → (d == c) ≡ same → not (has d xs) ≡ true
    → at_backlog c change (map (seat_of about) xs) (map (backlog_at about) xs) ≡ map (backlog_one c change about) xs
    → cond same (change (backlog_at about d) ∷ map (backlog_at about) xs) (backlog_at about d ∷ at_backlog c change (map (seat_of about) xs) (map (backlog_at about) xs))
    ≡ map (backlog_one c change about) (d ∷ xs)
head-waits c change about d xs true is fresh rest =
    ap₂ (λ (o : Backlog) (os : List Backlog). o ∷ os) (ap (λ b. cond b (change (backlog_at about d)) (backlog_at about d)) (sym is))
    (others-wait c change about xs (has-self c d xs is fresh (has c xs) refl))
head-waits c change about d xs false is fresh rest =
    ap₂ (λ (o : Backlog) (os : List Backlog). o ∷ os) (ap (λ b. cond b (change (backlog_at about d)) (backlog_at about d)) (sym is)) rest

pub one-waits : (c : ℕ) (change : Backlog → Backlog) (about : ℕ → ConnState) (xs : List ℕ) → apart xs ≡ true
    → at_backlog c change (map (seat_of about) xs) (map (backlog_at about) xs) ≡ map (backlog_one c change about) xs
unfolding at_backlog
one-waits c change about [] once = refl
one-waits c change about (d ∷ xs) once =
    let tests = both (not (has d xs)) (apart xs) once in
    head-waits c change about d xs (d == c) refl tests.0 (one-waits c change about xs tests.1)

-- what waits for those who are left
all-left : (c : ℕ) (backlog : ℕ → Backlog) (xs : List ℕ) → has c xs ≡ false → map backlog xs ≡ map backlog (others_of c xs)
all-left c backlog [] none = refl
all-left c backlog (d ∷ xs) none =
    let parts = or-parts (d == c) (has c xs) none in
    ap (λ (os : List Backlog). backlog d ∷ os) (all-left c backlog xs parts.1)
    ∙ ap (λ b. map backlog (cond (not b) (d ∷ others_of c xs) (others_of c xs))) (sym parts.0)

head-left : (c : ℕ) (about : ℕ → ConnState) (backlog : ℕ → Backlog) (d : ℕ) (xs : List ℕ) (same : Bool) → (d == c) ≡ same → not (has d xs) ≡ true
    → backlogs_but c (map (seat_of about) xs) (map backlog xs) ≡ map backlog (others_of c xs)
    → cond same (map backlog xs) (backlog d ∷ backlogs_but c (map (seat_of about) xs) (map backlog xs)) ≡ map backlog (cond (not same) (d ∷ others_of c xs) (others_of c xs))
head-left c about backlog d xs true is fresh rest = all-left c backlog xs (has-self c d xs is fresh (has c xs) refl)
head-left c about backlog d xs false is fresh rest = ap (λ (os : List Backlog). backlog d ∷ os) rest

pub backlogs-left : (c : ℕ) (about : ℕ → ConnState) (backlog : ℕ → Backlog) (xs : List ℕ) → apart xs ≡ true
    → backlogs_but c (map (seat_of about) xs) (map backlog xs) ≡ map backlog (others_of c xs)
unfolding backlogs_but
backlogs-left c about backlog [] once = refl
backlogs-left c about backlog (d ∷ xs) once =
    let tests = both (not (has d xs)) (apart xs) once in
    head-left c about backlog d xs (d == c) refl tests.0 (backlogs-left c about backlog xs tests.1)
