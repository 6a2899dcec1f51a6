-- The place at which the seat of a connection is found.
use Rattle.std.proofs.Common.{◌≡◌, ◌∙◌, sym, ap, refl, ℕ, zero, suc, ◌<◌, Bool, true, false, cond, List, [], ◌∷◌, length, get_or, set, arith}
use Rattle.std.specs.Prelude.{◌==◌, ◌||◌, nat_lt, Some, None, position}
use Rattle.std.specs.List.{list_any, position_or_len}
use Rattle.std.proofs.lemmas.Bool.{false≢true}
use Rattle.std.proofs.lemmas.List.Quantifiers.{position-Some}
use Rattle.hub_core.specs.declared.seat.Seat.{Seat}
use Rattle.hub_core.specs.Seats.{at_seat, in_seat, new_seat, phase_in, sid_in}
use Rattle.hub_rules.specs.Senders.{new_sender}
use Rattle.hub_core.proofs.Tests.{lt-true}

-- the first seat with the number c stands at i
pub record StandsFirst (c : ℕ) (seats : List Seat) (i : ℕ) : Type 0 where
  pub within : i < length seats
  pub here : (d : Seat) → ((get_or seats i d).number == c) ≡ true
  pub before : (k : ℕ) (d : Seat) → k < i → ((get_or seats k d).number == c) ≡ false

pub stands_first : (c : ℕ) (seats : List Seat) (i : ℕ) → position (λ (seat : Seat). seat.number == c) seats ≡ Some i → StandsFirst c seats i
stands_first c seats i e = record {
  within = (position-Some (λ (seat : Seat). seat.number == c) seats i (new_seat 0 (new_sender 0 [] [])) e).0;
  here = λ d. (position-Some (λ (seat : Seat). seat.number == c) seats i d e).1;
  before = λ k d h. (position-Some (λ (seat : Seat). seat.number == c) seats i d e).2 k h;
}

pub rest_first : (c : ℕ) (seat : Seat) (seats : List Seat) (i : ℕ) → StandsFirst c (seat ∷ seats) (suc i) → StandsFirst c seats i
rest_first c seat seats i at = record {
  within = omega (arith, at.within);
  here = at.here;
  before = λ k d h. at.before (suc k) d (omega arith);
}

pub set-at_seat : (c : ℕ) (g : Seat → Seat) (seats : List Seat) (i : ℕ) (d : Seat) → StandsFirst c seats i
    → set seats i (g (get_or seats i d)) ≡ at_seat c g seats
unfolding at_seat
set-at_seat c g [] i d at = absurd (omega (arith, at.within))
set-at_seat c g (seat ∷ seats) zero d at = sym (ap (λ b. cond b (g seat ∷ seats) (seat ∷ at_seat c g seats)) (at.here d))
set-at_seat c g (seat ∷ seats) (suc i) d at =
    ap (λ more. seat ∷ more) (set-at_seat c g seats i d (rest_first c seat seats i at))
    ∙ sym (ap (λ b. cond b (g seat ∷ seats) (seat ∷ at_seat c g seats)) (at.before zero d (omega arith)))

pub in_seat-at : {A : Type 0} (c : ℕ) (read : Seat → A) (none : A) (seats : List Seat) (i : ℕ) (d : Seat) → StandsFirst c seats i
    → in_seat c read none seats ≡ read (get_or seats i d)
unfolding in_seat
in_seat-at c read none [] i d at = absurd (omega (arith, at.within))
in_seat-at c read none (seat ∷ seats) zero d at = ap (λ b. cond b (read seat) (in_seat c read none seats)) (at.here d)
in_seat-at c read none (seat ∷ seats) (suc i) d at =
    ap (λ b. cond b (read seat) (in_seat c read none seats)) (at.before zero d (omega arith))
    ∙ in_seat-at c read none seats i d (rest_first c seat seats i at)

pub in_seat-set : {A : Type 0} (c : ℕ) (read : Seat → A) (none : A) (seats : List Seat) (i : ℕ) (now : Seat) → StandsFirst c seats i
    → (now.number == c) ≡ true → in_seat c read none (set seats i now) ≡ read now
unfolding in_seat
in_seat-set c read none [] i now at e = absurd (omega (arith, at.within))
in_seat-set c read none (seat ∷ seats) zero now at e = ap (λ b. cond b (read now) (in_seat c read none seats)) e
in_seat-set c read none (seat ∷ seats) (suc i) now at e =
    ap (λ b. cond b (read seat) (in_seat c read none (set seats i now))) (at.before zero seat (omega arith))
    ∙ in_seat-set c read none seats i now (rest_first c seat seats i at) e

-- where some seat has the number, the search finds a place
passes_first : (p : Seat → Bool) (seat : Seat) (seats : List Seat) → (list_any p seats ≡ true → position_or_len p seats < length seats)
    → (b : Bool) → p seat ≡ b → (b || list_any p seats) ≡ true → position_or_len p (seat ∷ seats) < suc (length seats)
passes_first p seat seats rest true e h = rw e (omega arith)
passes_first p seat seats rest false e h = let more = rest h in rw e (omega arith)

passes_within : (p : Seat → Bool) (seats : List Seat) → list_any p seats ≡ true → position_or_len p seats < length seats
passes_within p [] h = absurd (false≢true h)
passes_within p (seat ∷ seats) h = passes_first p seat seats (passes_within p seats) (p seat) refl h

pub none_passes : (p : Seat → Bool) (seats : List Seat) → list_any p seats ≡ true → position p seats ≡ None → ⊥
none_passes p seats some none =
    let below : nat_lt (position_or_len p seats) (length seats) ≡ true = lt-true (position_or_len p seats) (length seats) (passes_within p seats some) in
    let found-alike : position p seats ≡ Some (position_or_len p seats) = ap (λ b. cond b (Some (position_or_len p seats)) None) below in
    let wrong : Some (position_or_len p seats) ≡ None = sym found-alike ∙ none in
    cc

-- what was found in one spelling of the seats is found in another
pub found-alike : (c : ℕ) (seats same : List Seat) (i : ℕ) → same ≡ seats → position (λ (seat : Seat). seat.number == c) same ≡ Some i → StandsFirst c seats i
found-alike c seats same i e place = stands_first c seats i (ap (position (λ (seat : Seat). seat.number == c)) (sym e) ∙ place)

-- the seat that was read is that of the connection
pub seat-at : (c : ℕ) (seats : List Seat) (i : ℕ) (seat : Seat) → StandsFirst c seats i → seat ≡ get_or seats i seat → seat ≡ in_seat c (λ s. s) seat seats
seat-at c seats i seat at e = e ∙ sym (in_seat-at c (λ s. s) seat seats i seat at)

-- a change of the seat that was read
pub set-read : (c : ℕ) (change : Seat → Seat) (seats : List Seat) (i : ℕ) (seat now : Seat) → StandsFirst c seats i → seat ≡ get_or seats i seat → now ≡ change seat
    → set seats i now ≡ at_seat c change seats
set-read c change seats i seat now at is_seat is_now = ap (set seats i) (is_now ∙ ap change is_seat) ∙ set-at_seat c change seats i seat at

-- what is read off the seat that was found
pub phase-at : (c : ℕ) (seats : List Seat) (i : ℕ) (seat : Seat) → StandsFirst c seats i → seat ≡ get_or seats i seat → phase_in c seats ≡ seat.phase
phase-at c seats i seat at e = in_seat-at c (λ (s : Seat). s.phase) _ seats i seat at ∙ sym (ap (λ (s : Seat). s.phase) e)

pub sid-at : (c : ℕ) (seats : List Seat) (i : ℕ) (seat : Seat) → StandsFirst c seats i → seat ≡ get_or seats i seat → sid_in c seats ≡ seat.sender.sid
sid-at c seats i seat at e = in_seat-at c (λ (s : Seat). s.sender.sid) _ seats i seat at ∙ sym (ap (λ (s : Seat). s.sender.sid) e)

-- the seat of a connection, as it was found in the code's spelling of the hub
pub at-core : (seats : List Seat) (c n : ℕ) (items same : List Seat) (i : ℕ) (seat : Seat) → same ≡ items → items ≡ seats → n ≡ c
    → position (λ (s : Seat). s.number == n) same ≡ Some i → seat ≡ get_or items i seat → StandsFirst c seats i × (seat ≡ get_or seats i seat)
at-core seats c n items same i seat e is_seats is_number place is_seat = (
  found-alike c seats same i (e ∙ is_seats) (ap (λ m. position (λ (s : Seat). s.number == m) same) (sym is_number) ∙ place),
  is_seat ∙ ap (λ (xs : List Seat). get_or xs i seat) is_seats,
)
