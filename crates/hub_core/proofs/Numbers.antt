-- Seats in the order of their joins: what keeps the order, and what a search finds among them.
use Rattle.std.proofs.Common.{◌≡◌, ◌∙◌, sym, ap, ap₂, refl, subst, ℕ, zero, suc, ◌+◌, ◌<◌, ◌≤◌, Bool, true, false, cond, not, ◌==◌, List, [], ◌∷◌, ◌++◌, length, get_or, arith, inl, inr, MatchResult, Option, Some, None, Result, Ok, Err}
use Rattle.std.specs.Prelude.{◌||◌, ◌≢◌, is_some, nat_lt, position}
use Rattle.std.specs.List.{list_any, position_or_len}
use Rattle.std.specs.List.Sorted.{IsSearchInRange, IsBinarySearchResult, IsNonDecreasingBy}
use Rattle.std.specs.Ordering.{nat_cmp, ordering_index}
use Rattle.std.proofs.lemmas.Bool.{cases_lt, eqb-true, eq-eqb, false≢true}
use Rattle.std.proofs.lemmas.Bool.Decides.{nat_tests}
use Rattle.std.proofs.lemmas.Cmp.{ranked}
use Rattle.std.proofs.lemmas.List.{get_or_default, length-map, map-append}
use Rattle.std.proofs.lemmas.List.Quantifiers.{position-Some}
use Rattle.std.proofs.lemmas.List.Sorted.{IsNonDecreasingBy-from_default}
use Rattle.std.proofs.lemmas.List.Sums.{position_or_len_is}
use Rattle.hub_core.specs.declared.seat.Seat.{Seat}
use Rattle.hub_core.specs.Index.{keys}
use Rattle.hub_core.specs.Departures.{others_of}
use Rattle.hub_core.specs.Numbers.{Above, Ordered, Rising, UpTo, numbers}
use Rattle.hub_core.specs.Seats.{at_seat, changed_seat, new_seat}
use Rattle.hub_core.specs.State.{IsPlace, carried_out}
use Rattle.hub_core.specs.CoreState.{CoreState}
use Rattle.hub_rules.specs.declared.effect.Effect.{Effect}
use Rattle.hub_rules.specs.Senders.{new_sender}
use Rattle.hub_rules.specs.Shares.{change_at}
use Rattle.hub_core.proofs.Places.{StandsFirst, none_passes}
use Rattle.hub_core.proofs.Indexed.{keys-changed, keys-named, numbers-kept}
use Rattle.hub_core.proofs.Tests.{false-lt, lt-true}
use Rattle.hub_invariants.proofs.Sound.{or-true}

-- ---- one more seat

above-push : (n m : ℕ) (ns : List ℕ) → n < m → Above n ns → Above n (ns ++ m ∷ [])
unfolding Above
above-push n m [] less above = (less, tt)
above-push n m (k ∷ ns) less above = (above.0, above-push n m ns less above.1)

rising-push : (last m : ℕ) (ns : List ℕ) → last < m → Rising ns → UpTo last ns → Rising (ns ++ m ∷ [])
unfolding Rising UpTo Above
rising-push last m [] less rising up_to = (tt, tt)
rising-push last m (n ∷ ns) less rising up_to = (above-push n m ns (omega (arith, less, up_to.0)) rising.0, rising-push last m ns less rising.1 up_to.1)

up-to-push : (last m : ℕ) (ns : List ℕ) → last ≤ m → UpTo last ns → UpTo m (ns ++ m ∷ [])
unfolding UpTo
up-to-push last m [] less up_to = (omega arith, tt)
up-to-push last m (n ∷ ns) less up_to = (omega (arith, less, up_to.0), up-to-push last m ns less up_to.1)

pub ordered-push : (joins : ℕ) (seats : List Seat) (seat : Seat) → seat.number ≡ joins + 1 → Ordered joins seats → Ordered (joins + 1) (seats ++ seat ∷ [])
ordered-push joins seats seat is ordered =
    let same : numbers (seats ++ seat ∷ []) ≡ numbers seats ++ (joins + 1) ∷ [] =
    map-append (λ (s : Seat). s.number) seats (seat ∷ []) ∙ ap (λ n. numbers seats ++ n ∷ []) is in (
      subst Rising (sym same) (rising-push joins (joins + 1) (numbers seats) (omega arith) ordered.0 ordered.1),
      subst (UpTo (joins + 1)) (sym same) (up-to-push joins (joins + 1) (numbers seats) (omega arith) ordered.1),
    )

-- ---- seats that keep their numbers

ordered-same : (joins : ℕ) (before after : List Seat) → numbers after ≡ numbers before → Ordered joins before → Ordered joins after
ordered-same joins before after same ordered = (subst Rising (sym same) ordered.0, subst (UpTo joins) (sym same) ordered.1)

pub ordered-kept : (joins : ℕ) (before after : List Seat) → keys after ≡ keys before → Ordered joins before → Ordered joins after
ordered-kept joins before after same = ordered-same joins before after (numbers-kept before after same)

-- ---- a seat less

above-one : (n c : ℕ) (seat : Seat) (rest : List Seat) (same : Bool) → n < seat.number → Above n (numbers rest) → Above n (numbers (cond (not same) (seat ∷ rest) rest))
unfolding Above
above-one n c seat rest true less above = above
above-one n c seat rest false less above = (less, above)

above-but : (n c : ℕ) (seats : List Seat) → Above n (numbers seats) → Above n (numbers (others_of c seats))
unfolding Above
above-but n c [] above = tt
above-but n c (seat ∷ seats) above = above-one n c seat (others_of c seats) (seat.number == c) above.0 (above-but n c seats above.1)

rising-one : (c : ℕ) (seat : Seat) (rest : List Seat) (same : Bool) → Above seat.number (numbers rest) → Rising (numbers rest) → Rising (numbers (cond (not same) (seat ∷ rest) rest))
unfolding Rising
rising-one c seat rest true above rising = rising
rising-one c seat rest false above rising = (above, rising)

rising-but : (c : ℕ) (seats : List Seat) → Rising (numbers seats) → Rising (numbers (others_of c seats))
unfolding Rising
rising-but c [] rising = tt
rising-but c (seat ∷ seats) rising = rising-one c seat (others_of c seats) (seat.number == c) (above-but seat.number c seats rising.0) (rising-but c seats rising.1)

up-to-one : (last c : ℕ) (seat : Seat) (rest : List Seat) (same : Bool) → seat.number ≤ last → UpTo last (numbers rest) → UpTo last (numbers (cond (not same) (seat ∷ rest) rest))
unfolding UpTo
up-to-one last c seat rest true less up_to = up_to
up-to-one last c seat rest false less up_to = (less, up_to)

up-to-but : (last c : ℕ) (seats : List Seat) → UpTo last (numbers seats) → UpTo last (numbers (others_of c seats))
unfolding UpTo
up-to-but last c [] up_to = tt
up-to-but last c (seat ∷ seats) up_to = up-to-one last c seat (others_of c seats) (seat.number == c) up_to.0 (up-to-but last c seats up_to.1)

pub ordered-but : (joins c : ℕ) (seats : List Seat) → Ordered joins seats → Ordered joins (others_of c seats)
ordered-but joins c seats ordered = (rising-but c seats ordered.0, up-to-but joins c seats ordered.1)

-- ---- what a search finds

above-at : (n : ℕ) (seats : List Seat) (j : ℕ) (d : Seat) → Above n (numbers seats) → j < length seats → n < (get_or seats j d).number
unfolding Above
above-at n [] j d above within = absurd (omega (arith, within))
above-at n (seat ∷ seats) zero d above within = above.0
above-at n (seat ∷ seats) (suc j) d above within = above-at n seats j d above.1 (omega (arith, within))

rising-at : (seats : List Seat) (i j : ℕ) (d : Seat) → Rising (numbers seats) → i < j → j < length seats → (get_or seats i d).number < (get_or seats j d).number
unfolding Rising
rising-at [] i j d rising less within = absurd (omega (arith, within))
rising-at (seat ∷ seats) i zero d rising less within = absurd (omega (arith, less))
rising-at (seat ∷ seats) zero (suc j) d rising less within = above-at seat.number seats j d rising.0 (omega (arith, within))
rising-at (seat ∷ seats) (suc i) (suc j) d rising less within = rising-at seats i j d rising.1 (omega (arith, less)) (omega (arith, within))

no_seat : Seat
no_seat = new_seat 0 (new_sender 0 [] [])

module _ (c : ℕ) (seats : List Seat) where
  abbrev has_it : Seat → Bool
  has_it seat = seat.number == c

  position-is : (i : ℕ) → i < length seats → (get_or seats i no_seat).number ≡ c → ((k : ℕ) → k < i → has_it (get_or seats k no_seat) ≡ false) → position has_it seats ≡ Some i
  position-is i within here before =
      let first : position_or_len has_it seats ≡ i = position_or_len_is has_it seats i no_seat (omega (arith, within)) before (λ within. eq-eqb _ c here) in
      ap (λ n. cond (nat_lt n (length seats)) (Some n) None) first ∙ ap (λ b. cond b (Some i) None) (lt-true i (length seats) within)

  position-none : ((k : ℕ) → k < length seats → has_it (get_or seats k no_seat) ≡ false) → position has_it seats ≡ None
  position-none others =
      let all : position_or_len has_it seats ≡ length seats = position_or_len_is has_it seats (length seats) no_seat (omega arith) others (λ within. absurd (omega (arith, within))) in
      ap (λ n. cond (nat_lt n (length seats)) (Some n) None) all ∙ ap (λ b. cond b (Some (length seats)) None) (false-lt (length seats) (length seats) (omega arith))

  other-by : (n : ℕ) (b : Bool) → (n == c) ≡ b → (n ≡ c → ⊥) → b ≡ false
  other-by n true is differs = absurd (differs (eqb-true n c is))
  other-by n false is differs = refl

  other : (n : ℕ) → (n ≡ c → ⊥) → (n == c) ≡ false
  other n differs = other-by n (n == c) refl differs

  module _ (rising : Rising (numbers seats)) where
    comparisons-rise : IsNonDecreasingBy (λ (seat : Seat). ordering_index (nat_cmp seat.number c)) seats
    comparisons-rise = IsNonDecreasingBy-from_default (λ (seat : Seat). ordering_index (nat_cmp seat.number c)) seats no_seat (λ i j le within.
        let up : (get_or seats i no_seat).number ≤ (get_or seats j no_seat).number =
        grind (arith, λ (less : i < j). rising-at seats i j no_seat rising less within, λ (same : i ≡ j). ap (λ k. (get_or seats k no_seat).number) same) in
        grind (arith, nat_tests))

    before-it : (i : ℕ) → i < length seats → (get_or seats i no_seat).number ≡ c → (k : ℕ) → k < i → has_it (get_or seats k no_seat) ≡ false
    before-it i within here k less =
        other (get_or seats k no_seat).number (λ same. let up = rising-at seats k i no_seat rising less within in omega (arith, up, here, same))

    -- a seat with the number is the one
    pub found-at : (i : ℕ) → i < length seats → (d : Seat) → (get_or seats i d).number ≡ c → position has_it seats ≡ Some i
    found-at i within d here =
        let same : (get_or seats i no_seat).number ≡ c = ap (λ (seat : Seat). seat.number) (get_or_default seats i no_seat d within) ∙ here in
        position-is i within same (before-it i within same)

    -- a binary search by number ends at the seat, or says that there is none
    pub searched : (r : Result ℕ ℕ) → IsSearchInRange r (length seats) → IsBinarySearchResult (λ (seat : Seat). nat_cmp seat.number c) seats r
        → MatchResult r (λ i. position has_it seats ≡ Some i) (λ i. position has_it seats ≡ None)
    searched (Ok i) within equal =
        let here : (get_or seats i no_seat).number ≡ c = ranked _ c _ (sym (equal no_seat)) in position-is i within here (before-it i within here)
    searched (Err i) within parted =
        position-none (λ k less. other (get_or seats k no_seat).number (λ same.
        elim (cases_lt k i) [
          | inl below ↦ let smaller : (get_or seats k no_seat).number < c = ranked _ c _ (sym ((parted comparisons-rise).0 k no_seat (omega arith) below)) in omega (arith, smaller, same)
          | inr at_least ↦ let greater : c < (get_or seats k no_seat).number = ranked _ c _ (sym ((parted comparisons-rise).1 k no_seat at_least less)) in omega (arith, greater, same)
        ]))

-- no other seat has the number of one that was found
pub other-number : (c : ℕ) (seats : List Seat) (place : ℕ) → Rising (numbers seats) → StandsFirst c seats place → (i : ℕ) (d : Seat) → i < length seats → i ≢ place
    → ((get_or seats i d).number == c) ≡ false
other-number c seats place rising at i d within differs =
    elim (cases_lt i place) [
      | inl below ↦ at.before i d below
      | inr at_least ↦ elim (cases_lt place i) [
        | inl above ↦
            let up : (get_or seats place d).number < (get_or seats i d).number = rising-at seats place i d rising above within in
            let here : (get_or seats place d).number ≡ c = eqb-true (get_or seats place d).number c (at.here d) in
            other-by c seats (get_or seats i d).number ((get_or seats i d).number == c) refl (λ same. omega (arith, up, here, same))
        | inr at_most ↦ absurd (differs (omega (arith, at_least, at_most)))
      ]
    ]

-- some seat has it exactly where a search finds one
pub any-at : (p : Seat → Bool) (seats : List Seat) (i : ℕ) (d : Seat) → i < length seats → p (get_or seats i d) ≡ true → list_any p seats ≡ true
any-at p [] i d within here = absurd (omega (arith, within))
any-at p (seat ∷ seats) zero d within here = ap (λ b. b || list_any p seats) here
any-at p (seat ∷ seats) (suc i) d within here = ap (λ b. p seat || b) (any-at p seats i d (omega (arith, within)) here) ∙ or-true (p seat)

or-found : (p : Seat → Bool) (seats : List Seat) (any : Bool) (found : Option ℕ) → list_any p seats ≡ any → position p seats ≡ found → is_some found ≡ any
or-found p seats true None some none = absurd (none_passes p seats some none)
or-found p seats true (Some i) some found = refl
or-found p seats false None some none = refl
or-found p seats false (Some i) some found =
    let at = position-Some p seats i no_seat found in absurd (false≢true (sym some ∙ any-at p seats i no_seat at.0 at.1))

pub any-found : (p : Seat → Bool) (seats : List Seat) → is_some (position p seats) ≡ list_any p seats
any-found p seats = or-found p seats (list_any p seats) (position p seats) refl refl

-- ---- seats that keep their numbers keep their places

first-number : (c : ℕ) (seats : List Seat) → position_or_len (λ (seat : Seat). seat.number == c) seats ≡ position_or_len (λ n. n == c) (numbers seats)
first-number c [] = refl
first-number c (seat ∷ seats) = ap (λ m. cond (not (seat.number == c)) (1 + m) 0) (first-number c seats)

by-number : (c : ℕ) (seats : List Seat) → position (λ (seat : Seat). seat.number == c) seats ≡ position (λ n. n == c) (numbers seats)
by-number c seats = ap₂ (λ n len. cond (nat_lt n len) (Some n) None) (first-number c seats) (sym (length-map seats (λ (seat : Seat). seat.number)))

pub place-carried : (c place : ℕ) (effect : Effect) (core : CoreState) → IsPlace c place core.seats → IsPlace c place (carried_out c effect core).seats
unfolding carried_out
place-carried c place effect core is =
    by-number c (carried_out c effect core).seats
    ∙ ap (position (λ n. n == c))
    (numbers-kept core.seats (carried_out c effect core).seats
    (keys-named (change_at effect.change) (at_seat c (changed_seat effect.change) core.seats)
    ∙ keys-changed c (changed_seat effect.change) (λ seat. refl) core.seats))
    ∙ sym (by-number c core.seats) ∙ is
