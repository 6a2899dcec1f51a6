-- The index of the connections by session identifier, as they join, leave and change.
use Rattle.std.proofs.Common.{◌≡◌, ◌∙◌, sym, ap, ap₂, refl, subst, ℕ, zero, suc, ◌<◌, Bool, true, false, cond, not, ◌==◌, List, [], ◌∷◌, ◌++◌, length, map, get_or, arith, Option, Some, None}
use Rattle.std.specs.BTreeMap.{BTreeMap, UpdatesBy}
use Rattle.std.specs.Cmp.{unsigned_tied}
use Rattle.std.specs.List.{Contains}
use Rattle.std.specs.Option.{unwrap_or}
use Rattle.std.specs.Ordering.{nat_cmp}
use Rattle.std.proofs.lemmas.Bool.{eqb-true, eq-eqb, false≢true}
use Rattle.std.proofs.lemmas.List.{map-append}
use Rattle.hub_rules.specs.declared.sender.SeatChange.{SeatChange}
use Rattle.hub_core.specs.declared.seat.Seat.{Seat}
use Rattle.hub_core.specs.Index.{AreIndexedBySid, IsSetAtSid, keys, number_at}
use Rattle.hub_core.specs.Departures.{others_of}
use Rattle.hub_core.specs.Numbers.{numbers}
use Rattle.hub_core.specs.Seats.{at_seat, seat_after_change_at, seat_after_if}
use Rattle.hub_core.proofs.Places.{StandsFirst}

abbrev Keys : Type 0
Keys = List (ℕ × ℕ)

pub number-set : (sid : ℕ) (m n : BTreeMap ℕ ℕ) (found : Option ℕ) → UpdatesBy nat_cmp (nat_cmp sid) m n found → IsSetAtSid sid found m.entries n.entries
number-set sid m n found updates = λ other. updates.0 other ∙ ap (λ b. cond b found (number_at m.entries other)) (unsigned_tied sid other)

-- ---- seats that keep their identifiers and numbers

number-keys : (seats : List Seat) → map (λ (key : ℕ × ℕ). key.1) (keys seats) ≡ numbers seats
number-keys [] = refl
number-keys (seat ∷ seats) = ap (λ ns. seat.number ∷ ns) (number-keys seats)

pub numbers-kept : (before after : List Seat) → keys after ≡ keys before → numbers after ≡ numbers before
numbers-kept before after same = sym (number-keys after) ∙ ap (λ (ks : Keys). map (λ (key : ℕ × ℕ). key.1) ks) same ∙ number-keys before

abbrev key : Seat → ℕ × ℕ
key seat = (seat.sender.sid, seat.number)

key-if : (here : Bool) (change : SeatChange) (seat : Seat) → key (seat_after_if here change seat) ≡ key seat
key-if true change seat = refl
key-if false change seat = refl

key-after : (at : Option (ℕ × SeatChange)) (seat : Seat) → key (seat_after_change_at at seat) ≡ key seat
key-after (Some (sid, change)) seat = key-if _ change seat
key-after None seat = refl

pub keys-named : (at : Option (ℕ × SeatChange)) (seats : List Seat) → keys (map (seat_after_change_at at) seats) ≡ keys seats
keys-named at [] = refl
keys-named at (seat ∷ seats) = ap₂ (λ (k : ℕ × ℕ) (ks : Keys). k ∷ ks) (key-after at seat) (keys-named at seats)

changed-one : (change : Seat → Seat) (seat : Seat) (seats rest : List Seat) (same : Bool) → key (change seat) ≡ key seat → keys rest ≡ keys seats
    → keys (cond same (change seat ∷ seats) (seat ∷ rest)) ≡ key seat ∷ keys seats
changed-one change seat seats rest true kept more = ap (λ (k : ℕ × ℕ). k ∷ keys seats) kept
changed-one change seat seats rest false kept more = ap (λ (ks : Keys). key seat ∷ ks) more

pub keys-changed : (c : ℕ) (change : Seat → Seat) → ((seat : Seat) → key (change seat) ≡ key seat) → (seats : List Seat) → keys (at_seat c change seats) ≡ keys seats
unfolding at_seat
keys-changed c change kept [] = refl
keys-changed c change kept (seat ∷ seats) = changed-one change seat seats (at_seat c change seats) (seat.number == c) (kept seat) (keys-changed c change kept seats)

pub indexed-same : (index : Keys) (before after : List Seat) → keys after ≡ keys before → AreIndexedBySid index (keys before) → AreIndexedBySid index (keys after)
indexed-same index before after same indexed = subst (λ ks. AreIndexedBySid index ks) (sym same) indexed

-- ---- what the index has of a seat

pub indexed-at : (index : Keys) (seats : List Seat) (i : ℕ) (d : Seat) → AreIndexedBySid index (keys seats) → i < length seats
    → number_at index (get_or seats i d).sender.sid ≡ Some (get_or seats i d).number
unfolding AreIndexedBySid
indexed-at index [] i d indexed within = absurd (omega (arith, within))
indexed-at index (seat ∷ seats) zero d indexed within = indexed.0
indexed-at index (seat ∷ seats) (suc i) d indexed within = indexed-at index seats i d indexed.1 (omega (arith, within))

-- the number of the seat that was read stands under its identifier
pub indexed-read : (index : Keys) (c : ℕ) (seats : List Seat) (i : ℕ) (seat : Seat) → StandsFirst c seats i → seat ≡ get_or seats i seat → AreIndexedBySid index (keys seats)
    → number_at index seat.sender.sid ≡ Some c
indexed-read index c seats i seat at is indexed =
    ap (λ (s : Seat). number_at index s.sender.sid) is ∙ indexed-at index seats i seat indexed at.within
    ∙ ap (λ n. Some n) (eqb-true (get_or seats i seat).number c (at.here seat))

-- ---- one more seat

-- nobody has this identifier
unfoldable pub IsNew : ℕ → Keys → Type 0
IsNew sid [] = Unit {0}
IsNew sid (key ∷ keys) = ((sid == key.0) ≡ false) × IsNew sid keys

differs-by : (sid other : ℕ) (same : Bool) → (sid == other) ≡ same → (sid ≡ other → ⊥) → same ≡ false
differs-by sid other true is differs = absurd (differs (eqb-true sid other is))
differs-by sid other false is differs = refl

pub is-new : (sid : ℕ) (seats : List Seat) → (Contains (map (λ (seat : Seat). seat.sender.sid) seats) sid → ⊥) → IsNew sid (keys seats)
unfolding IsNew
is-new sid [] free = tt
is-new sid (seat ∷ seats) free = (
  differs-by sid seat.sender.sid (sid == seat.sender.sid) refl (λ same. free (0, omega arith, sym same)),
  is-new sid seats (λ there. free (suc there.0, omega (arith, there.1), there.2)),
)

-- what stands under other identifiers stays
pub indexed-set : (index after : Keys) (sid : ℕ) (found : Option ℕ) (ks : Keys) → IsSetAtSid sid found index after → IsNew sid ks → AreIndexedBySid index ks → AreIndexedBySid after ks
unfolding AreIndexedBySid IsNew
indexed-set index after sid found [] set new indexed = tt
indexed-set index after sid found (k ∷ ks) set new indexed =
    (set k.0 ∙ ap (λ b. cond b found (number_at index k.0)) new.0 ∙ indexed.0, indexed-set index after sid found ks set new.1 indexed.1)

indexed-append : (index ks : Keys) (k : ℕ × ℕ) → AreIndexedBySid index ks → number_at index k.0 ≡ Some k.1 → AreIndexedBySid index (ks ++ k ∷ [])
unfolding AreIndexedBySid
indexed-append index [] k indexed here = (here, tt)
indexed-append index (first ∷ ks) k indexed here = (indexed.0, indexed-append index ks k indexed.1 here)

pub indexed-push : (index after : Keys) (seats : List Seat) (seat : Seat) (sid number : ℕ) → seat.sender.sid ≡ sid → seat.number ≡ number → IsSetAtSid sid (Some number) index after
    → IsNew sid (keys seats) → AreIndexedBySid index (keys seats) → AreIndexedBySid after (keys (seats ++ seat ∷ []))
indexed-push index after seats seat sid number is_sid is_number set new indexed =
    subst (λ ks. AreIndexedBySid after ks) (sym (map-append key seats (seat ∷ [])))
    (indexed-append after (keys seats) (key seat) (indexed-set index after sid (Some number) (keys seats) set new indexed)
    (ap (number_at after) is_sid ∙ set sid ∙ ap (λ b. cond b (Some number) (number_at index sid)) (eq-eqb sid sid refl) ∙ sym (ap (λ n. Some n) is_number)))

-- ---- a seat less

other-differs : (index : Keys) (c sid : ℕ) (seat : Seat) → number_at index sid ≡ Some c → number_at index seat.sender.sid ≡ Some seat.number → (seat.number == c) ≡ false
    → (sid ≡ seat.sender.sid → ⊥)
other-differs index c sid seat here there other same =
    let both : Some seat.number ≡ Some c = sym there ∙ sym (ap (number_at index) same) ∙ here in
    false≢true (sym other ∙ eq-eqb seat.number c (ap (λ o. unwrap_or o 0) both))

left-one : (index after : Keys) (c sid : ℕ) (seat : Seat) (rest : List Seat) (same : Bool) → (seat.number == c) ≡ same → IsSetAtSid sid None index after → number_at index sid ≡ Some c
    → number_at index seat.sender.sid ≡ Some seat.number → AreIndexedBySid after (keys rest) → AreIndexedBySid after (keys (cond (not same) (seat ∷ rest) rest))
unfolding AreIndexedBySid
left-one index after c sid seat rest true is set here there indexed = indexed
left-one index after c sid seat rest false is set here there indexed =
    let apart : (sid == seat.sender.sid) ≡ false = differs-by sid seat.sender.sid (sid == seat.sender.sid) refl (other-differs index c sid seat here there is) in
    (set seat.sender.sid ∙ ap (λ b. cond b None (number_at index seat.sender.sid)) apart ∙ there, indexed)

pub indexed-left : (index after : Keys) (c sid : ℕ) (seats : List Seat) → IsSetAtSid sid None index after → number_at index sid ≡ Some c → AreIndexedBySid index (keys seats)
    → AreIndexedBySid after (keys (others_of c seats))
unfolding AreIndexedBySid
indexed-left index after c sid [] set here indexed = tt
indexed-left index after c sid (seat ∷ seats) set here indexed =
    left-one index after c sid seat (others_of c seats) (seat.number == c) refl set here indexed.0 (indexed-left index after c sid seats set here indexed.1)
