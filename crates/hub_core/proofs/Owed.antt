-- The shares of those that hear something.
use Rattle.std.proofs.Common.{◌≡◌, ◌∙◌, sym, ap, ap₂, refl, subst, ℕ, zero, suc, ◌+◌, ◌<◌, ◌≤◌, Bool, true, false, List, [], ◌∷◌, ◌++◌, length, map, get_or, drop, arith}
use Rattle.std.specs.Prelude.{◌==◌, ◌||◌, ◌≢◌, cond, IfSome, Option, Some, None}
use Rattle.std.proofs.lemmas.Bool.{eqb-true}
use Rattle.std.proofs.lemmas.List.{append-nil, append_assoc, at_drop_more, at_drop_all}
use Rattle.feature_route.specs.Audiences.{holds_words}
use Rattle.feature_route.specs.declared.receivers.Audience.{Audience}
use Rattle.feature_route.specs.declared.receivers.Audience.TheVariants as audiences
use Rattle.hub_core.specs.declared.seat.Phase.{Phase}
use Rattle.hub_core.specs.declared.seat.Phase.TheVariants as phases
use Rattle.hub_core.specs.declared.seat.Seat.{Seat}
use Rattle.hub_core.specs.declared.share.Share.{Share}
use Rattle.hub_core.specs.Owed.{AreQuietBut, IsMeant, IsOnlyFor, share_at, shares_from}
use Rattle.hub_core.specs.Phases.{phase_hears}
use Rattle.hub_core.specs.Seats.{seat_after_change_at}
use Rattle.hub_rules.specs.declared.effect.Effect.{Effect}
use Rattle.hub_rules.specs.declared.effect.Hearers.TheVariants.{Those}

abbrev Lines : Type 0
Lines = List (List ℕ)

-- ---- one more seat

first-share : (place : ℕ) (owed : Seat → Lines) (seat : Seat) (seats : List Seat) → shares_from place owed (seat ∷ seats) ≡ share_at place (owed seat) ++ shares_from (place + 1) owed seats
unfolding shares_from
first-share place owed seat seats = refl

no-share : (place : ℕ) (owed : Seat → Lines) → shares_from place owed [] ≡ []
unfolding shares_from
no-share place owed = refl

pub shares-more : (owed : Seat → Lines) (seats : List Seat) (i : ℕ) (seat : Seat) (old new all : List Share) → i < length seats → seat ≡ get_or seats i seat
    → new ≡ old ++ share_at i (owed seat) → old ++ shares_from i owed (drop i seats) ≡ all → new ++ shares_from (i + 1) owed (drop (i + 1) seats) ≡ all
shares-more owed seats i seat old new all within is_seat is_new done =
    ap (λ ss. ss ++ shares_from (i + 1) owed (drop (i + 1) seats)) is_new
    ∙ append_assoc old (share_at i (owed seat)) (shares_from (i + 1) owed (drop (i + 1) seats))
    ∙ ap (λ (s : Seat). old ++ (share_at i (owed s) ++ shares_from (i + 1) owed (drop (i + 1) seats))) is_seat
    ∙ sym (ap (λ ss. old ++ ss) (at_drop_more (λ xs. shares_from i owed xs) seats i seat within ∙ first-share i owed (get_or seats i seat) (drop (i + 1) seats))) ∙ done

pub shares-end : (owed : Seat → Lines) (seats : List Seat) (i : ℕ) (old all : List Share) → length seats ≤ i
    → old ++ shares_from i owed (drop i seats) ≡ all → old ≡ all
shares-end owed seats i old all over done =
    sym (ap (λ ss. old ++ ss) (at_drop_all (λ xs. shares_from i owed xs) seats i over ∙ no-share i owed) ∙ append-nil old) ∙ done

-- ---- two connections alone

-- no seat is owed anything but that at this place
abbrev IsQuietBut : ℕ → (Seat → Lines) → List Seat → Type 0
IsQuietBut one owed seats = (i : ℕ) (d : Seat) → i < length seats → i ≢ one → owed (get_or seats i d) ≡ []

no-shares : (place : ℕ) (owed : Seat → Lines) (seats : List Seat) → ((i : ℕ) (d : Seat) → i < length seats → owed (get_or seats i d) ≡ []) → shares_from place owed seats ≡ []
unfolding shares_from
no-shares place owed [] quiet = refl
no-shares place owed (seat ∷ seats) quiet =
    ap (λ ls. share_at place ls ++ shares_from (place + 1) owed seats) (quiet 0 seat (omega arith))
    ∙ no-shares (place + 1) owed seats (λ i d within. quiet (suc i) d (omega (arith, within)))

one-share : (place : ℕ) (owed : Seat → Lines) (seats : List Seat) (i : ℕ) (d : Seat) → i < length seats → IsQuietBut i owed seats
    → shares_from place owed seats ≡ share_at (place + i) (owed (get_or seats i d))
unfolding shares_from
one-share place owed [] i d within quiet = absurd (omega (arith, within))
one-share place owed (seat ∷ seats) zero d within quiet =
    ap (λ ss. share_at place (owed seat) ++ ss) (no-shares (place + 1) owed seats (λ i e less. quiet (suc i) e (omega (arith, less)) (λ same. omega (arith, same))))
    ∙ append-nil (share_at place (owed seat))
    ∙ ap (λ n. share_at n (owed seat)) (omega arith)
one-share place owed (seat ∷ seats) (suc i) d within quiet =
    ap (λ ls. share_at place ls ++ shares_from (place + 1) owed seats) (quiet 0 seat (omega arith) (λ same. omega (arith, same)))
    ∙ one-share (place + 1) owed seats i d (omega (arith, within)) (λ k e less other. quiet (suc k) e (omega (arith, less)) (λ same. other (omega (arith, same))))
    ∙ ap (λ n. share_at n (owed (get_or seats i d))) (omega arith)

two-shares : (place : ℕ) (owed : Seat → Lines) (seats : List Seat) (i j : ℕ) (d e : Seat) → i < j → AreQuietBut i j owed seats
    → shares_from place owed seats ≡ share_at (place + i) (owed (get_or seats i d)) ++ share_at (place + j) (owed (get_or seats j e))
unfolding shares_from
two-shares place owed [] i j d e less quiet = absurd (omega (arith, quiet.0))
two-shares place owed (seat ∷ seats) i zero d e less quiet = absurd (omega (arith, less))
two-shares place owed (seat ∷ seats) zero (suc j) d e less quiet =
    ap₂ ◌++◌ (ap (λ n. share_at n (owed seat)) (omega arith))
    (one-share (place + 1) owed seats j e (omega (arith, quiet.0)) (λ k s within other. quiet.1 (suc k) s (omega (arith, within)) (λ same. omega (arith, same)) (λ same. other (omega (arith, same))))
    ∙ ap (λ n. share_at n (owed (get_or seats j e))) (omega arith))
two-shares place owed (seat ∷ seats) (suc i) (suc j) d e less quiet =
    ap (λ ls. share_at place ls ++ shares_from (place + 1) owed seats) (quiet.1 0 seat (omega arith) (λ same. omega (arith, same)) (λ same. omega (arith, same)))
    ∙ two-shares (place + 1) owed seats i j d e (omega (arith, less))
    (omega (arith, quiet.0), λ k s within first second. quiet.1 (suc k) s (omega (arith, within)) (λ same. first (omega (arith, same))) (λ same. second (omega (arith, same))))
    ∙ ap₂ (λ m n. share_at m (owed (get_or seats i d)) ++ share_at n (owed (get_or seats j e))) (omega arith) (omega arith)

pub alone-owed : (owed : Seat → Lines) (seats : List Seat) (i j : ℕ) (d : Seat) → j ≡ i → AreQuietBut i j owed seats → share_at i (owed (get_or seats i d)) ≡ shares_from 0 owed seats
alone-owed owed seats i j d same quiet =
    sym (one-share 0 owed seats i d (subst (λ n. n < length seats) same quiet.0) (λ k e within other. quiet.1 k e within other (λ is. other (is ∙ same)))
    ∙ ap (λ n. share_at n (owed (get_or seats i d))) (omega arith))

pub both-owed : (owed : Seat → Lines) (seats : List Seat) (i j : ℕ) (d e : Seat) → i < j → AreQuietBut i j owed seats
    → share_at i (owed (get_or seats i d)) ++ share_at j (owed (get_or seats j e)) ≡ shares_from 0 owed seats
both-owed owed seats i j d e less quiet =
    sym (two-shares 0 owed seats i j d e less quiet ∙ ap₂ (λ m n. share_at m (owed (get_or seats i d)) ++ share_at n (owed (get_or seats j e))) (omega arith) (omega arith))

-- ---- who is meant

-- who hears nothing, whatever phase it is in
quiet-in : (phase : Phase) (audience : Audience) (sid : ℕ) → ((support : Lines) → holds_words audience sid support ≡ false) → phase_hears phase false (Those audience) sid ≡ false
quiet-in phases.Protocol audience sid quiet = refl
quiet-in phases.Identify audience sid quiet = refl
quiet-in (phases.Verify newcomer expected) audience sid quiet = refl
quiet-in (phases.Normal support) audience sid quiet = quiet support
quiet-in phases.Gone audience sid quiet = refl

pub meant-by : (own : ℕ) (effect : Effect) (audience : Audience) (found : Option ℕ) → effect.hearers ≡ Those audience
    → IfSome found (λ sid. IsOnlyFor own sid audience) → IfSome found (λ sid. IsMeant own sid effect)
meant-by own effect audience None is only = tt
meant-by own effect audience (Some sid) is only = λ seat first second.
    ap (λ h. cond (phase_hears seat.phase false h seat.sender.sid) effect.others []) is
    ∙ ap (λ b. cond b effect.others []) (quiet-in seat.phase audience seat.sender.sid (λ support. only seat.sender.sid support first second))

-- ---- for whom a message is

apart : (one sid : ℕ) (same : Bool) → (one == sid) ≡ same → sid ≢ one → same ≡ false
apart one sid true is differs = absurd (differs (sym (eqb-true one sid is)))
apart one sid false is differs = refl

pub nobody-only : (one other : ℕ) → IsOnlyFor one other audiences.Nobody
unfolding holds_words
nobody-only one other sid words first second = refl

pub one-only : (one other : ℕ) → IsOnlyFor one other (audiences.One other)
unfolding holds_words
one-only one other sid words first second = apart other sid (other == sid) refl second

pub two-only : (one other : ℕ) → IsOnlyFor one other (audiences.Two other one)
unfolding holds_words
two-only one other sid words first second = ap₂ ◌||◌ (apart other sid (other == sid) refl second) (apart one sid (one == sid) refl first)

-- ---- where no operator changes a connection

pub none-changed : (seats : List Seat) → map (seat_after_change_at None) seats ≡ seats
none-changed [] = refl
none-changed (seat ∷ seats) = ap (λ (ss : List Seat). seat ∷ ss) (none-changed seats)
