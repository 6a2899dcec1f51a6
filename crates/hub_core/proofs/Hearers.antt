-- Whom an effect may concern is found by the index, and nobody else is owed anything.
use Rattle.std.proofs.Common.{◌≡◌, ◌∙◌, sym, ap, ap₂, ℕ, ◌<◌, false, cond, ◌==◌, List, [], ◌++◌, length, get_or, Option, Some, None}
use Rattle.std.specs.Prelude.{◌≢◌, IfNone, IfSome, position}
use Rattle.std.specs.Option.{unwrap_or}
use Rattle.std.proofs.lemmas.Bool.{eqb-true, eq-eqb, false≢true}
use Rattle.hub_core.specs.declared.seat.Seat.{Seat}
use Rattle.hub_core.specs.Index.{AreIndexedBySid, keys, number_at}
use Rattle.hub_core.specs.Numbers.{Rising, numbers}
use Rattle.hub_core.specs.Owed.{AreQuietBut, IsMeant}
use Rattle.hub_core.specs.Phases.{phase_hears}
use Rattle.hub_core.specs.Seats.{seat_share}
use Rattle.hub_core.proofs.Indexed.{indexed-at}
use Rattle.hub_core.proofs.Numbers.{any-at, other-number}
use Rattle.hub_core.proofs.Places.{StandsFirst, none_passes, stands_first}
use Rattle.hub_rules.specs.declared.effect.Effect.{Effect}

module _ (index : List (ℕ × ℕ)) (seats : List Seat) (indexed : AreIndexedBySid index (keys seats)) where
  -- nobody has an identifier under which nothing stands
  pub nobody-has : (sid : ℕ) → number_at index sid ≡ None → (i : ℕ) (d : Seat) → i < length seats → (get_or seats i d).sender.sid ≢ sid
  nobody-has sid none i d within same =
      let wrong : Some (get_or seats i d).number ≡ None = sym (indexed-at index seats i d indexed within) ∙ ap (number_at index) same ∙ none in
      cc

  number-of : (sid n : ℕ) → number_at index sid ≡ Some n → (i : ℕ) (d : Seat) → i < length seats → (get_or seats i d).sender.sid ≡ sid → (get_or seats i d).number ≡ n
  number-of sid n here i d within same = ap (λ o. unwrap_or o 0) (sym (indexed-at index seats i d indexed within) ∙ ap (number_at index) same ∙ here)

  module _ (sid n : ℕ) (here : number_at index sid ≡ Some n) (rising : Rising (numbers seats)) where
    others-have : (place : ℕ) → StandsFirst n seats place → (i : ℕ) (d : Seat) → i < length seats → i ≢ place → (get_or seats i d).sender.sid ≢ sid
    others-have place at i d within differs same =
        false≢true (sym (other-number n seats place rising at i d within differs) ∙ eq-eqb (get_or seats i d).number n (number-of sid n here i d within same))

    -- where the number is found, no other seat has the identifier
    pub found-has : (found : Option ℕ) → found ≡ position (λ (seat : Seat). seat.number == n) seats
        → IfSome found (λ place. (i : ℕ) (d : Seat) → i < length seats → i ≢ place → (get_or seats i d).sender.sid ≢ sid)
    found-has None is = tt
    found-has (Some place) is = others-have place (stands_first n seats place (sym is))

    -- where it is not found, none has
    pub none-has : (found : Option ℕ) → found ≡ position (λ (seat : Seat). seat.number == n) seats
        → IfNone found ((i : ℕ) (d : Seat) → i < length seats → (get_or seats i d).sender.sid ≢ sid)
    none-has (Some place) is = tt
    none-has None is = λ i d within same.
        none_passes (λ (seat : Seat). seat.number == n) seats
        (any-at (λ (seat : Seat). seat.number == n) seats i d within (eq-eqb (get_or seats i d).number n (number-of sid n here i d within same))) (sym is)

-- who is neither the sender nor meant is owed nothing
quiet-share : (c own sid : ℕ) (effect : Effect) (seat : Seat) → IsMeant own sid effect → (seat.number == c) ≡ false → seat.sender.sid ≢ own → seat.sender.sid ≢ sid → seat_share c effect seat ≡ []
quiet-share c own sid effect seat meant other first second =
    ap₂ ◌++◌ (ap (λ b. cond (phase_hears seat.phase b effect.hearers seat.sender.sid) effect.others []) other ∙ meant seat first second) (ap (λ b. cond b effect.own []) other)

module _ (index : List (ℕ × ℕ)) (seats : List Seat) (indexed : AreIndexedBySid index (keys seats)) (rising : Rising (numbers seats)) (c place sid : ℕ) (e : Seat) (effect : Effect)
    (at : StandsFirst c seats place) (meant : IsMeant (get_or seats place e).sender.sid sid effect) where
  -- nobody else has the sender's identifier
  own-once : (i : ℕ) (d : Seat) → i < length seats → i ≢ place → (get_or seats i d).sender.sid ≢ (get_or seats place e).sender.sid
  own-once i d within differs same =
      let seated : number_at index (get_or seats place e).sender.sid ≡ Some c =
      indexed-at index seats place e indexed at.within ∙ ap (λ n. Some n) (eqb-true (get_or seats place e).number c (at.here e)) in
      others-have index seats indexed (get_or seats place e).sender.sid c seated rising place at i d within differs same

  pub quiet-but : (other : ℕ) → other < length seats → ((i : ℕ) (d : Seat) → i < length seats → i ≢ place → i ≢ other → (get_or seats i d).sender.sid ≢ sid)
      → AreQuietBut place other (seat_share c effect) seats
  quiet-but other within others = (
    within,
    λ i d less first second.
        quiet-share c (get_or seats place e).sender.sid sid effect (get_or seats i d) meant (other-number c seats place rising at i d less first) (own-once i d less first) (others i d less first second),
  )

  -- where the sender alone is meant
  pub quiet-alone : sid ≡ (get_or seats place e).sender.sid → AreQuietBut place place (seat_share c effect) seats
  quiet-alone same = quiet-but place at.within (λ i d less first second is. own-once i d less first (is ∙ same))

  pub quiet-away : ((i : ℕ) (d : Seat) → i < length seats → (get_or seats i d).sender.sid ≢ sid) → AreQuietBut place place (seat_share c effect) seats
  quiet-away away = quiet-but place at.within (λ i d less first second. away i d less)
