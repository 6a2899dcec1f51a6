-- The knowledge of two callers whose seats are one for a moment.
use Rattle.std.proofs.Common.{◌≡◌, ℕ, Option, Some, List, [], ◌∷◌, ◌++◌, sym, ap, ◌∙◌, subst, false}
use Rattle.std.proofs.lemmas.List.Elements.{All-head, All-tail}
use Rattle.std.specs.List.{All}
use Rattle.atomic_table.specs.Table.{Me}
use Rattle.atomic_table.specs.Seated.{TableId}
use Rattle.one_history.specs.Histories.{Begins, entries}
use Rattle.one_history.specs.Claims.{claim, stamped, first_claim, Agrees}
use Rattle.one_history.specs.States.{SeatState}
use Rattle.one_history.specs.Rule.{Fair}
use Rattle.one_history.specs.Seats.{seat_of, number_in, mine_in, carried, IsSeat}
use Rattle.one_history.specs.Plays.{paired, left_of}
use Rattle.one_history.specs.declared.view.SeatView.{SeatView}
use Rattle.one_history.specs.declared.view.SeatClaim.{SeatClaim}
use Rattle.one_history.proofs.Claims.{Early}

module _ {T E A : Type 0} where
  pub fair_of : (by : E → ℕ) (legal : A → List E → Type 0) (m : Me (Option T) (SeatView E A)) (p : SeatView E A) → m.0 ≡ p
      → ((a : A) → m.0.about ≡ Some a → Fair by (legal a) m.0) → (a : A) → p.about ≡ Some a → Fair by (legal a) p
  fair_of by legal m p is fair = subst (λ (v : SeatView E A). (a : A) → v.about ≡ Some a → Fair by (legal a) v) is fair

  module _ (m o n : Me (Option T) (SeatView E A)) (left : IsSeat m) (right : IsSeat o) (is : n.0 ≡ left_of (paired m.0 o.0)) where
    -- the claims of the pair
    pair_claims : (paired m.0 o.0).claims ≡ claim left.claim.number left.claim.mine m.0.seen ∷ claim right.claim.number right.claim.mine o.0.seen ∷ []
    pair_claims = (λ i. stamped m.0.seen (left.only i) ++ stamped o.0.seen (right.only i))

    -- the first of its two seats is a seat
    pub first_seat : m.0.busy ≡ false → n.1 ≡ [] → IsSeat n
    first_seat idle empty =
        record {
          claim = claim left.claim.number left.claim.mine m.0.seen;
          only = ap (λ (v : SeatView E A). v.claims) is ∙ ap first_claim pair_claims;
          guest = ap (λ (v : SeatView E A). v.count) is ∙ left.guest;
          slot = empty ∙ ap carried (sym (ap (λ (v : SeatView E A). v.busy) is ∙ idle));
        }

    module _ (by : E → ℕ) (legal : List E → Type 0) (fair : Fair by legal (paired m.0 o.0)) where
      same_seen : n.0.seen ≡ (paired m.0 o.0).seen
      same_seen = ap (λ (v : SeatView E A). v.seen) is

      claims_of : (P : SeatClaim E → Type 0) → All P (paired m.0 o.0).claims
          → P (claim left.claim.number left.claim.mine m.0.seen) × P (claim right.claim.number right.claim.mine o.0.seen)
      claims_of P all =
          let c : SeatClaim E = claim left.claim.number left.claim.mine m.0.seen in
          let d : SeatClaim E = claim right.claim.number right.claim.mine o.0.seen in
          let both : All P (c ∷ d ∷ []) = subst (All P) pair_claims all in
          (All-head P c (d ∷ []) both, All-head P d [] (All-tail P c (d ∷ []) both))

      seen_both : Begins n.0.seen m.0.seen × Begins n.0.seen o.0.seen
      seen_both =
          let h : List E = (paired m.0 o.0).seen in
          let both = claims_of (Early h) fair.early in
          (subst (λ s. Begins s m.0.seen) (sym same_seen) both.0, subst (λ s. Begins s o.0.seen) (sym same_seen) both.1)

      own : (p : Me (Option T) (SeatView E A)) (seat : IsSeat p) → entries by seat.claim.number (paired m.0 o.0).seen ≡ seat.claim.mine
          → entries by (number_in p.0.claims) n.0.seen ≡ mine_in p.0.claims
      own p seat agrees =
          subst (λ s. entries by (number_in p.0.claims) s ≡ mine_in p.0.claims) (sym same_seen)
          (subst (λ (cs : List (SeatClaim E)). entries by (number_in cs) (paired m.0 o.0).seen ≡ mine_in cs) (sym seat.only) agrees)

      own_both : (entries by (number_in m.0.claims) n.0.seen ≡ mine_in m.0.claims) × (entries by (number_in o.0.claims) n.0.seen ≡ mine_in o.0.claims)
      own_both =
          let h : List E = (paired m.0 o.0).seen in
          let both = claims_of (Agrees by h) fair.own in (
            own m left both.0,
            own o right both.1,
          )

      -- as contracts see it
      module _ (z y : TableId) (st sr : SeatState E A) (shown : seat_of z m.0 ≡ st) (shown_right : seat_of y o.0 ≡ sr) where
        pub begins_left : Begins n.0.seen st.seen
        begins_left = subst (λ (t : SeatState E A). Begins n.0.seen t.seen) shown seen_both.0

        pub begins_right : Begins n.0.seen sr.seen
        begins_right = subst (λ (t : SeatState E A). Begins n.0.seen t.seen) shown_right seen_both.1

        pub entries_left : entries by st.number n.0.seen ≡ st.mine
        entries_left = subst (λ (t : SeatState E A). entries by t.number n.0.seen ≡ t.mine) shown own_both.0

        pub entries_right : entries by sr.number n.0.seen ≡ sr.mine
        entries_right = subst (λ (t : SeatState E A). entries by t.number n.0.seen ≡ t.mine) shown_right own_both.1
