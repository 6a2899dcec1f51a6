-- The end of a lock, once the host has all seats.
use Rattle.std.proofs.Common.{◌≡◌, ℕ, Option, Some, List, [], ◌∷◌, length, map, sym, refl, ap, ◌∙◌, subst, false}
use Rattle.std.proofs.lemmas.List.Elements.{All-nil, All-cons, All-head, All-tail}
use Rattle.std.specs.List.{All, Contains}
use mathlib.Core.Option.{some, some-injective}
use lib.ListN.{get_elem?}
use Rattle.atomic_table.specs.Table.{Final, Seen}
use Rattle.atomic_table.specs.Seated.{TableId}
use Rattle.one_history.specs.Histories.{Begins, entries}
use Rattle.one_history.specs.States.{LockHostState, Caller}
use Rattle.one_history.specs.Rule.{Kept}
use Rattle.one_history.specs.Seats.{host_of, callers_in}
use Rattle.one_history.specs.Settled.{numbers, Settles}
use Rattle.one_history.specs.declared.view.SeatView.{SeatView}
use Rattle.one_history.specs.declared.view.SeatClaim.{SeatClaim}
use Rattle.one_history.proofs.SeatRules.{Ends, closes}
use Rattle.one_history.proofs.Seats.{gathered_count}

module _ {E : Type 0} where
  all_gone : (P : Caller E → Type 0) (cs : List (SeatClaim E)) → All (λ c. P record { number = c.number; seen = c.since; mine = c.mine }) cs → All P (callers_in cs)
  all_gone P [] all = All-nil P
  all_gone P (c ∷ cs) all =
      let Q : SeatClaim E → Type 0 = λ d. P record { number = d.number; seen = d.since; mine = d.mine } in
      All-cons P record { number = c.number; seen = c.since; mine = c.mine } (callers_in cs) (All-head Q c cs all) (all_gone P cs (All-tail Q c cs all))

  numbers_gone : (cs : List (SeatClaim E)) → map (λ (c : SeatClaim E). c.number) cs ≡ numbers (callers_in cs)
  numbers_gone [] = refl
  numbers_gone (c ∷ cs) = ap (λ ps. c.number ∷ ps) (numbers_gone cs)

module _ {T E A : Type 0} (by : E → ℕ) where
  module _ (legal : A → List E → Type 0) (stands : A → T → List E → Type 0) where
    pub ends_about : (key about : A) → key ≡ about → (id : ℕ) → id ≡ 0 → (v : SeatView E A) (z : TableId) (st : LockHostState E A) → host_of z v ≡ st
        → length st.gathered ≡ st.admitted → v.busy ≡ false → (ws : List ℕ) (xs : List (Option T)) → Final (Seen (Kept by legal stands key) id v) ws xs
        → Ends by (legal about) (stands about) v xs
    ends_about key about same id first v z st shown all idle ws xs final =
        let count : length v.claims ≡ v.count =
        sym (gathered_count {T = T} z (v, []) st shown) ∙ (all ∙ ap (λ (t : LockHostState E A). t.admitted) (sym shown))
        in
        subst (λ a. Ends by (legal a) (stands a) v xs) same
        (closes by legal stands key v ws xs count idle (subst (λ i. Final (Seen (Kept by legal stands key) i v) ws xs) first final))

  module _ (legal : List E → Type 0) (stands : T → List E → Type 0) (v : SeatView E A) (xs : List (Option T)) (e : Ends by legal stands v xs) where
    pub slot_of : (y : Option T) → get_elem? xs 0 ≡ some y → y ≡ Some e.value
    slot_of y there = some-injective y (Some e.value) (sym there ∙ e.there)

    pub settled : (z : TableId) (st : LockHostState E A) → host_of z v ≡ st → (x : T) → x ≡ e.value → Settles by legal (stands x) st.gathered
    settled z st shown x is =
        subst (λ (t : LockHostState E A). Settles by legal (stands x) t.gathered) shown
        record {
          log = e.log;
          lawful = e.lawful;
          stands = subst (λ y. stands y e.log) (sym is) e.rests;
          begins = all_gone (λ g. Begins e.log g.seen) v.claims e.early;
          own = all_gone (λ g. entries by g.number e.log ≡ g.mine) v.claims e.whole;
          only = subst (λ ps. All (λ x'. Contains ps (by x')) e.log) (numbers_gone v.claims) e.only;
        }
