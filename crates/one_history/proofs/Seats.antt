-- A caller's seat before and after a step, as contracts see it.
use Rattle.std.proofs.Common.{◌≡◌, ℕ, suc, Option, Some, List, [], ◌∷◌, length, sym, refl, ap, ◌∙◌, subst, true, false}
use Rattle.std.proofs.lemmas.List.Elements.{All-head}
use Rattle.std.specs.List.{All}
use Rattle.atomic_table.specs.Table.{Me, rest}
use Rattle.atomic_table.specs.Seated.{TableId}
use Rattle.one_history.specs.Histories.{entries}
use Rattle.one_history.specs.Claims.{claim, added, Agrees}
use Rattle.one_history.specs.States.{LockState, Home, SeatState, LockHostState, IsHolderAt, IsIdleAt}
use Rattle.one_history.specs.Seats.{seat_of, host_of, IsIdle, number_in, mine_in, callers_in, carried, IsSeat, HasValue, IsUnchanged, IsReady}
use Rattle.one_history.specs.Plays.{Seizes, with_entry}
use Rattle.one_history.specs.declared.view.SeatView.{SeatView}
use Rattle.one_history.specs.declared.view.SeatClaim.{SeatClaim}

pub length-gone : {E : Type 0} (cs : List (SeatClaim E)) → length (callers_in cs) ≡ length cs
length-gone [] = refl
length-gone (c ∷ cs) = ap suc (length-gone cs)

module _ {T E A : Type 0} where
  pub gathered_count : (z : TableId) (m : Me (Option T) (SeatView E A)) (st : LockHostState E A) → host_of z m.0 ≡ st → length st.gathered ≡ length m.0.claims
  gathered_count z m st shown = ap (λ (t : LockHostState E A). length t.gathered) (sym shown) ∙ length-gone m.0.claims

  pub slot_first : (m : Me (Option T) (SeatView E A)) (x : Option T) → m.1 ≡ (0, x) ∷ [] → m.1 ≡ (0, x) ∷ rest m.1
  slot_first m x e = e ∙ ap (λ (cs : List (ℕ × Option T)). (0, x) ∷ rest cs) (sym e)

  module _ (z : TableId) (m : Me (Option T) (SeatView E A)) (l : LockState A) (st : SeatState E A) (shown : seat_of z m.0 ≡ st) where
    pub told_of : st.home ≡ record { table = l.table; about = Some l.about } → m.0.about ≡ Some l.about
    told_of home = ap (λ (t : SeatState E A). t.home.about) shown ∙ ap (λ (h : Home A). h.about) home

    pub idle : IsSeat m → IsIdleAt l st → IsIdle m
    idle seat is =
        let free : m.0.busy ≡ false = ap (λ (t : SeatState E A). t.holds) shown ∙ is.1 in
        (seat.slot ∙ ap carried free, free)

    -- the value was put into the slot
    has_value : (x : T) → IsSeat m → IsHolderAt l st → HasValue l.about x (m.0, (0, Some x) ∷ rest m.1)
    has_value x seat holder =
        let busy : m.0.busy ≡ true = ap (λ (t : SeatState E A). t.holds) shown ∙ holder.1 in
        record {
          told = told_of holder.0;
          busy = busy;
          slot = ap (λ (cs : List (ℕ × Option T)). (0, Some x) ∷ rest cs) (seat.slot ∙ ap carried busy);
        }

    pub unchanged : (stands : A → T → List E → Type 0) (x : T) (o : Me (Option T) (SeatView E A)) → IsSeat m → o ≡ (m.0, (0, Some x) ∷ rest m.1) → IsHolderAt l st
        → stands l.about x st.seen → IsUnchanged stands o
    unchanged stands x o seat put holder rests =
        subst (IsUnchanged stands) (sym put)
        record {
          about = l.about;
          value = x;
          has = has_value x seat holder;
          rests = subst (λ (t : SeatState E A). stands l.about x t.seen) (sym shown) rests;
        }

    module _ (by : E → ℕ) (legal : A → List E → Type 0) (stands : A → T → List E → Type 0) where
      pub ready : (e : E) (x : T) (o : Me (Option T) (SeatView E A)) → IsSeat m → o ≡ (m.0, (0, Some x) ∷ rest m.1) → IsHolderAt l st
          → by e ≡ st.number → legal l.about (e ∷ st.seen) → stands l.about x (e ∷ st.seen) → IsReady by legal stands e o
      ready e x o seat put holder mine lawful rests =
          subst (IsReady by legal stands e) (sym put)
          record {
            about = l.about;
            value = x;
            claim = seat.claim;
            has = has_value x seat holder;
            only = seat.only;
            mine = subst (λ (t : SeatState E A). by e ≡ t.number) (sym shown) mine ∙ ap number_in seat.only;
            lawful = subst (λ (t : SeatState E A). legal l.about (e ∷ t.seen)) (sym shown) lawful;
            rests = subst (λ (t : SeatState E A). stands l.about x (e ∷ t.seen)) (sym shown) rests;
          }

      -- the seat's own entries in all that it has seen
      pub own_entries : (n o : Me (Option T) (SeatView E A)) → IsSeat m → st.home ≡ record { table = l.table; about = Some l.about } → Seizes by legal stands m n → o.0 ≡ n.0
          → entries by st.number o.0.seen ≡ st.mine
      own_entries n o seat home seized same =
          let c = seat.claim in
          let claims : n.0.claims ≡ c ∷ [] = ap (λ (x : Me (Option T) (SeatView E A)). x.0.claims) seized.now ∙ seat.only in
          let fair = seized.fair l.about (told_of home) in
          let own : entries by c.number n.0.seen ≡ c.mine = All-head (Agrees by n.0.seen) c [] (subst (All (Agrees by n.0.seen)) claims fair.own) in
          let of_m : entries by (number_in m.0.claims) n.0.seen ≡ mine_in m.0.claims =
          subst (λ (cs : List (SeatClaim E)). entries by (number_in cs) n.0.seen ≡ mine_in cs) (sym seat.only) own
          in
          subst (λ (t : SeatState E A). entries by t.number o.0.seen ≡ t.mine) shown
          (subst (λ (v : SeatView E A). entries by (number_in m.0.claims) v.seen ≡ mine_in m.0.claims) (sym same) of_m)

  -- the seat after an entry
  pub seated : (e : E) (o n : Me (Option T) (SeatView E A)) (c : SeatClaim E) → o.0.claims ≡ c ∷ [] → o.0.count ≡ 0 → n ≡ with_entry e o → IsSeat n
  seated e o n c only guest is =
      subst IsSeat (sym is)
      record {
        claim = claim c.number (e ∷ c.mine) c.since;
        only = ap (added e) only;
        guest = guest;
        slot = refl;
      }
