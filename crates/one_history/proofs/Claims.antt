-- Facts of all the claims of a view, which stay true.
use Rattle.std.proofs.Common.{◌≡◌, ℕ, suc, ◌<◌, ◌≢◌, List, [], ◌∷◌, map, sym, ◌∙◌, arith}
use Rattle.std.proofs.lemmas.List.Elements.{All-nil, All-cons, All-head, All-tail, All-weaker}
use Rattle.std.specs.List.{All, Contains}
use mathlib.Core.Logic.{dite}
use native.Mathlib.Decide.{ℕ_discrete}
use Rattle.one_history.specs.Histories.{Begins, total}
use Rattle.one_history.specs.Claims.{claim, stamped, first_claim, other_claims, is_of, Agrees}
use Rattle.one_history.specs.declared.view.SeatClaim.{SeatClaim}
use Rattle.one_history.proofs.Sums.{is_of-same, is_of-other}
use Rattle.one_history.proofs.Starts.{begins_trans, entries-other, entries-between}

module _ {E : Type 0} where
  abbrev pub Early : List E → SeatClaim E → Type 0
  Early h c = Begins h c.since

  pub early_later : (h s : List E) (cs : List (SeatClaim E)) → Begins h s → All (Early s) cs → All (Early h) cs
  early_later h s cs b all = All-weaker (Early s) (Early h) (λ c e. begins_trans h s c.since b e) cs all

  pub early_stamped : (h s : List E) (cs : List (SeatClaim E)) → Begins h s → All (Early h) (stamped s cs)
  early_stamped h s [] b = All-nil (Early h)
  early_stamped h s (c ∷ cs) b = All-cons (Early h) (claim c.number c.mine s) (stamped s cs) b (early_stamped h s cs b)

  pub parts_first : (P : SeatClaim E → Type 0) (cs : List (SeatClaim E)) → All P cs → All P (first_claim cs)
  parts_first P [] all = All-nil P
  parts_first P (c ∷ cs) all = All-cons P c [] (All-head P c cs all) (All-nil P)

  pub parts_other : (P : SeatClaim E → Type 0) (cs : List (SeatClaim E)) → All P cs → All P (other_claims cs)
  parts_other P [] all = All-nil P
  parts_other P (c ∷ cs) all = All-tail P c cs all

  module _ (by : E → ℕ) where
    pub agrees_stamped : (h s : List E) (cs : List (SeatClaim E)) → All (Agrees by h) cs → All (Agrees by h) (stamped s cs)
    agrees_stamped h s [] all = All-nil (Agrees by h)
    agrees_stamped h s (c ∷ cs) all =
        All-cons (Agrees by h) (claim c.number c.mine s) (stamped s cs) (All-head (Agrees by h) c cs all) (agrees_stamped h s cs (All-tail (Agrees by h) c cs all))

    pub agrees_between : (h m s : List E) (cs : List (SeatClaim E)) → Begins h m → Begins m s → All (Agrees by h) cs → All (Agrees by s) cs → All (Agrees by m) cs
    agrees_between h m s [] b d whole own = All-nil (Agrees by m)
    agrees_between h m s (c ∷ cs) b d whole own =
        All-cons (Agrees by m) c cs
        (entries-between by c.number h m s c.mine b d (All-head (Agrees by h) c cs whole) (All-head (Agrees by s) c cs own))
        (agrees_between h m s cs b d (All-tail (Agrees by h) c cs whole) (All-tail (Agrees by s) c cs own))

    -- an entry of a caller of whom there is no claim
    pub agrees_others : (e : E) (h : List E) (cs : List (SeatClaim E)) → total (is_of (by e)) cs ≡ 0 → All (Agrees by h) cs → All (Agrees by (e ∷ h)) cs
    agrees_others e h [] none all = All-nil (Agrees by (e ∷ h))
    agrees_others e h (c ∷ cs) none all =
        let other : by e ≢ c.number = λ same. omega (arith, is_of-same (by e) c (sym same)) in
        All-cons (Agrees by (e ∷ h)) c cs
        (entries-other by c.number e h other ∙ All-head (Agrees by h) c cs all)
        (agrees_others e h cs (omega arith) (All-tail (Agrees by h) c cs all))

  -- a caller of whom there is a claim
  pub claim_of : (p : ℕ) (cs : List (SeatClaim E)) → 0 < total (is_of p) cs → Contains (map (λ (c : SeatClaim E). c.number) cs) p
  claim_of p [] some_of = absurd (omega arith)
  claim_of p (c ∷ cs) some_of =
      dite (ℕ_discrete c.number p)
      (λ same. (0, omega arith, same))
      (λ other. let later = claim_of p cs (omega (arith, is_of-other p c other)) in (suc later.0, omega arith, later.2))
