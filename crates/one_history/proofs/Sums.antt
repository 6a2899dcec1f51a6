-- Sums over a list that changes at one place, and over a caller's claims.
use Rattle.std.proofs.Common.{◌≡◌, ℕ, zero, suc, ◌+◌, ◌≤◌, ◌≢◌, List, [], ◌∷◌, ◌++◌, length, set, sym, refl, ap, arith, cond, eq-eqb, ne_eqb}
use mathlib.Core.Option.{some, some-injective, some-ne-none}
use lib.ListN.{get_elem?}
use Rattle.one_history.specs.Histories.{total}
use Rattle.one_history.specs.Claims.{is_of, stamped, first_claim, other_claims}
use Rattle.one_history.specs.declared.view.SeatClaim.{SeatClaim}

module _ {X : Type 0} (g : X → ℕ) where
  pub total-append : (l m : List X) → total g (l ++ m) ≡ total g l + total g m
  total-append [] m = omega arith
  total-append (x ∷ xs) m = omega (arith, total-append xs m)

  pub total-set : (l : List X) (j : ℕ) (v w : X) → get_elem? l j ≡ some v → total g (set l j w) + g v ≡ total g l + g w
  total-set [] j v w e = absurd (some-ne-none v (sym e))
  total-set (x ∷ xs) zero v w e = omega (arith, ap g (some-injective x v e))
  total-set (x ∷ xs) (suc j) v w e = omega (arith, total-set xs j v w e)

  pub term_le : (l : List X) (j : ℕ) (v : X) → get_elem? l j ≡ some v → g v ≤ total g l
  term_le [] j v e = absurd (some-ne-none v (sym e))
  term_le (x ∷ xs) zero v e = omega (arith, ap g (some-injective x v e))
  term_le (x ∷ xs) (suc j) v e = omega (arith, term_le xs j v e)

  pub terms_le : (l : List X) (j k : ℕ) (v u : X) → k ≢ j → get_elem? l j ≡ some v → get_elem? l k ≡ some u → g v + g u ≤ total g l
  terms_le [] j k v u n e d = absurd (some-ne-none v (sym e))
  terms_le (x ∷ xs) zero zero v u n e d = absurd (n refl)
  terms_le (x ∷ xs) zero (suc k) v u n e d = omega (arith, ap g (some-injective x v e), term_le xs k u d)
  terms_le (x ∷ xs) (suc j) zero v u n e d = omega (arith, ap g (some-injective x u d), term_le xs j v e)
  terms_le (x ∷ xs) (suc j) (suc k) v u n e d = omega (arith, terms_le xs j k v u (λ h. n (ap suc h)) e d)

module _ {E : Type 0} where
  pub is_of-same : (p : ℕ) (c : SeatClaim E) → c.number ≡ p → is_of p c ≡ 1
  is_of-same p c e = ap (λ b. let n : ℕ = cond b 1 0 in n) (eq-eqb c.number p e)

  pub is_of-other : (p : ℕ) (c : SeatClaim E) → c.number ≢ p → is_of p c ≡ 0
  is_of-other p c ne = ap (λ b. let n : ℕ = cond b 1 0 in n) (ne_eqb c.number p ne)

  pub total-stamped : (p : ℕ) (seen : List E) (cs : List (SeatClaim E)) → total (is_of p) (stamped seen cs) ≡ total (is_of p) cs
  total-stamped p seen [] = refl
  total-stamped p seen (c ∷ cs) = ap (λ n. is_of p c + n) (total-stamped p seen cs)

  pub length-stamped : (seen : List E) (cs : List (SeatClaim E)) → length (stamped seen cs) ≡ length cs
  length-stamped seen [] = refl
  length-stamped seen (c ∷ cs) = ap suc (length-stamped seen cs)

  pub total-parts : (g : SeatClaim E → ℕ) (cs : List (SeatClaim E)) → total g (first_claim cs) + total g (other_claims cs) ≡ total g cs
  total-parts g [] = refl
  total-parts g (c ∷ cs) = omega arith

  pub length-parts : (cs : List (SeatClaim E)) → length (first_claim cs) + length (other_claims cs) ≡ length cs
  length-parts [] = refl
  length-parts (c ∷ cs) = omega arith
