-- The next free identifier, as it is computed, is the one that the rule gives.
use Rattle.std.proofs.Common.{◌≡◌, ◌∙◌, sym, ap, refl, subst, ℕ, zero, suc, ◌+◌, ◌-◌, ◌%◌, ◌<◌, ◌≤◌, ◌∷◌, [], List, length, Bool, true, false, eqb, nat_eq, arith, inl, inr, cond}
use Rattle.std.specs.List.{Contains, list_any}
use Rattle.std.specs.Cmp.{nat_eq_equiv}
use Rattle.std.proofs.lemmas.Bool.{false≢true, cases_lt, eqb-true}
use Rattle.std.proofs.lemmas.Map.Views.{list_any-from_Contains, Contains-from_any}
use Rattle.std.proofs.Math.Nat.{add-mod_right}
use Rattle.adc_base32.proofs.Vacancies.{not-all_taken}
use Rattle.adc_base32.specs.Turns.{following, IsNextFree, is_taken, next_within, next_free}

follows : (last k : ℕ) → following (following last 0) k ≡ following last (k + 1)
follows last k = omega (arith)

taken-is : (n : ℕ) (taken : List ℕ) → Contains taken n → is_taken n taken ≡ true
taken-is n taken there = list_any-from_Contains nat_eq_equiv n taken there

free-by : (n : ℕ) (taken : List ℕ) (found : Bool) → is_taken n taken ≡ found → (Contains taken n → ⊥) → found ≡ false
free-by n taken true is free = absurd (free (Contains-from_any eqb-true n taken is))
free-by n taken false is free = refl

free-is : (n : ℕ) (taken : List ℕ) → (Contains taken n → ⊥) → is_taken n taken ≡ false
free-is n taken free = free-by n taken (is_taken n taken) refl free

stop : (most last : ℕ) (taken : List ℕ) → is_taken (following last 0) taken ≡ false → next_within most last taken ≡ following last 0
unfolding next_within
stop zero last taken free = refl
stop (suc most) last taken free = ap (λ b. cond b (next_within most (following last 0) taken) (following last 0)) free

last-looked : (last : ℕ) (taken : List ℕ) → next_within 0 last taken ≡ following last 0
unfolding next_within
last-looked last taken = refl

pass : (most last : ℕ) (taken : List ℕ) → is_taken (following last 0) taken ≡ true → next_within (suc most) last taken ≡ next_within most (following last 0) taken
unfolding next_within
pass most last taken is = ap (λ b. cond b (next_within most (following last 0) taken) (following last 0)) is

next_within-is : (passed most last : ℕ) (taken : List ℕ) → passed ≤ most → (Contains taken (following last passed) → ⊥)
    → ((k : ℕ) → k < passed → Contains taken (following last k)) → next_within most last taken ≡ following last passed
next_within-is zero most last taken few free before = stop most last taken (free-is (following last 0) taken free)
next_within-is (suc passed) zero last taken few free before = absurd (omega (arith, few))
next_within-is (suc passed) (suc most) last taken few free before =
    let e : suc passed ≡ passed + 1 = omega arith in
    let there : following (following last 0) passed ≡ following last (suc passed) = follows last passed ∙ ap (following last) (sym e) in
    pass most last taken (taken-is (following last 0) taken (before 0 (omega arith)))
    ∙ next_within-is passed most (following last 0) taken (omega (arith, few))
    (λ taken_there. free (subst (Contains taken) there taken_there))
    (λ k below. let f : suc k ≡ k + 1 = omega arith in
    subst (Contains taken) (ap (following last) f ∙ sym (follows last k)) (before (suc k) (omega (arith, below))))
    ∙ there

round : (last k : ℕ) → following last (k + 1_048_575) ≡ following last k
round last k = omega (arith)

-- a whole round is never passed over
few-passed : (last passed : ℕ) (taken : List ℕ) → (Contains taken (following last passed) → ⊥)
    → ((k : ℕ) → k < passed → Contains taken (following last k)) → passed ≤ 1_048_575
few-passed last passed taken free before =
    elim (cases_lt passed 1_048_576) [
      | inl few ↦ omega (arith, few)
      | inr many ↦
          let e : (passed - 1_048_575) + 1_048_575 ≡ passed = omega (arith, many) in
          absurd (free (subst (Contains taken) (sym (round last (passed - 1_048_575)) ∙ ap (following last) e) (before (passed - 1_048_575) (omega (arith, many)))))
    ]

pub next_free-is : (last n : ℕ) (taken : List ℕ) → IsNextFree last taken n → n ≡ next_free last taken
next_free-is last n taken is =
    let free : Contains taken (following last is.0) → ⊥ = λ there. is.2 (subst (Contains taken) (sym is.1) there) in
    is.1 ∙ sym (next_within-is is.0 1_048_575 last taken (few-passed last is.0 taken free is.3) free is.3)

step-of : (found : Bool) (most last : ℕ) (taken : List ℕ) → is_taken (following last 0) taken ≡ found → is_taken (next_within (suc most) last taken) taken ≡ true
    → (is_taken (following last 0) taken ≡ true) × (is_taken (next_within most (following last 0) taken) taken ≡ true)
step-of true most last taken is all = (is, ap (λ n. is_taken n taken) (sym (pass most last taken is)) ∙ all)
step-of false most last taken is all =
    absurd (false≢true (sym is ∙ ap (λ n. is_taken n taken) (sym (stop (suc most) last taken is)) ∙ all))

-- where the number that is computed is taken, so are all that are looked at
all-taken : (most last : ℕ) (taken : List ℕ) → is_taken (next_within most last taken) taken ≡ true → (k : ℕ) → k ≤ most → Contains taken (following last k)
all-taken zero last taken all k few =
    let e : k ≡ 0 = omega (arith, few) in
    subst (λ j. Contains taken (following last j)) (sym e) (Contains-from_any eqb-true (following last 0) taken (ap (λ n. is_taken n taken) (sym (last-looked last taken)) ∙ all))
all-taken (suc most) last taken all zero few =
    Contains-from_any eqb-true (following last 0) taken (step-of (is_taken (following last 0) taken) most last taken refl all).0
all-taken (suc most) last taken all (suc k) few =
    let e : suc k ≡ k + 1 = omega arith in
    subst (Contains taken) (follows last k ∙ ap (following last) (sym e))
    (all-taken most (following last 0) taken (step-of (is_taken (following last 0) taken) most last taken refl all).1 k (omega (arith, few)))

free-found : (last : ℕ) (taken : List ℕ) → last < 1_048_576 → length taken + 1 < 1_048_576 → (found : Bool) → is_taken (next_free last taken) taken ≡ found → found ≡ false
free-found last taken low few true is =
    absurd (not-all_taken last taken low few (λ k below. all-taken 1_048_575 last taken is k (omega (arith, below))))
free-found last taken low few false is = refl

-- where fewer than all are taken, the one that is computed is not
pub next_free-free : (last : ℕ) (taken : List ℕ) → last < 1_048_576 → length taken + 1 < 1_048_576 → is_taken (next_free last taken) taken ≡ false
next_free-free last taken low few = free-found last taken low few (is_taken (next_free last taken) taken) refl

following-range : (last k : ℕ) → (0 < following last k) × (following last k < 1_048_576)
following-range last k = (omega arith, omega arith)

within-range : (most last : ℕ) (taken : List ℕ) (b : Bool) (next : ℕ) → (0 < next) × (next < 1_048_576)
    → (0 < cond b next (following last 0)) × (cond b next (following last 0) < 1_048_576)
within-range most last taken true next range = range
within-range most last taken false next range = following-range last 0

next_within-range : (most last : ℕ) (taken : List ℕ) → (0 < next_within most last taken) × (next_within most last taken < 1_048_576)
unfolding next_within
next_within-range zero last taken = following-range last 0
next_within-range (suc most) last taken =
    within-range most last taken (is_taken (following last 0) taken) (next_within most (following last 0) taken) (next_within-range most (following last 0) taken)

-- identifiers are from 1 to 1,048,575
pub next_free-range : (last : ℕ) (taken : List ℕ) → (0 < next_free last taken) × (next_free last taken < 1_048_576)
next_free-range last taken = next_within-range 1_048_575 last taken
