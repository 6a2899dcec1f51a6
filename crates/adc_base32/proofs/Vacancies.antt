-- Numbers in a list: which are there after one more, and that a list holds no more numbers than it is long.
use Rattle.std.proofs.Common.{◌≡◌, ◌∙◌, sym, ap, refl, ℕ, zero, suc, ◌+◌, ◌-◌, ◌*◌, ◌%◌, ◌<◌, ◌≤◌, ◌∷◌, [], ◌++◌, List, length, get_or, take, replicate, Bool, true, false, ◌||◌, eqb, nat_eq, arith, subst, inl, inr, ⊎_elim}
use Rattle.std.specs.Bool.{Decides}
use Rattle.std.specs.List.{Contains, IsDistinct, range_with_len, list_any}
use Rattle.std.specs.Set.{is_member}
use Rattle.std.specs.Cmp.{nat_eq_equiv}
use Rattle.std.proofs.lemmas.List.{take_more, get_or-replicate}
use Rattle.std.proofs.lemmas.List.Elements.{Contains-append_left, Contains-push, Contains-push_cases}
use Rattle.std.proofs.lemmas.List.FromFn.{length-range_with_len, get_or-range_with_len}
use Rattle.std.proofs.lemmas.Map.Keys.{IsDistinct-from_apart}
use Rattle.std.proofs.lemmas.Map.Made.{length-le_from_is_member, is_member-Decides}
use Rattle.std.proofs.lemmas.Bool.Decides.{Decides-eqb, nat_tests}
use Rattle.std.proofs.lemmas.Grind.{common_steps}
use Rattle.std.proofs.lemmas.Bool.{false≢true, cases_lt}
use Rattle.adc_base32.specs.Turns.{following, IsNextFree}

Decides-push : (mark : Bool) (xs : List ℕ) (n q : ℕ) → Decides mark (Contains xs q) → Decides (mark || nat_eq n q) (Contains (xs ++ n ∷ []) q)
Decides-push true xs n q d = ((λ _. Contains-append_left xs (n ∷ []) q (d.0 refl)), (λ _. refl))
Decides-push false xs n q d =
    let test = Decides-eqb n q in (
      (λ yes. subst (λ x. Contains (xs ++ n ∷ []) x) (test.0 yes) (Contains-push xs n)),
      (λ there. elim (Contains-push_cases xs n q there) [ inl before ↦ absurd (false≢true (d.1 before)) | inr same ↦ test.1 same ]),
    )

pub Decides-none : (n k q : ℕ) → k < n → Decides (get_or (replicate n false) k false) (Contains [] q)
Decides-none n k q below = (
  (λ yes. absurd (false≢true (sym (get_or-replicate n k false false below) ∙ yes))),
  (λ there. absurd (omega (arith, there.1))),
)

-- a mark for one more number
pub Decides-one_more : (xs : List ℕ) (i n d q : ℕ) (mark more : Bool) → i < length xs → n ≡ get_or xs i d → more ≡ (mark || nat_eq n q)
    → Decides mark (Contains (take i xs) q) → Decides more (Contains (take (i + 1) xs) q)
Decides-one_more xs i n y q mark more within is now d =
    let e : take (i + 1) xs ≡ take i xs ++ n ∷ [] = take_more xs i y within ∙ ap (λ z. take i xs ++ z ∷ []) (sym is) in
    rw (e, now) (Decides-push mark (take i xs) n q d)

numbers-apart : (n i j d : ℕ) → i < j → j < length (range_with_len 1 n) → eqb (get_or (range_with_len 1 n) i d) (get_or (range_with_len 1 n) j d) ≡ false
numbers-apart n i j d before within =
    let long = length-range_with_len 1 n in
    let a = get_or-range_with_len 1 n i d (omega (arith, within, long)) in
    let b = get_or-range_with_len 1 n j d (omega (arith, within, long)) in
    rw (a, b) (grind (arith, nat_tests))

contained : (n : ℕ) (xs : List ℕ) → ((q : ℕ) → 0 < q → q ≤ n → Contains xs q) → (q : ℕ) → is_member eqb (range_with_len 1 n) q ≡ true → is_member eqb xs q ≡ true
contained n xs all q there =
    let at = (is_member-Decides Decides-eqb (range_with_len 1 n) q).0 there in
    let long = length-range_with_len 1 n in
    let within : at.0 < n = omega (arith, at.1, long) in
    let is : 1 + at.0 ≡ q = sym (get_or-range_with_len 1 n at.0 q within) ∙ at.2 in
    (is_member-Decides Decides-eqb xs q).1 (all q (omega (arith, is)) (omega (arith, is, within)))

-- a list that has each number from 1 to n has at least n items
pub length-from_all : (n : ℕ) (xs : List ℕ) → ((q : ℕ) → 0 < q → q ≤ n → Contains xs q) → n ≤ length xs
length-from_all n xs all =
    omega (
      arith,
      length-range_with_len 1 n,
      length-le_from_is_member nat_eq_equiv (range_with_len 1 n) xs (IsDistinct-from_apart eqb (range_with_len 1 n) (numbers-apart n)) (contained n xs all),
    )

-- not all numbers that follow are taken
pub not-all_taken : (last : ℕ) (taken : List ℕ) → last < 1_048_576 → length taken + 1 < 1_048_576
    → ((k : ℕ) → k < 1_048_575 → Contains taken (following last k)) → ⊥
not-all_taken last taken within few all =
    let long : 1_048_575 ≤ length taken = length-from_all 1_048_575 taken (λ q some below.
    let k : ℕ = (q + 1_048_574 - last) % 1_048_575 in
    let is : following last k ≡ q = omega (arith, some, below, within) in
    subst (Contains taken) is (all k (omega arith))) in
    omega (arith, long, few)

-- the windows together
pub Contains-window : (last window : ℕ) (taken : List ℕ) → ((j : ℕ) → j < window * 1_025 → Contains taken (following last j))
    → ((j : ℕ) → j < 1_025 → Contains taken (following last (window * 1_025 + j))) → (k : ℕ) → k < (window + 1) * 1_025 → Contains taken (following last k)
Contains-window last window taken before full k below =
    elim (cases_lt k (window * 1_025)) [
      | inl h ↦ before k h
      | inr h ↦
          let e : window * 1_025 + (k - window * 1_025) ≡ k = omega arith in
          subst (λ j. Contains taken (following last j)) e (full (k - window * 1_025) (omega arith))
    ]

pub IsNextFree-window : (last window n : ℕ) (taken : List ℕ) → ((j : ℕ) → j < window * 1_025 → Contains taken (following last j))
    → (k : ℕ) × (n ≡ following last (window * 1_025 + k)) × (Contains taken n → ⊥) × ((j : ℕ) → j < k → Contains taken (following last (window * 1_025 + j)))
    → IsNextFree last taken n
IsNextFree-window last window n taken before found = (
  window * 1_025 + found.0,
  found.1,
  found.2,
  λ k below. elim (cases_lt k (window * 1_025)) [
    | inl h ↦ before k h
    | inr h ↦
        let e : window * 1_025 + (k - window * 1_025) ≡ k = omega arith in
        subst (λ j. Contains taken (following last j)) e (found.3 (k - window * 1_025) (omega arith))
  ],
)

-- one more number of a window
pub Contains-step : (last base step : ℕ) (taken : List ℕ) → ((j : ℕ) → j < step → Contains taken (following last (base + j)))
    → Contains taken (following last (base + step)) → (k : ℕ) → k < step + 1 → Contains taken (following last (base + k))
Contains-step last base step taken before now k below =
    elim (cases_lt k step) [
      | inl h ↦ before k h
      | inr h ↦
          let e : step ≡ k = omega arith in
          subst (λ j. Contains taken (following last (base + j))) e now
    ]
