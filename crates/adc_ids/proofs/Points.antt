-- A text's code points, looked at one by one.
use Rattle.std.proofs.Common.{◌≡◌, ◌≢◌, ◌∙◌, sym, ap, ap₂, refl, subst, ℕ, ◌+◌, ◌<◌, ◌≤◌, ◌&&◌, ◌∷◌, [], leb, Bool, true, false, ltb, List, length, get_or, arith, inl, inr}
use Rattle.std.specs.Bool.{Decides}
use Rattle.std.specs.List.{All, list_all}
use Rattle.std.proofs.lemmas.List.{get_or_default}
use Rattle.std.proofs.lemmas.Bool.{false≢true, cases_lt}
use Rattle.std.proofs.lemmas.Bool.Decides.{Decides-ltb, leb_tells}
use Rattle.std.proofs.lemmas.List.Elements.{All-head, All-tail, All-cons, All-nil}
use Rattle.adc_ids.specs.Nicks.{IsNick, is_nick}

pub Decides-low : (points : List ℕ) (n point : ℕ) → n < length points → point ≡ get_or points n point → point ≤ 32 → Decides false (IsNick points)
Decides-low points n point within is low =
    ((λ no. absurd (false≢true no)), (λ nick. let above : 32 < get_or points n point = nick.2 n point within in absurd (omega (arith, above, is, low))))

pub Decides-long : (points : List ℕ) (n : ℕ) → n < length points → n ≡ 64 → Decides false (IsNick points)
Decides-long points n within long =
    ((λ no. absurd (false≢true no)), (λ nick. absurd (omega (arith, nick.1, within, long))))

pub above-more : (points : List ℕ) (n point : ℕ) → n < length points → point ≡ get_or points n point → 32 < point
    → ((k d : ℕ) → k < n → 32 < get_or points k d) → (k d : ℕ) → k < n + 1 → 32 < get_or points k d
above-more points n point within is high before k d below =
    elim (cases_lt k n) [
      | inl h ↦ before k d h
      | inr h ↦
          let e : n ≡ k = omega arith in
          let f : get_or points n d ≡ get_or points n point = get_or_default points n d point within in
          subst (λ j. 32 < get_or points j d) e (omega (arith, f, is, high))
    ]

pub Decides-whole : (points : List ℕ) (n : ℕ) → length points ≡ n → n ≤ 64 → ((k d : ℕ) → k < n → 32 < get_or points k d) → Decides (ltb 0 n) (IsNick points)
Decides-whole points n long few above =
    let test = Decides-ltb 0 n in (
      (λ some. (omega (arith, test.0 some, long), omega (arith, long, few), λ k d within. above k d (omega (arith, within, long)))),
      (λ nick. test.1 (omega (arith, nick.0, long))),
    )

pub at-count : (points : List ℕ) (m n point : ℕ) → n ≡ m → m < length points → point ≡ get_or points m point → (n < length points) × (point ≡ get_or points n point)
at-count points m n point same within is =
    (omega (arith, same, within), is ∙ ap (λ k. get_or points k point) (sym same))

both : (a b : Bool) → (a && b) ≡ true → (a ≡ true) × (b ≡ true)
both true b e = (refl, e)
both false b e = absurd (false≢true e)

all-above : (points : List ℕ) → All (λ point. 32 < point) points → list_all (ltb 32) points ≡ true
all-above [] h = refl
all-above (point ∷ points) h =
    ap₂ ◌&&◌ ((Decides-ltb 32 point).1 (All-head (λ p. 32 < p) point points h)) (all-above points (All-tail (λ p. 32 < p) point points h))

above-all : (points : List ℕ) → list_all (ltb 32) points ≡ true → All (λ point. 32 < point) points
above-all [] e = All-nil (λ p. 32 < p)
above-all (point ∷ points) e =
    let tests = both (ltb 32 point) (list_all (ltb 32) points) e in
    All-cons (λ p. 32 < p) point points ((Decides-ltb 32 point).0 tests.0) (above-all points tests.1)

Decides-leb : (a b : ℕ) → Decides (leb a b) (a ≤ b)
Decides-leb a b =
    elim (leb_tells a b) [
      | inl h ↦ ((λ yes. h.1), (λ le. h.0))
      | inr h ↦ ((λ yes. absurd (false≢true (sym h.0 ∙ yes))), (λ le. absurd (omega (arith, h.1, le))))
    ]

-- the test tells what the rule says
pub is_nick-Decides : (points : List ℕ) → Decides (is_nick points) (IsNick points)
unfolding is_nick
is_nick-Decides points =
    let some = Decides-leb 1 (length points) in
    let few = Decides-leb (length points) 64 in (
      (λ yes.
          let tests = both (leb 1 (length points) && leb (length points) 64) (list_all (ltb 32) points) yes in
          let sizes = both (leb 1 (length points)) (leb (length points) 64) tests.0 in
          (some.0 sizes.0, few.0 sizes.1, above-all points tests.1)),
      (λ nick. ap₂ ◌&&◌ (ap₂ ◌&&◌ (some.1 nick.0) (few.1 nick.1)) (all-above points nick.2)),
    )

same_answer : {P : Type 0} → (a b : Bool) → Decides a P → Decides b P → a ≡ b
same_answer true b first second = sym (second.1 (first.0 refl))
same_answer false true first second = absurd (false≢true (first.1 (second.0 refl)))
same_answer false false first second = refl

pub is_nick-is : (points : List ℕ) (answer : Bool) → Decides answer (IsNick points) → answer ≡ is_nick points
is_nick-is points answer decides = same_answer answer (is_nick points) decides (is_nick-Decides points)
