-- Beginnings of histories, and the entries of one caller in them.
use Rattle.std.proofs.Common.{◌≡◌, ℕ, ◌<◌, ◌≤◌, ◌≢◌, ◌⊎◌, List, [], ◌∷◌, ◌++◌, length, sym, refl, ap, ◌∙◌, subst, inl, inr, arith, cond, Bool, true, false, eqb, eq-eqb, ne_eqb, append-nil, append_assoc, length-append, lt_of_not-le}
use Rattle.std.proofs.lemmas.Bool.{lt-ltb, le-ltb}
use Rattle.std.proofs.lemmas.List.Elements.{All-head, All-tail}
use Rattle.std.specs.List.{All}
use mathlib.Core.Logic.{dite}
use native.Mathlib.Decide.{dec_le}
use Rattle.one_history.specs.Histories.{Begins, entries, longer}
use Rattle.one_history.specs.Claims.{IsKnown}

module _ {E : Type 0} where
  pub begins_refl : (h : List E) → Begins h h
  begins_refl h = ([], refl)

  pub begins_nil : (h : List E) → Begins h []
  begins_nil h = (h, sym (append-nil h))

  pub begins_cons : (e : E) (h s : List E) → Begins h s → Begins (e ∷ h) s
  begins_cons e h s b = (e ∷ b.0, ap (λ t. e ∷ t) b.1)

  -- the empty history begins with no entry
  pub begins_none : (e : E) (s : List E) → Begins [] (e ∷ s) → ⊥
  begins_none e s ([], is) = let two : [] ≡ e ∷ s = is in cc
  begins_none e s (d ∷ b, is) = let two : [] ≡ d ∷ (b ++ e ∷ s) = is in cc

  -- what a history with one more entry begins with is all of it, or the history before begins with it
  pub begins_last : (d e : E) (h s : List E) → Begins (d ∷ h) (e ∷ s) → (d ∷ h ≡ e ∷ s) ⊎ Begins h (e ∷ s)
  begins_last d e h s ([], is) = inl is
  begins_last d e h s (c ∷ b, is) = inr (b, (let tails : h ≡ b ++ e ∷ s = cc in tails))

  pub begins_trans : (h s t : List E) → Begins h s → Begins s t → Begins h t
  begins_trans h s t b c = (b.0 ++ c.0, b.1 ∙ (ap (λ u. b.0 ++ u) c.1 ∙ sym (append_assoc b.0 c.0 t)))

  -- of two beginnings of one history, the one that is no longer begins the other
  cut : (x y s t : List E) → x ++ s ≡ y ++ t → length s ≤ length t → Begins t s
  cut x [] s t e le = (x, sym e)
  cut [] (b ∷ y) s t e le = absurd (omega (arith, ap length e, length-append y t))
  cut (a ∷ x) (b ∷ y) s t e le = let tails : x ++ s ≡ y ++ t = cc in cut x y s t tails le

  pub begins_shorter : (h s t : List E) → Begins h s → Begins h t → length s ≤ length t → Begins t s
  begins_shorter h s t b c le = cut b.0 c.0 s t (sym b.1 ∙ c.1) le

  pub longer_elim : (F : List E → Type 0) (s t : List E) → (length t ≤ length s → F s) → (length s < length t → F t) → F (longer s t)
  longer_elim F s t keep swap =
      dite (dec_le (length t) (length s))
      (λ le. subst (λ b. F (cond b t s)) (sym (le-ltb (length s) (length t) le)) (keep le))
      (λ n. let lt : length s < length t = lt_of_not-le n in subst (λ b. F (cond b t s)) (sym (lt-ltb (length s) (length t) lt)) (swap lt))

  pub longer_begins : (h s t : List E) → Begins h s → Begins h t → Begins h (longer s t)
  longer_begins h s t b c = longer_elim (Begins h) s t (λ _. b) (λ _. c)

  pub longer_left : (h s t : List E) → Begins h s → Begins h t → Begins (longer s t) s
  longer_left h s t b c = longer_elim (λ m. Begins m s) s t (λ _. begins_refl s) (λ lt. begins_shorter h s t b c (omega arith))

  pub longer_right : (h s t : List E) → Begins h s → Begins h t → Begins (longer s t) t
  longer_right h s t b c = longer_elim (λ m. Begins m t) s t (λ le. begins_shorter h t s c b le) (λ _. begins_refl t)

  empty : (l : List E) → length l ≡ 0 → l ≡ []
  empty [] e = refl
  empty (x ∷ xs) e = absurd (omega arith)

  tested : (b : Bool) (e : E) (x y z : List E) → z ≡ x ++ y → cond b (e ∷ z) z ≡ cond b (e ∷ x) x ++ y
  tested true e x y z q = ap (λ t. e ∷ t) q
  tested false e x y z q = q

  module _ (by : E → ℕ) where
    pub entries-append : (p : ℕ) (x y : List E) → entries by p (x ++ y) ≡ entries by p x ++ entries by p y
    entries-append p [] y = refl
    entries-append p (e ∷ x) y = tested (eqb (by e) p) e (entries by p x) (entries by p y) (entries by p (x ++ y)) (entries-append p x y)

    pub entries-own : (p : ℕ) (e : E) (h : List E) → by e ≡ p → entries by p (e ∷ h) ≡ e ∷ entries by p h
    entries-own p e h same = ap (λ b. cond b (e ∷ entries by p h) (entries by p h)) (eq-eqb (by e) p same)

    pub entries-other : (p : ℕ) (e : E) (h : List E) → by e ≢ p → entries by p (e ∷ h) ≡ entries by p h
    entries-other p e h other = ap (λ b. cond b (e ∷ entries by p h) (entries by p h)) (ne_eqb (by e) p other)

    -- no caller beyond the count, nor caller 0, has entries
    pub entries-unknown : (count p : ℕ) (h : List E) → (p ≡ 0) ⊎ (count < p) → All (IsKnown by count) h → entries by p h ≡ []
    entries-unknown count p [] out all = refl
    entries-unknown count p (e ∷ h) out all =
        let known = All-head (IsKnown by count) e h all in
        let other : by e ≢ p = λ same. omega arith in
        entries-other p e h other ∙ entries-unknown count p h out (All-tail (IsKnown by count) e h all)

    -- a history between two in which a caller's entries are the same
    pub entries-between : (p : ℕ) (h m s mine : List E) → Begins h m → Begins m s → entries by p h ≡ mine → entries by p s ≡ mine → entries by p m ≡ mine
    entries-between p h m s mine b c whole own =
        let ex : List E = entries by p b.0 in
        let ey : List E = entries by p c.0 in
        let in_m : entries by p m ≡ ey ++ mine = ap (entries by p) c.1 ∙ (entries-append p c.0 s ∙ ap (λ t. ey ++ t) own) in
        let in_h : mine ≡ ex ++ (ey ++ mine) = sym whole ∙ (ap (entries by p) b.1 ∙ (entries-append p b.0 m ∙ ap (λ t. ex ++ t) in_m)) in
        let none : length ey ≡ 0 = omega (arith, ap length in_h, length-append ex (ey ++ mine), length-append ey mine) in
        in_m ∙ ap (λ t. t ++ mine) (empty ey none)
