-- Users whose session identifiers, keys or client identifiers differ, after an entry, an exit and an update.
use Rattle.std.proofs.Common.{◌≡◌, Bool, false, List, [], ◌∷◌, ◌++◌, map, filter, sym, ap, ◌∙◌, inl, inr, true≢false}
use Rattle.std.specs.Bool.{Decides}
use Rattle.std.specs.List.{IsDistinct, AllByRecursion}
use Rattle.std.proofs.lemmas.Bool.{cases_Bool, cond-true, cond-false}
use Rattle.user_table.specs.Listed.{Listed}
use Rattle.user_table.proofs.PlaceLemmas.{Nobody, AreApart}

-- a comparison by which keys are told apart
abbrev pub Tells : {K : Type 0} → (K → K → Bool) → Type 0
Tells {K} same = (a b : K) → Decides (same a b) (a ≡ b)

pub differ-flip : {K : Type 0} (same : K → K → Bool) → Tells same → (a b : K) → same a b ≡ false → same b a ≡ false
differ-flip same tells a b no' =
    elim (cases_Bool (same b a)) [
      | inl yes' ↦ absurd (true≢false (sym ((tells a b).1 (sym ((tells b a).0 yes'))) ∙ no'))
      | inr no'' ↦ no''
    ]

-- nobody has the key that all differ from
pub all-nobody : {K : Type 0} (same : K → K → Bool) (tells : Tells same) (f : Listed → K) (x y : K) (users : List Listed)
    → x ≡ y → AllByRecursion (λ z. same x z ≡ false) (map f users) → Nobody (λ user. same (f user) y) users
all-nobody same tells f x y [] e a = tt
all-nobody same tells f x y (user ∷ users) e a =
    (ap (same (f user)) (sym e) ∙ differ-flip same tells x (f user) a.0, all-nobody same tells f x y users e a.1)

pub nobody-all : {K : Type 0} (same : K → K → Bool) (tells : Tells same) (f : Listed → K) (x : K) (users : List Listed)
    → Nobody (λ user. same (f user) x) users → AllByRecursion (λ z. same x z ≡ false) (map f users)
nobody-all same tells f x [] n = tt
nobody-all same tells f x (user ∷ users) n = (differ-flip same tells (f user) x n.0, nobody-all same tells f x users n.1)

pub apart-by : {K : Type 0} (same : K → K → Bool) (tells : Tells same) (f : Listed → K) (x : K) (users : List Listed)
    → IsDistinct same (map f users) → AreApart (λ user. same (f user) x) users
unfolding IsDistinct AreApart
apart-by same tells f x [] d = tt
apart-by same tells f x (user ∷ users) d =
    ((λ yes'. all-nobody same tells f (f user) x users ((tells (f user) x).0 yes') d.0), apart-by same tells f x users d.1)

all-append : {K : Type 0} (test : K → Bool) (f : Listed → K) (users : List Listed) (last : Listed)
    → AllByRecursion (λ z. test z ≡ false) (map f users) → test (f last) ≡ false → AllByRecursion (λ z. test z ≡ false) (map f (users ++ last ∷ []))
all-append test f [] last a e = (e, tt)
all-append test f (user ∷ users) last a e = (a.0, all-append test f users last a.1 e)

pub distinct-append : {K : Type 0} (same : K → K → Bool) (f : Listed → K) (users : List Listed) (last : Listed)
    → IsDistinct same (map f users) → Nobody (λ user. same (f user) (f last)) users → IsDistinct same (map f (users ++ last ∷ []))
unfolding IsDistinct
distinct-append same f [] last d n = (tt, tt)
distinct-append same f (user ∷ users) last d n = (all-append (same (f user)) f users last d.0 n.0, distinct-append same f users last d.1 n.1)

all-filter : {K : Type 0} (test : K → Bool) (f : Listed → K) (kept : Listed → Bool) (users : List Listed)
    → AllByRecursion (λ z. test z ≡ false) (map f users) → AllByRecursion (λ z. test z ≡ false) (map f (filter kept users))
all-filter test f kept [] a = tt
all-filter test f kept (user ∷ users) a =
    elim (cases_Bool (kept user)) [
      | inl yes' ↦ rw (cond-true (kept user) (user ∷ filter kept users) (filter kept users) yes') (a.0, all-filter test f kept users a.1)
      | inr no' ↦ rw (cond-false (kept user) (user ∷ filter kept users) (filter kept users) no') (all-filter test f kept users a.1)
    ]

pub distinct-filter : {K : Type 0} (same : K → K → Bool) (f : Listed → K) (kept : Listed → Bool) (users : List Listed)
    → IsDistinct same (map f users) → IsDistinct same (map f (filter kept users))
unfolding IsDistinct
distinct-filter same f kept [] d = tt
distinct-filter same f kept (user ∷ users) d =
    elim (cases_Bool (kept user)) [
      | inl yes' ↦ rw (cond-true (kept user) (user ∷ filter kept users) (filter kept users) yes') (all-filter (same (f user)) f kept users d.0, distinct-filter same f kept users d.1)
      | inr no' ↦ rw (cond-false (kept user) (user ∷ filter kept users) (filter kept users) no') (distinct-filter same f kept users d.1)
    ]
