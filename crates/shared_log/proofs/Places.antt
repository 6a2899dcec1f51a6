-- What stands at a place of a list, and what stands elsewhere.
use Rattle.std.proofs.Common.{◌≡◌, ℕ, zero, suc, ◌<◌, List, [], ◌∷◌, length, get_or, set, map, refl, ap, sym, ◌∙◌, arith, true, Bool}
use Rattle.std.specs.Prelude.{Some, slice_get, Result, Ok, Err, OnOk, OnErr}
use Rattle.std.specs.List.{All, remove}
use Rattle.std.proofs.lemmas.List.Elements.{All-cons, All-head, All-tail}
use Rattle.std.specs.Vec.{with_items}
use Rattle.std.specs.declared.vec.Vec.{Vec}
use Rattle.std.proofs.lemmas.List.{with_items_is}
use Rattle.shared_log.specs.Tables.{at_place}

-- what follows whether a call ended well or not
pub then-ok : {A E P Q : Type 0} (r : Result A E) → OnOk r P → (P → Q) → OnOk r Q
then-ok (Ok x) holds follows = follows holds
then-ok (Err e) holds follows = tt

pub either-way : {A E P Q G : Type 0} (r : Result A E) → OnOk r P → OnErr r Q → (P → G) → (Q → G) → G
either-way (Ok x) ok err well ill = well ok
either-way (Err e) ok err well ill = ill err

module _ {X : Type 0} where
  pub set-at : (f : X → X) (i : ℕ) (xs : List X) (x : X) → x ≡ get_or xs i x → i < length xs → set xs i (f x) ≡ at_place i f xs
  set-at f i [] x is h = refl
  set-at f zero (y ∷ ys) x is h = ap (λ z. f z ∷ ys) is
  set-at f (suc i) (y ∷ ys) x is h = ap (λ zs. y ∷ zs) (set-at f i ys x is (omega arith))

  pub length-at : (f : X → X) (i : ℕ) (xs : List X) → length (at_place i f xs) ≡ length xs
  length-at f i [] = refl
  length-at f zero (y ∷ ys) = refl
  length-at f (suc i) (y ∷ ys) = ap suc (length-at f i ys)

  pub All-at : (P : X → Type 0) (f : X → X) (i : ℕ) (xs : List X) → ((x : X) → P x → P (f x)) → All P xs → All P (at_place i f xs)
  All-at P f i [] keeps all = all
  All-at P f zero (y ∷ ys) keeps all = All-cons P (f y) ys (keeps y (All-head P y ys all)) (All-tail P y ys all)
  All-at P f (suc i) (y ∷ ys) keeps all = All-cons P y (at_place i f ys) (All-head P y ys all) (All-at P f i ys keeps (All-tail P y ys all))

-- the items of a `Vec` of which one was changed behind a reference
pub with-at : {X Z : Type 0} (v : Vec X Z) (f : X → X) (i : ℕ) (xs ws : List X) → ws ≡ at_place i f xs → xs ≡ v.items → length xs ≡ v.len → (with_items v ws).items ≡ at_place i f v.items
with-at v f i xs ws is items len =
    with_items_is v ws (omega (arith, ap length is, length-at f i xs, len)) ∙ is ∙ ap (at_place i f) items

module _ {X Y : Type 0} where
  -- a change that is seen as another
  pub map-at : (f : X → Y) (g : X → X) (h : Y → Y) (i : ℕ) (xs : List X) → ((x : X) → slice_get xs i ≡ Some x → f (g x) ≡ h (f x)) → map f (at_place i g xs) ≡ at_place i h (map f xs)
  map-at f g h i [] same = refl
  map-at f g h zero (x ∷ xs) same = ap (λ y. y ∷ map f xs) (same x refl)
  map-at f g h (suc i) (x ∷ xs) same = ap (λ ys. f x ∷ ys) (map-at f g h i xs same)

  -- a change that is not seen
  pub map-at-same : (f : X → Y) (g : X → X) (i : ℕ) (xs : List X) → ((x : X) → slice_get xs i ≡ Some x → f (g x) ≡ f x) → map f (at_place i g xs) ≡ map f xs
  map-at-same f g i [] same = refl
  map-at-same f g zero (x ∷ xs) same = ap (λ y. y ∷ map f xs) (same x refl)
  map-at-same f g (suc i) (x ∷ xs) same = ap (λ ys. f x ∷ ys) (map-at-same f g i xs same)

  pub map-set-same : (f : X → Y) (i : ℕ) (xs : List X) (d y : X) → f y ≡ f (get_or xs i d) → map f (set xs i y) ≡ map f xs
  map-set-same f i [] d y same = refl
  map-set-same f zero (z ∷ zs) d y same = ap (λ w. w ∷ map f zs) same
  map-set-same f (suc i) (z ∷ zs) d y same = ap (λ ws. f z ∷ ws) (map-set-same f i zs d y same)

  pub map-set-at : (f : X → Y) (i : ℕ) (xs : List X) (y : X) (z : Y) → f y ≡ z → map f (set xs i y) ≡ at_place i (λ _. z) (map f xs)
  map-set-at f i [] y z is = refl
  map-set-at f zero (x ∷ xs) y z is = ap (λ w. w ∷ map f xs) is
  map-set-at f (suc i) (x ∷ xs) y z is = ap (λ ws. f x ∷ ws) (map-set-at f i xs y z is)

  -- two ways to see a list's elements, of each of which this holds
  pub map-agree : (P : X → Type 0) (f g : X → Y) (xs : List X) → ((x : X) → P x → f x ≡ g x) → All P xs → map f xs ≡ map g xs
  map-agree P f g [] same all = refl
  map-agree P f g (x ∷ xs) same all =
      ap (λ y. y ∷ map f xs) (same x (All-head P x xs all)) ∙ ap (λ ys. g x ∷ ys) (map-agree P f g xs same (All-tail P x xs all))

pub true-at : (i : ℕ) (xs : List Bool) → i < length xs → slice_get (at_place i (λ _. true) xs) i ≡ Some true
true-at i [] h = absurd (omega arith)
true-at zero (x ∷ xs) h = refl
true-at (suc i) (x ∷ xs) h = true-at i xs (omega arith)

module _ {X Y : Type 0} where
  pub map-remove : (f : X → Y) (i : ℕ) (xs : List X) → map f (remove xs i) ≡ remove (map f xs) i
  map-remove f zero [] = refl
  map-remove f (suc i) [] = refl
  map-remove f zero (x ∷ xs) = refl
  map-remove f (suc i) (x ∷ xs) = ap (λ ys. f x ∷ ys) (map-remove f i xs)

  -- what stands at a place, seen
  pub read-map : (f : X → Y) (i : ℕ) (xs : List X) (x : X) (d : Y) → x ≡ get_or xs i x → i < length xs → get_or (map f xs) i d ≡ f x
  read-map f i [] x d is h = absurd (omega arith)
  read-map f zero (y ∷ ys) x d is h = ap f (sym is)
  read-map f (suc i) (y ∷ ys) x d is h = read-map f i ys x d is (omega arith)

module _ {X : Type 0} where
  pub All-removed : (P : X → Type 0) (i : ℕ) (xs : List X) → All P xs → All P (remove xs i)
  All-removed P zero [] all = all
  All-removed P (suc i) [] all = all
  All-removed P zero (x ∷ xs) all = All-tail P x xs all
  All-removed P (suc i) (x ∷ xs) all = All-cons P x (remove xs i) (All-head P x xs all) (All-removed P i xs (All-tail P x xs all))
