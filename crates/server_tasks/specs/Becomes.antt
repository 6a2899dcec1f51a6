-- What becomes of each element of a list.
use Rattle.std.specs.Prelude.{◌≡◌, ◌≢◌, ℕ, List, Some, length, slice_get}

-- each element is this of what it was
abbrev pub EachBecomes : {A : Type 0} → (A → A) → List A → List A → Type 0
EachBecomes f old new = (length new ≡ length old) × ((place : ℕ) (was : _) → slice_get old place ≡ Some was → slice_get new place ≡ Some (f was))

-- the element of this place, if there is one, is this of what it was, and the others are as they were
abbrev pub OneBecomes : {A : Type 0} → (A → A) → ℕ → List A → List A → Type 0
OneBecomes f place old new =
    (length new ≡ length old)
    × ((was : _) → slice_get old place ≡ Some was → slice_get new place ≡ Some (f was))
    × ((other : ℕ) → other ≢ place → slice_get new other ≡ slice_get old other)
