-- Seats stand in the order in which their connections joined.
use Rattle.std.specs.Prelude.{ℕ, ◌<◌, ◌≤◌, List, [], ◌∷◌, map}
use Rattle.hub_core.specs.declared.seat.Seat.{Seat}

abbrev pub numbers : List Seat → List ℕ
numbers seats = map (λ (seat : Seat). seat.number) seats

-- all of them are above n
unfoldable pub Above : ℕ → List ℕ → Type 0
Above n [] = Unit {0}
Above n (m ∷ ms) = (n < m) × Above n ms

-- each is above those before it
unfoldable pub Rising : List ℕ → Type 0
Rising [] = Unit {0}
Rising (n ∷ ns) = Above n ns × Rising ns

-- none is above the last
unfoldable pub UpTo : ℕ → List ℕ → Type 0
UpTo last [] = Unit {0}
UpTo last (n ∷ ns) = (n ≤ last) × UpTo last ns

-- the seats of a hub that has admitted so many
abbrev pub Ordered : ℕ → List Seat → Type 0
Ordered joins seats = Rising (numbers seats) × UpTo joins (numbers seats)
