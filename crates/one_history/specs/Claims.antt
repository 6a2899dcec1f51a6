-- The callers that a view stands for.
use Rattle.std.specs.Prelude.{◌≡◌, ℕ, ◌≤◌, ◌<◌, ◌==◌, cond, List, [], ◌∷◌}
use Rattle.one_history.specs.Histories.{entries}
use Rattle.one_history.specs.declared.view.SeatClaim.{SeatClaim}

module _ {E : Type 0} where
  abbrev pub claim : ℕ → List E → List E → SeatClaim E
  claim p mine since = record { number = p; mine = mine; since = since }

  -- 1 where the claim is of caller p
  abbrev pub is_of : ℕ → SeatClaim E → ℕ
  is_of p c = cond (c.number == p) 1 0

  -- the claims, once the seat that had them is joined to another: each remembers what that seat had seen
  abbrev pub stamped : List E → List (SeatClaim E) → List (SeatClaim E)
  stamped seen [] = []
  stamped seen (c ∷ cs) = claim c.number c.mine seen ∷ stamped seen cs

  -- the claims after an entry of the one caller that they are of
  abbrev pub added : E → List (SeatClaim E) → List (SeatClaim E)
  added e [] = []
  added e (c ∷ cs) = claim c.number (e ∷ c.mine) c.since ∷ cs

  -- the first caller of a pair, and the others
  abbrev pub first_claim : List (SeatClaim E) → List (SeatClaim E)
  first_claim [] = []
  first_claim (c ∷ cs) = c ∷ []

  abbrev pub other_claims : List (SeatClaim E) → List (SeatClaim E)
  other_claims [] = []
  other_claims (c ∷ cs) = cs

  -- the caller's entries in this history are its `mine`
  abbrev pub Agrees : (E → ℕ) → List E → SeatClaim E → Type 0
  Agrees by h c = entries by c.number h ≡ c.mine

  -- an entry's caller was admitted
  abbrev pub IsKnown : (E → ℕ) → ℕ → E → Type 0
  IsKnown by count e = (0 < by e) × (by e ≤ count)
