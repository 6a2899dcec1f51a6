-- Lists of grounds are equal entry by entry.
use Rattle.std.proofs.Common.{◌≡◌, ap, ap₂, Bool, List, ◌∷◌}
use Rattle.login_state.specs.declared.deny.Deny.{Deny}

-- a ground by its test
pub by-test : {test other : Bool} (deny : Deny) → test ≡ other → ◌≡◌ {A = Bool × Deny} (test, deny) (other, deny)
by-test deny is = ap (λ (b : Bool). (b, deny)) is

pub before : {ground other : Bool × Deny} {grounds others : List (Bool × Deny)} → ground ≡ other → grounds ≡ others → (ground ∷ grounds) ≡ (other ∷ others)
before is more = ap₂ ◌∷◌ is more
