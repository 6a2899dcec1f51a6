-- The first ground of a list, by its parts.
use Rattle.std.proofs.Common.{◌≡◌, ◌∙◌, sym, ap, ℕ, Ok, Err, Result, refl, Bool, true, false, List, [], ◌∷◌, ◌++◌, Some, None, is_some}
use Rattle.std.proofs.lemmas.Bool.{false≢true}
use Rattle.login_state.specs.declared.deny.Deny.{Deny}
use Rattle.hub_rules.specs.Grounds.{first_ground}
use Rattle.hub_decisions.specs.Admissions.{MayEnter}

-- where none of the first holds, the others decide
pub past-grounds : (grounds others : List (Bool × Deny)) → first_ground grounds ≡ None → first_ground (grounds ++ others) ≡ first_ground others
past-grounds [] others none = refl
past-grounds ((true, deny) ∷ grounds) others none = absurd (false≢true (sym (ap is_some none)))
past-grounds ((false, deny) ∷ grounds) others none = past-grounds grounds others none

pub among-first : (grounds others : List (Bool × Deny)) (deny : Deny) → first_ground grounds ≡ Some deny → first_ground (grounds ++ others) ≡ Some deny
among-first [] others deny is = absurd (false≢true (ap is_some is))
among-first ((true, other) ∷ grounds) others deny is = is
among-first ((false, other) ∷ grounds) others deny is = among-first grounds others deny is

pub holds-not : (grounds others : List (Bool × Deny)) (deny : Deny) → first_ground (grounds ++ (true, deny) ∷ others) ≡ None → ⊥
holds-not [] others deny none = false≢true (sym (ap is_some none))
holds-not ((true, other) ∷ grounds) others deny none = false≢true (sym (ap is_some none))
holds-not ((false, other) ∷ grounds) others deny none = holds-not grounds others deny none

-- who may enter by the others may enter, where none of the first holds
pub may-past : (answer : Result (List ℕ) Deny) (cid : List ℕ) (grounds others : List (Bool × Deny)) → first_ground grounds ≡ None → MayEnter answer cid others
    → MayEnter answer cid (grounds ++ others)
may-past (Ok found) cid grounds others none may = (may.0, past-grounds grounds others none ∙ may.1)
may-past (Err deny) cid grounds others none denied = past-grounds grounds others none ∙ denied
