-- A user is found where one is there.
use Rattle.std.proofs.Common.{◌≡◌, ◌∙◌, refl, ap, Bool, true, false, ◌||◌, List, [], ◌∷◌, Option, Some, None, Bor}
use Rattle.std.specs.Prelude.{is_some, if◌then◌else◌}
use Rattle.std.specs.List.{list_any, find}
use Rattle.std.specs.Option.{option_copied}
use Rattle.user_table.specs.Listed.{Listed}

found-first : (here any : Bool) (user : Listed) (rest : Option Listed) → is_some rest ≡ any → is_some (if here then Some user else rest) ≡ (here || any)
found-first true any user rest same = refl
found-first false any user rest same = same

pub found_any : (test : Listed → Bool) (users : List Listed) → is_some (find test users) ≡ list_any test users
found_any test [] = refl
found_any test (user ∷ users) = found-first (test user) (list_any test users) user (find test users) (found_any test users)

is_some-copied : (found : Option (Bor Listed)) → is_some found ≡ is_some (option_copied found)
is_some-copied None = refl
is_some-copied (Some user) = refl

-- the same of an answer that borrows the user
pub found-borrowed : (test : Listed → Bool) (users : List Listed) (found : Option (Bor Listed)) → option_copied found ≡ find test users
    → is_some found ≡ list_any test users
found-borrowed test users found is = is_some-copied found ∙ ap is_some is ∙ found_any test users
