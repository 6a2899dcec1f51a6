-- Where in a list a user stands.
use Rattle.std.specs.Prelude.{ℕ, ◌+◌, Bool, List, [], ◌∷◌, Option, Some, None, if◌then◌else◌}
use Rattle.user_table.specs.Listed.{Listed}

-- the place of the first user who passes a test, where places are counted from a number
unfoldable pub place_from : (Listed → Bool) → ℕ → List Listed → Option ℕ
place_from test start [] = None
place_from test start (user ∷ users) = if test user then Some start else place_from test (start + 1) users
