-- The connections of one caller, by its calls. Histories are written newest first.
use Rattle.std.specs.Prelude.{ℕ, ◌&&◌, not, cond, Bool, List, [], ◌∷◌}
use Rattle.one_history.specs.Histories.{entries}
use Rattle.hub_rules.specs.declared.history.Call.{Call}
use Rattle.hub_rules.specs.declared.history.Call.TheVariants.{Join}
use Rattle.hub_rules.specs.declared.history.Entry.{Entry}
use Rattle.hub_invariants.specs.OpenConnections.{has_joined, has_quit, joins_as}

-- the entries of a history that one caller made
abbrev pub entries_of : ℕ → List Entry → List Entry
entries_of p h = entries (λ (e : Entry). e.caller) p h

-- the connection joined in these entries, and did not quit
abbrev pub has_stayed : ℕ → List Entry → Bool
has_stayed c mine = has_joined c mine && not (has_quit c mine)

abbrev pub challenge_of : Call → List ℕ
challenge_of (Join peer challenge now) = challenge
challenge_of call = []

-- the challenge that came with the join of the connection
abbrev pub challenge_in : ℕ → List Entry → List ℕ
challenge_in c [] = []
challenge_in c (e ∷ h) = cond (joins_as c e.reply) (challenge_of e.call) (challenge_in c h)
