-- Where a connection comes from.
use Rattle.std.specs.Prelude.{◌≡◌, ℕ, List, ◌∷◌}
use Rattle.hub_core.specs.Moves.{entry}
use Rattle.hub_rules.specs.declared.history.Call.TheVariants.{Join}
use Rattle.hub_rules.specs.declared.history.Entry.{Entry}
use Rattle.hub_rules.specs.declared.history.Reply.TheVariants.{Joined}
use Rattle.hub_shared.specs.Callers.{PassState}

-- the last call of this pass is the join by which it came, from this address and with this challenge
abbrev pub HasComeFrom : {H : Type 0} → PassState H → List ℕ → List ℕ → Type 0
HasComeFrom pass peer challenge =
    ∥ ((now : ℕ) × (earlier : List Entry) × (pass.caller.mine ≡ entry pass.caller.number (Join peer challenge now) (Joined pass.connection) ∷ earlier)) ∥₁
