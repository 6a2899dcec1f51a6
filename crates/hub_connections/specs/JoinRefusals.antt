-- Why a connection that came could not join.
use Rattle.std.specs.Prelude.{◌≡◌, ◌⊎◌, ⊤, ℕ, List, ◌∷◌}
use Rattle.hub_core.specs.Moves.{entry}
use Rattle.hub_rules.specs.declared.history.Call.TheVariants.{Join}
use Rattle.hub_rules.specs.declared.history.Entry.{Entry}
use Rattle.hub_rules.specs.declared.history.Reply.{Reply}
use Rattle.hub_rules.specs.declared.history.Reply.TheVariants.{Full, JoinsSpent}
use Rattle.hub_connections.specs.declared.refusal.Refusal.{Refusal}
use Rattle.hub_connections.specs.declared.refusal.Refusal.TheVariants as refusals
use Rattle.hub_shared.specs.Callers.{VisitorState}

-- the last call of this visitor is a join from this address, with this challenge, which the hub refused since it has no place
abbrev pub WasRefused : {H : Type 0} → List ℕ → List ℕ → VisitorState H → Type 0
WasRefused peer challenge visitor =
    (now : ℕ) × (reply : Reply) × (earlier : List Entry) × ((reply ≡ Full) ⊎ (reply ≡ JoinsSpent))
    × (visitor.caller.mine ≡ entry visitor.caller.number (Join peer challenge now) reply ∷ earlier)

-- this is why a server refuses the connection from this address with this challenge: it has no slot, or the hub has no place
abbrev pub IsRefusal : {H : Type 0} → List ℕ → List ℕ → Refusal H → Type 0
IsRefusal peer challenge (refusals.NoSlot word) = ⊤
IsRefusal peer challenge (refusals.HubFull visitor) = WasRefused peer challenge visitor.value
