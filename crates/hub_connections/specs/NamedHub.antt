-- The hub that a proof has named, and that of a server's terms.
use Rattle.std.specs.Prelude.{Option, Some, None}
use Rattle.one_history.specs.States.{Home}
use Rattle.hub_shared.specs.Callers.{HubState}
use Rattle.hub_connections.specs.declared.terms.Terms.{Terms}
use Rattle.hub_shared.specs.declared.hub_key.HubKey.{HubKey}

-- which one it is
abbrev pub home_in : {H : Type 0} → Option (HubState H) → Option (Home (HubKey H))
home_in None = None
home_in (Some hub) = Some hub.home

-- the hub of these terms
abbrev pub hub_in : {H C : Type 0} → Terms H C → HubState H
hub_in terms = record { home = terms.host.value.home; setup = terms.setup.value; hash = terms.hash.value }
