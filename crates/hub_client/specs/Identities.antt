-- The identity of a client.
use Rattle.std.specs.Prelude.{◌≡◌, ℕ, List}
use Rattle.hub_client.specs.declared.login.ClientIdentity.{ClientIdentity}

-- the client identifier is the hash of the private one, which is given
abbrev pub IsHashed : (List ℕ → List ℕ) → List ℕ → ClientIdentity → Type 0
IsHashed hash given identity = (identity.private ≡ given) × (identity.cid ≡ hash given)
