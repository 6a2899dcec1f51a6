-- The answers to a login: who may enter, or why not.
use Rattle.std.specs.Prelude.{◌≡◌, ℕ, List, [], MatchResult, Bool, Option, Result, Some, None}
use Rattle.std.specs.Option.{unwrap_or}
use Rattle.adc_base32.specs.Spelled.{spelled_bytes}
use Rattle.inf_fields.specs.Field.{Field}
use Rattle.inf_fields.specs.FieldNames.{id_name}
use Rattle.login_state.specs.declared.deny.Deny.{Deny}
use Rattle.user_table.specs.Listed.{Listed}
use Rattle.hub_rules.specs.declared.effect.Entrant.{Entrant}
use Rattle.hub_rules.specs.Effects.{entrant}
use Rattle.hub_rules.specs.Grounds.{first_ground}
use Rattle.hub_rules.specs.Identities.{value_or_empty}

-- the identifier that a login gives, if it gives one
abbrev pub cid_of : List Field → List ℕ
cid_of u = unwrap_or (spelled_bytes 24 (value_or_empty id_name u)) []

-- this identifier, where none of the grounds holds, and else the denial
abbrev pub MayEnter : Result (List ℕ) Deny → List ℕ → List (Bool × Deny) → Type 0
MayEnter answer cid grounds = MatchResult answer (λ found. (cid ≡ found) × (first_ground grounds ≡ None)) (λ deny. first_ground grounds ≡ Some deny)

-- this user, where nothing denies its login, and else the denial
abbrev pub IsAdmission : Result Entrant Deny → Option Deny → Listed → Type 0
IsAdmission answer denied user = MatchResult answer (λ made. (denied ≡ None) × (made ≡ entrant user)) (λ deny. denied ≡ Some deny)
