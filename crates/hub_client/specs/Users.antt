-- A user, by the parameters of a message of the type INF (ADC 1.0, "INF").
use Rattle.std.specs.Prelude.{◌≡◌, ◌⊎◌, ℕ, ◌<◌, ◌^◌, List, ◌∷◌, ◌++◌, codes, Option, Some, None}
use Rattle.std.specs.List.{All}
use Rattle.std.specs.Str.Parse.{IsNumeral, digits_value, without_leading_plus}
use Rattle.std.specs.String.{string_bytes}
use Rattle.adc_line.specs.Escapes.{unescaped_text}
use Rattle.hub_client.specs.Fields.{IsField, IsFieldText, IsMisspelt, spelt_text}
use Rattle.hub_client.specs.Roles.{role_of}
use Rattle.hub_client.specs.declared.role.Role.{Role}
use Rattle.hub_client.specs.declared.user.HubUser.{HubUser}
use Rattle.hub_client.specs.declared.user.Who.{Who}
use Rattle.adc_line.specs.Lines.{Reading}

-- decimal digits of a number of 32 bits
abbrev pub IsSmallNumber : List ℕ → Type 0
IsSmallNumber digits = IsNumeral 10 (without_leading_plus digits) × (digits_value 10 (without_leading_plus digits) < 2 ^ 32)

-- the bits of a client type: 0 if none are there, or none that are a number
abbrev pub AreBits : Option (List ℕ) → ℕ → Type 0
AreBits None bits = bits ≡ 0
AreBits (Some digits) bits = (IsSmallNumber digits → bits ≡ digits_value 10 (without_leading_plus digits)) × ((IsSmallNumber digits → ⊥) → bits ≡ 0)

abbrev pub IsRole : List (List ℕ) → Role → Type 0
IsRole params role = (value : Option (List ℕ)) × (bits : ℕ) × IsField (codes "CT") params value × AreBits value bits × (role ≡ role_of bits)

-- the address of IPv4 if there is one, and else of IPv6
abbrev pub IsAddressBeside : List (List ℕ) → Option (List ℕ) → List ℕ → Type 0
IsAddressBeside params (Some value) text = unescaped_text value ≡ Some text
IsAddressBeside params None text = IsFieldText (codes "I6") params text

abbrev pub IsUserAddress : List (List ℕ) → List ℕ → Type 0
IsUserAddress params text = (value : Option (List ℕ)) × IsField (codes "I4") params value × IsAddressBeside params value text

-- the value from which the address is taken spells no text
abbrev pub IsMisspeltAddress : List (List ℕ) → Type 0
IsMisspeltAddress params = IsMisspelt (codes "I4") params ⊎ (IsField (codes "I4") params None × IsMisspelt (codes "I6") params)

pub record IsUserMessage (params : List (List ℕ)) (user : HubUser) : Type 0 where
  pub nick : IsFieldText (codes "NI") params (string_bytes user.nick)
  pub cid : IsFieldText (codes "ID") params (string_bytes user.cid)
  pub role : IsRole params user.role
  pub address : IsUserAddress params (string_bytes user.address)
  pub share : IsFieldText (codes "SS") params (string_bytes user.share)
  pub description : IsFieldText (codes "DE") params (string_bytes user.description)

-- a field of the user spells no text
abbrev pub IsNoUser : List (List ℕ) → Type 0
IsNoUser params =
    IsMisspelt (codes "NI") params ⊎ IsMisspelt (codes "ID") params ⊎ IsMisspeltAddress params ⊎ IsMisspelt (codes "SS") params
    ⊎ IsMisspelt (codes "DE") params

-- a message does not have this field, or tells of another user
abbrev pub IsSilentOn : List ℕ → ℕ → Reading → Type 0
IsSilentOn name sid line = line.from ≡ Some sid → IsField name line.params None

-- the value of a field in the last message of a user that has it, if one has it
abbrev pub IsLastField : List ℕ → ℕ → List Reading → Option (List ℕ) → Type 0
IsLastField name sid lines None = All (IsSilentOn name sid) lines
IsLastField name sid lines (Some value) =
    (front : List Reading) × (line : Reading) × (behind : List Reading) × (lines ≡ front ++ line ∷ behind) × (line.from ≡ Some sid)
    × IsField name line.params (Some value) × All (IsSilentOn name sid) behind

-- the text of that field; empty where no message has it
abbrev pub IsSaidLast : List ℕ → ℕ → List Reading → List ℕ → Type 0
IsSaidLast name sid lines text = (value : Option (List ℕ)) × IsLastField name sid lines value × (spelt_text value ≡ Some text)

-- the value that a message had last spells no text
abbrev pub IsMisspeltLast : List ℕ → ℕ → List Reading → Type 0
IsMisspeltLast name sid lines = (value : Option (List ℕ)) × IsLastField name sid lines value × (spelt_text value ≡ None)

-- what messages tell last of the user with this session identifier
pub record IsTold (lines : List Reading) (sid : ℕ) (who : Who) : Type 0 where
  pub nick : IsSaidLast (codes "NI") sid lines (string_bytes who.nick)
  pub cid : IsSaidLast (codes "ID") sid lines (string_bytes who.cid)

-- the nick or the identifier that they tell last spells no text
abbrev pub IsUntold : List Reading → ℕ → Type 0
IsUntold lines sid = IsMisspeltLast (codes "NI") sid lines ⊎ IsMisspeltLast (codes "ID") sid lines
