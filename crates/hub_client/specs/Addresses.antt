-- The address of a hub: HOST:PORT, with `adc://` before it or not, and with a slash behind it or not.
use Rattle.std.specs.Prelude.{◌≡◌, ◌≢◌, ℕ, ◌≤◌, ◌⊎◌, List, [], ◌∷◌, ◌++◌, codes, EachIndex, slice_index}
use Rattle.std.specs.Fmt.{decimal}
use Rattle.std.specs.Str.Parse.{IsNumeral, digits_value, without_leading_plus}
use Rattle.hub_client.specs.declared.address.AddressFault.{AddressFault}
use Rattle.hub_client.specs.declared.address.AddressFault.TheVariants.{Tls, Ipv6, NoPort, Port, NoHost}
use Rattle.hub_client.specs.declared.address.HubAddress.{HubAddress}

-- what is seen of an address
abbrev pub address_host : HubAddress → List ℕ
address_host address = address.host.now

abbrev pub address_port : HubAddress → ℕ
address_port address = address.port

-- the address as it is written
abbrev pub address_text : HubAddress → List ℕ
address_text address = address.host.now ++ 58 ∷ decimal address.port

abbrev pub colon : ℕ
colon = 58

abbrev pub HasNoColon : List ℕ → Type 0
HasNoColon bytes = EachIndex bytes (λ k. slice_index bytes k ≢ colon)

-- the rest of a text behind this front; the whole text where it begins otherwise
abbrev pub IsRestBehind : List ℕ → List ℕ → List ℕ → Type 0
IsRestBehind front text rest = (text ≡ front ++ rest) ⊎ (((more : List ℕ) → text ≢ front ++ more) × (rest ≡ text))

-- the rest of a text before this end; the whole text where it ends otherwise
abbrev pub IsBefore : List ℕ → List ℕ → List ℕ → Type 0
IsBefore end text rest = (text ≡ rest ++ end) ⊎ (((more : List ℕ) → text ≢ more ++ end) × (rest ≡ text))

-- the text without what may stand around it
abbrev pub IsBare : List ℕ → List ℕ → Type 0
IsBare text bare = (rest : List ℕ) × IsRestBehind (codes "adc://") text rest × IsBefore (codes "/") rest bare

-- one colon, with this before it and that behind it
abbrev pub IsSplit : List ℕ → List ℕ → List ℕ → Type 0
IsSplit bare host digits = (bare ≡ host ++ colon ∷ digits) × HasNoColon host × HasNoColon digits

-- decimal digits, also behind a plus, of a number from 1 to 65,535
abbrev pub IsPort : List ℕ → ℕ → Type 0
IsPort digits port =
    IsNumeral 10 (without_leading_plus digits) × (port ≡ digits_value 10 (without_leading_plus digits)) × (1 ≤ port) × (port ≤ 65_535)

-- ADC over TLS
abbrev pub IsTls : List ℕ → Type 0
IsTls text = (rest : List ℕ) × (text ≡ codes "adcs://" ++ rest)

-- a bare text is a host, a colon and a port
abbrev pub IsHostAndPort : List ℕ → List ℕ → ℕ → Type 0
IsHostAndPort bare host port = (digits : List ℕ) × IsSplit bare host digits × (host ≢ []) × IsPort digits port

-- nothing stands behind the only colon, or there is none
abbrev pub LacksPort : List ℕ → Type 0
LacksPort bare = HasNoColon bare ⊎ ((host : List ℕ) × IsSplit bare host [])

-- there is more than one colon
abbrev pub HasTwoColons : List ℕ → Type 0
HasTwoColons bare = (a : List ℕ) × (b : List ℕ) × (c : List ℕ) × (bare ≡ a ++ colon ∷ (b ++ colon ∷ c))

-- something stands behind the only colon, and it is no port
abbrev pub HasBadPort : List ℕ → Type 0
HasBadPort bare = (host : List ℕ) × (digits : List ℕ) × IsSplit bare host digits × (digits ≢ []) × ((port : ℕ) → IsPort digits port → ⊥)

-- a port, and nothing before the colon
abbrev pub LacksHost : List ℕ → Type 0
LacksHost bare = (digits : List ℕ) × (port : ℕ) × IsSplit bare [] digits × IsPort digits port

-- why a bare text is not cut at a colon
abbrev pub IsUnsplit : List ℕ → AddressFault → Type 0
IsUnsplit bare NoPort = LacksPort bare
IsUnsplit bare Ipv6 = HasTwoColons bare
IsUnsplit bare Tls = ⊥
IsUnsplit bare Port = ⊥
IsUnsplit bare NoHost = ⊥

-- the text has this address
abbrev pub IsAddress : List ℕ → HubAddress → Type 0
IsAddress text address = (IsTls text → ⊥) × ((bare : List ℕ) × IsBare text bare × IsHostAndPort bare (address_host address) (address_port address))

-- the text has none, for this reason
abbrev pub IsNoAddress : List ℕ → AddressFault → Type 0
IsNoAddress text Tls = IsTls text
IsNoAddress text Ipv6 = (IsTls text → ⊥) × ((bare : List ℕ) × IsBare text bare × HasTwoColons bare)
IsNoAddress text NoPort = (IsTls text → ⊥) × ((bare : List ℕ) × IsBare text bare × LacksPort bare)
IsNoAddress text Port = (IsTls text → ⊥) × ((bare : List ℕ) × IsBare text bare × HasBadPort bare)
IsNoAddress text NoHost = (IsTls text → ⊥) × ((bare : List ℕ) × IsBare text bare × LacksHost bare)
