-- The part of an update that a hub passes on (ADC 1.0, "INF"): not the private identifier, nor what the hub itself says of a client, nor what it cannot check.
use Rattle.std.specs.Prelude.{ℕ, Bool, ◌&&◌, ◌||◌, not, List, [], ◌∷◌, map, filter, if◌then◌else◌}
use Rattle.std.specs.List.{join_with_byte}
use Rattle.std.specs.Fmt.{decimal}
use Rattle.std.specs.Str.{bytes_eq}
use Rattle.inf_fields.specs.Field.{Field, field, is_called}
use Rattle.inf_fields.specs.FieldNames.{private_id_name, client_type_name, address_name, address6_name, port6_name}

-- four numbers in decimal, with dots between them
unfoldable pub dotted_decimal : List ℕ → List ℕ
dotted_decimal peer = join_with_byte 46 (map decimal peer)

-- PD, CT, I6 and U6
abbrev pub is_held_back : Field → Bool
is_held_back f = is_called private_id_name f || is_called client_type_name f || is_called address6_name f || is_called port6_name f

-- `0.0.0.0`, by which a client asks the hub to fill its address in
abbrev pub any_address : List ℕ
any_address = 48 ∷ 46 ∷ 48 ∷ 46 ∷ 48 ∷ 46 ∷ 48 ∷ []

abbrev pub asks_for_address : Field → Bool
asks_for_address f = is_called address_name f && bytes_eq any_address f.value

abbrev pub with_address : List ℕ → Field → Field
with_address peer f = if asks_for_address f then field f.name (dotted_decimal peer) else f

-- the fields of an update that may be passed on, where the client is at the address
unfoldable pub clean : List Field → List ℕ → List Field
clean fields peer = map (with_address peer) (filter (λ f. not (is_held_back f)) fields)
