-- The value at a key of a kind; a key that is not there has its default.
use Rattle.std.specs.Prelude.{ℕ, ℤ, pos, nat_le, ◌==◌, ◌&&◌, Bool, false, List, codes, length, Option, Some, None, if◌then◌else◌}
use Rattle.std.specs.Option.{option_and_then}
use Rattle.std.specs.Str.{bytes_eq}
use Rattle.toml.specs.Data.{Data, as_str, as_bool, as_integer}
use Rattle.hub_settings.specs.declared.hash_name.HashName.{HashName}
use Rattle.hub_settings.specs.declared.hash_name.HashName.TheVariants.{Tiger, First24}
use Rattle.hub_settings.specs.Kinds.{SettingKind, Number, Truth, Text, SomeText, Hash, Address}

abbrev pub text_or : List ℕ → Option Data → Option (List ℕ)
text_or default None = Some default
text_or default (Some value) = as_str value

abbrev pub truth_of : Option Data → Option Bool
truth_of None = Some false
truth_of (Some value) = as_bool value

-- a number within these bounds
abbrev pub within : ℕ → ℕ → ℤ → Option ℕ
within low high (pos n) = if nat_le low n && nat_le n high then Some n else None
within low high number = None

abbrev pub number_or : ℕ → ℕ → ℕ → Option Data → Option ℕ
number_or low high default None = Some default
number_or low high default (Some value) = option_and_then (within low high) (as_integer value)

-- the number at a key of this kind
abbrev pub number_for : Option SettingKind → Option Data → Option ℕ
number_for (Some (Number low high default)) value = number_or low high default value
number_for kind value = None

abbrev pub truth_for : Option SettingKind → Option Data → Option Bool
truth_for (Some Truth) value = truth_of value
truth_for kind value = None

abbrev pub text_for : Option SettingKind → Option Data → Option (List ℕ)
text_for (Some (Text default)) value = text_or default value
text_for kind value = None

abbrev pub not_empty : List ℕ → Option (List ℕ)
not_empty text = if length text == 0 then None else Some text

abbrev pub some_text_for : Option SettingKind → Option Data → Option (List ℕ)
some_text_for (Some (SomeText default)) value = option_and_then not_empty (text_or default value)
some_text_for kind value = None

abbrev pub hash_called : List ℕ → Option HashName
hash_called name =
    if bytes_eq name (codes "tiger") then Some Tiger
    else if bytes_eq name (codes "first24") then Some First24
    else None

abbrev pub hash_for : Option SettingKind → Option Data → Option HashName
hash_for (Some (Hash default)) value = option_and_then hash_called (text_or default value)
hash_for kind value = None

-- the text at a key for an address
abbrev pub address_for : Option SettingKind → Option Data → Option (List ℕ)
address_for (Some (Address default)) value = text_or default value
address_for kind value = None
