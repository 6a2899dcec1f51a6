-- The names of fields (ADC 1.0, "Message syntax"), and those that a hub asks for (ADC 1.0, "INF").
use Rattle.std.specs.Prelude.{ℕ, ◌==◌, ◌&&◌, Bool, List, codes, length, slice_index}
use Rattle.adc_line.specs.Header.{is_letter, is_letter_or_digit}

-- a letter, and a letter or a digit
abbrev pub is_field_name : List ℕ → Bool
is_field_name name = length name == 2 && is_letter (slice_index name 0) && is_letter_or_digit (slice_index name 1)

-- ID: the client's identifier
abbrev pub id_name : List ℕ
id_name = codes "ID"

-- PD: the private identifier, which is for the hub alone
abbrev pub private_id_name : List ℕ
private_id_name = codes "PD"

-- NI: the nick
abbrev pub nick_name : List ℕ
nick_name = codes "NI"

-- SS: how many bytes are shared
abbrev pub share_size_name : List ℕ
share_size_name = codes "SS"

-- SF: how many files are shared
abbrev pub shared_files_name : List ℕ
shared_files_name = codes "SF"

-- I4: the address in version 4 of the internet protocol
abbrev pub address_name : List ℕ
address_name = codes "I4"

-- I6: the address in version 6
abbrev pub address6_name : List ℕ
address6_name = codes "I6"

-- U6: the UDP port at the address in version 6
abbrev pub port6_name : List ℕ
port6_name = codes "U6"

-- CT: the kind of client, which a hub alone may say
abbrev pub client_type_name : List ℕ
client_type_name = codes "CT"

-- SU: the features that other clients may count on
abbrev pub support_name : List ℕ
support_name = codes "SU"
