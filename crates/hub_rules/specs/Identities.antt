-- The identity of a user, by its fields (ADC 1.0, "INF").
use Rattle.std.specs.Prelude.{ℕ, List, [], chars, encode_utf8_all}
use Rattle.std.specs.Option.{unwrap_or}
use Rattle.unicode_normalization.specs.Forms.{nfc}
use Rattle.adc_base32.specs.Spelled.{spelled_bytes}
use Rattle.adc_line.specs.Escapes.{unescaped_text}
use Rattle.inf_fields.specs.Field.{Field, value_of}
use Rattle.inf_fields.specs.FieldNames.{id_name, nick_name, support_name}
use Rattle.user_table.specs.Listed.{Listed}

-- the value of a field, and the empty text where there is none
abbrev pub value_or_empty : List ℕ → List Field → List ℕ
value_or_empty name fields = unwrap_or (value_of name fields) []

-- what a word means
abbrev pub meaning : List ℕ → List ℕ
meaning word = unwrap_or (unescaped_text word) []

-- by its key a nick is compared with others: its normal form C
abbrev pub key_of_points : List ℕ → List ℕ
key_of_points points = encode_utf8_all (nfc points)

abbrev pub key_of : List ℕ → List ℕ
key_of nick = key_of_points (chars nick)

abbrev pub nick_in : List Field → List ℕ
nick_in fields = meaning (value_or_empty nick_name fields)

abbrev pub key_in : List Field → List ℕ
key_in fields = key_of (nick_in fields)

-- the client's identifier, 24 bytes
abbrev pub cid_in : List Field → List ℕ
cid_in fields = unwrap_or (spelled_bytes 24 (value_or_empty id_name fields)) []

-- the features that other clients may count on
abbrev pub su_in : List Field → List ℕ
su_in fields = value_or_empty support_name fields

-- a user as the table of present users lists it
unfoldable pub listed_user : ℕ → List Field → Listed
listed_user sid fields = record { sid = sid; cid = cid_in fields; key = key_in fields; fields = fields }
