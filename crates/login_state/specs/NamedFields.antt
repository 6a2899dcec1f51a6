-- The fields that a denial may name (ADC 1.0, "INF").
use Rattle.std.specs.Prelude.{ℕ, List, [], ◌∷◌}
use Rattle.inf_fields.specs.FieldNames.{id_name, nick_name, private_id_name, share_size_name, shared_files_name}
use Rattle.login_state.specs.declared.named_field.NamedField.{NamedField}
use Rattle.login_state.specs.declared.named_field.NamedField.TheVariants as fields

abbrev pub name_of : NamedField → List ℕ
name_of fields.Id = id_name
name_of fields.PrivateId = private_id_name
name_of fields.Nick = nick_name
name_of fields.ShareSize = share_size_name
name_of fields.SharedFiles = shared_files_name

-- the fields whose values are checked at a login and at an update, in their order
abbrev pub checked_fields : List NamedField
checked_fields = fields.ShareSize ∷ fields.SharedFiles ∷ []
