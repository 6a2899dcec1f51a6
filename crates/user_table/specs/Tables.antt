-- The users who are present, as a list in order of entry.
use Rattle.std.specs.Prelude.{ℕ, ◌==◌, not, Bool, true, false, List, [], ◌∷◌, length, map, filter, Option, Some, None, if◌then◌else◌}
use Rattle.std.specs.List.{sum_by, find}
use Rattle.std.specs.Option.{option_and_then, unwrap_or}
use Rattle.std.specs.Str.{bytes_eq}
use Rattle.inf_fields.specs.Amounts.{number_at}
use Rattle.inf_fields.specs.Field.{Field, value_of}
use Rattle.inf_fields.specs.FieldNames.{share_size_name, shared_files_name}
use Rattle.inf_fields.specs.Merging.{merged_with}
use Rattle.user_table.specs.declared.totals.Totals.{Totals}
use Rattle.user_table.specs.Listed.{Listed}

abbrev pub has_sid : ℕ → Listed → Bool
has_sid sid user = user.sid == sid

abbrev pub has_cid : List ℕ → Listed → Bool
has_cid cid user = bytes_eq user.cid cid

abbrev pub has_key : List ℕ → Listed → Bool
has_key key user = bytes_eq user.key key

abbrev pub user_by_sid : ℕ → List Listed → Option Listed
user_by_sid sid users = find (has_sid sid) users

abbrev pub user_by_cid : List ℕ → List Listed → Option Listed
user_by_cid cid users = find (has_cid cid) users

abbrev pub user_by_key : List ℕ → List Listed → Option Listed
user_by_key key users = find (has_key key) users

-- without the user with this session identifier
abbrev pub without_sid : ℕ → List Listed → List Listed
without_sid sid users = filter (λ user. not (has_sid sid user)) users

abbrev pub changed_key : Option (List ℕ) → List ℕ → List ℕ
changed_key None before = before
changed_key (Some key) before = key

-- a user after an update, with another key where one is given
abbrev pub updated_user : List Field → Option (List ℕ) → Listed → Listed
updated_user update key user = record { sid = user.sid; cid = user.cid; key = changed_key key user.key; fields = merged_with user.fields update }

abbrev pub updated_if : Bool → List Field → Option (List ℕ) → Listed → Listed
updated_if true update key user = updated_user update key user
updated_if false update key user = user

-- the user with this session identifier after an update, and the others as they are
abbrev pub with_update : ℕ → List Field → Option (List ℕ) → List Listed → List Listed
with_update sid update key users = map (λ user. updated_if (has_sid sid user) update key user) users

-- a number that a field gives; one that is missing, or is no number, counts 0
abbrev pub amount : List ℕ → List Field → ℕ
amount name fields = unwrap_or (option_and_then number_at (value_of name fields)) 0

abbrev pub totals_of : List Listed → Totals
totals_of users = record {
  users = length users;
  ss = sum_by (λ (user : Listed). amount share_size_name user.fields) users;
  sf = sum_by (λ (user : Listed). amount shared_files_name user.fields) users;
}
