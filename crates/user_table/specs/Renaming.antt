-- Users of whom one takes another key.
use Rattle.std.specs.Prelude.{ℕ, Bool, true, false, List, map}
use Rattle.user_table.specs.Listed.{Listed}
use Rattle.user_table.specs.Tables.{has_sid}

-- a user with another key
abbrev pub with_other_key : List ℕ → Listed → Listed
with_other_key key user = record { sid = user.sid; cid = user.cid; key = key; fields = user.fields }

abbrev pub renamed_if : Bool → List ℕ → Listed → Listed
renamed_if true key user = with_other_key key user
renamed_if false key user = user

-- the user with this session identifier under another key, and the others as they are
abbrev pub with_key : ℕ → List ℕ → List Listed → List Listed
with_key sid key users = map (λ user. renamed_if (has_sid sid user) key user) users
