-- A user as the list of those who are present has it.
use Rattle.std.specs.Prelude.{ℕ, List}
use Rattle.inf_fields.specs.Field.{Field}

pub record Listed : Type 0 where
  pub sid : ℕ
  -- the client identifier, 24 bytes
  pub cid : List ℕ
  -- the nick in Unicode's normal form C, by which nicks are compared
  pub key : List ℕ
  pub fields : List Field
