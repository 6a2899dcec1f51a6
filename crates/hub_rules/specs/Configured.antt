-- The setup of a hub, as contracts see it.
use Rattle.std.specs.Prelude.{ℕ, Bool, false, List, [], Option}
use Rattle.hub_rules.specs.declared.plain_options.PlainOptions.{PlainOptions}

-- how many connections a hub may admit at once
abbrev pub most_users : ℕ
most_users = 900

-- a registered user
pub record ConfiguredAccount : Type 0 where
  -- the nick in Unicode's normal form C, by which nicks are compared
  pub key : List ℕ
  pub password : List ℕ
  pub operator : Bool

-- an entry for the clients' menus (ADC-EXT, "UCMD")
pub record ConfiguredEntry : Type 0 where
  pub name : List ℕ
  pub context : ℕ
  -- what the client sends; a line between entries has none
  pub text : Option (List ℕ)

pub record Configured : Type 0 where
  pub name : List ℕ
  pub topic : List ℕ
  pub accounts : List ConfiguredAccount
  pub menu : List ConfiguredEntry
  -- what is neither a text nor a list
  pub plain : PlainOptions

-- for so many users, with nothing that settings may add, opened at moment 0
abbrev pub plain_for : ℕ → PlainOptions
plain_for users = record { registered_only = false; search_interval = 0; max_users = users; opening = 0 }

-- the hub of this name with nothing that settings may add, for 512 users
abbrev pub plain_hub : List ℕ → Configured
plain_hub name = record { name = name; topic = []; accounts = []; menu = []; plain = plain_for 512 }
