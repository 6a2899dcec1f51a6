-- The things that a decision looks at: the hub, the connection that sent the line, and what was prepared of the line.
use Rattle.std.specs.Prelude.{ℕ, ◌&&◌, not, Bool, List, Option, is_some}
use Rattle.std.specs.List.{list_any}
use Rattle.inf_fields.specs.Field.{Field}
use Rattle.login_state.specs.declared.stage.Stage.{Stage}
use Rattle.operator_acts.specs.declared.ban.Ban.{Ban}
use Rattle.user_table.specs.Listed.{Listed}
use Rattle.user_table.specs.Tables.{has_sid, has_key}
use Rattle.hub_rules.specs.declared.sender.Sender.{Sender}
use Rattle.hub_rules.specs.Accounts.{account_with}
use Rattle.hub_rules.specs.Configured.{ConfiguredAccount, Configured}
use Rattle.hub_rules.specs.Identities.{listed_user}
use Rattle.inf_fields.specs.Cleaning.{clean}
use Rattle.inf_fields.specs.Merging.{merged_with}

-- the hub
pub record HubView : Type 0 where
  pub setup : Configured
  -- the users who are present, in order of entry
  pub users : List Listed
  pub bans : List (List ℕ × Ban)
  pub topic : List ℕ

-- the connection that sent the line
pub record SenderView : Type 0 where
  pub sender : Sender
  pub stage : Stage
  pub fields : List Field
  -- the digest that its password must give, while it waits for one
  pub expected : List ℕ

-- a line as it comes to the hub: its bytes, and the digests that were made of them beforehand
pub record PreparedLine : Type 0 where
  pub bytes : List ℕ
  -- of the private identifier of a login, where it has one
  pub owner : Option (List ℕ)
  -- of the password and the challenge, where the nick of a login is an account's
  pub password : Option (List ℕ)

abbrev pub account_of : HubView → List ℕ → Option ConfiguredAccount
account_of hub key = account_with key hub.setup.accounts

abbrev pub is_account : HubView → List ℕ → Bool
is_account hub key = is_some (account_of hub key)

-- a present user has this
abbrev pub is_here : (Listed → Bool) → HubView → Bool
is_here test hub = list_any test hub.users

-- another present user has this nick
abbrev pub another_has_key : HubView → ℕ → List ℕ → Bool
another_has_key hub sid key = list_any (λ (user : Listed). has_key key user && not (has_sid sid user)) hub.users

-- the user that an INF makes of a connection: what is known of it, merged with what may be passed on
abbrev pub user_after : SenderView → List Field → Listed
user_after own u = listed_user own.sender.sid (merged_with own.fields (clean u own.sender.peer))
