-- The words for what a history says of the hub and of a connection.
use Rattle.std.specs.Prelude.{ℕ, Bool, List, length, map}
use Rattle.inf_fields.specs.Field.{Field}
use Rattle.login_state.specs.declared.stage.Stage.{Stage}
use Rattle.operator_acts.specs.Bans.{left_of_bans}
use Rattle.operator_acts.specs.declared.left.Left.{Left}
use Rattle.user_table.specs.declared.totals.Totals.{Totals}
use Rattle.user_table.specs.Tables.{totals_of}
use Rattle.hub_rules.specs.declared.history.Entry.{Entry}
use Rattle.hub_rules.specs.Configured.{Configured}
use Rattle.hub_rules.specs.Facts.{facts, user_of}
use Rattle.hub_rules.specs.Shares.{ConnState, waiting}

abbrev pub about : Configured → (List ℕ → List ℕ) → List Entry → ℕ → ConnState
about setup hash h c = (facts setup hash h).about c

-- how far a connection has come
abbrev pub stage : Configured → (List ℕ → List ℕ) → List Entry → ℕ → Stage
stage setup hash h c = (about setup hash h c).stage

-- what its client supports
abbrev pub features : Configured → (List ℕ → List ℕ) → List Entry → ℕ → List (List ℕ)
features setup hash h c = (about setup hash h c).sender.features

-- what is known of its user
abbrev pub info : Configured → (List ℕ → List ℕ) → List Entry → ℕ → List Field
info setup hash h c = (about setup hash h c).fields

-- its session identifier
abbrev pub sid : Configured → (List ℕ → List ℕ) → List Entry → ℕ → ℕ
sid setup hash h c = (about setup hash h c).sender.sid

-- every line that it was owed
abbrev pub lines_owed : Configured → (List ℕ → List ℕ) → List Entry → ℕ → List (List ℕ)
lines_owed setup hash h c = (about setup hash h c).owed

-- how many of them it took
abbrev pub count_taken : Configured → (List ℕ → List ℕ) → List Entry → ℕ → ℕ
count_taken setup hash h c = (about setup hash h c).taken

-- whether a share did not fit
abbrev pub lags : Configured → (List ℕ → List ℕ) → List Entry → ℕ → Bool
lags setup hash h c = (about setup hash h c).lags

-- the connections that joined and did not quit, oldest first
abbrev pub open_connections : Configured → (List ℕ → List ℕ) → List Entry → List ℕ
open_connections setup hash h = (facts setup hash h).opened

-- the connections whose users are present, in order of entry
abbrev pub present : Configured → (List ℕ → List ℕ) → List Entry → List ℕ
present setup hash h = (facts setup hash h).present

-- what is left of the ban on a client identifier at a moment
abbrev pub ban : Configured → (List ℕ → List ℕ) → List Entry → List ℕ → ℕ → Left
ban setup hash h cid now = left_of_bans (facts setup hash h).bans cid now

abbrev pub topic : Configured → (List ℕ → List ℕ) → List Entry → List ℕ
topic setup hash h = (facts setup hash h).topic

-- how many users are present, and what they share
abbrev pub totals : Configured → (List ℕ → List ℕ) → List Entry → Totals
totals setup hash h = totals_of (map (user_of (facts setup hash h).about) (present setup hash h))

-- what one look at a connection shows
pub record View : Type 0 where
  pub stage : Stage
  pub present : ℕ
  pub waiting : ℕ

abbrev pub view : Configured → (List ℕ → List ℕ) → List Entry → ℕ → View
view setup hash h c = record {
  stage = stage setup hash h c;
  present = length (present setup hash h);
  waiting = length (waiting (about setup hash h c));
}
