-- At most 1,024 lines and 1 MiB wait for a connection, no more connections are open than the hub admits, at most 1,024 CIDs are banned, and users are well formed.
use Rattle.std.specs.Prelude.{◌≡◌, ℕ, ◌≤◌, true, List, chars, drop, length}
use Rattle.std.specs.List.{sum_by}
use Rattle.adc_ids.specs.Nicks.{IsNick}
use Rattle.login_state.specs.declared.stage.Stage.TheVariants.{Normal}
use Rattle.login_state.specs.Mentions as mentions
use Rattle.login_state.specs.Support.{has_feature}
use Rattle.hub_rules.specs.declared.history.Entry.{Entry}
use Rattle.hub_rules.specs.Configured.{Configured}
use Rattle.hub_rules.specs.History.{count_taken, features, info, lines_owed, stage}
use Rattle.hub_rules.specs.Identities.{nick_in}

-- the lines that a connection was owed and did not take yet
abbrev pub waiting_lines : Configured → (List ℕ → List ℕ) → List Entry → ℕ → List (List ℕ)
waiting_lines setup hash h c = drop (count_taken setup hash h c) (lines_owed setup hash h c)

-- they are few, and have few bytes together
abbrev pub FewLinesWait : Type 0
FewLinesWait =
    (setup : Configured) (hash : List ℕ → List ℕ) (h : List Entry) (c : ℕ) → (length (waiting_lines setup hash h c) ≤ 1_024)
    × (sum_by length (waiting_lines setup hash h c) ≤ 1_048_576)

-- a user has a nick, the features of the protocol and of its hash, and at most 40 fields
pub record IsWellFormed (setup : Configured) (hash : List ℕ → List ℕ) (h : List Entry) (c : ℕ) : Type 0 where
  pub nick : IsNick (chars (nick_in (info setup hash h c)))
  pub base : has_feature mentions.base (features setup hash h c) ≡ true
  pub tigr : has_feature mentions.tigr (features setup hash h c) ≡ true
  pub few : length (info setup hash h c) ≤ 40

-- whoever is present is so
abbrev pub UsersAreWellFormed : Type 0
UsersAreWellFormed =
    (setup : Configured) (hash : List ℕ → List ℕ) (h : List Entry) (c : ℕ) → stage setup hash h c ≡ Normal → IsWellFormed setup hash h c
