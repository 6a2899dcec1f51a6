-- Whoever enters hears of all who are present, in order of entry, and then of itself; and each of them hears of it, once.
use Rattle.std.specs.Prelude.{◌≡◌, ℕ, List, [], ◌∷◌, ◌++◌, map, if◌then◌else◌}
use Rattle.login_state.specs.declared.stage.Stage.TheVariants.{Normal}
use Rattle.login_state.specs.Mentions.{ucmd}
use Rattle.login_state.specs.Support.{has_feature}
use Rattle.hub_rules.specs.declared.history.Entry.{Entry}
use Rattle.hub_rules.specs.Configured.{Configured}
use Rattle.hub_rules.specs.Facts.{facts}
use Rattle.hub_rules.specs.History.{features, info, present, sid, stage}
use Rattle.hub_invariants.specs.Lag.{share}
use Rattle.hub_rules.specs.Texts.{menu_line, user_line}
use Rattle.hub_laws.specs.Registered.{account_at}

-- the line that says who a user is: what is known of it, and whether it has an account
abbrev pub info_line : Configured → (List ℕ → List ℕ) → List Entry → ℕ → List ℕ
info_line setup hash h c = user_line (sid setup hash h c) (info setup hash h c) (account_at setup hash h c)

-- where the entry e brings the user of connection c in, each user who is present is owed one line by it: who that is
abbrev pub EntriesAreHeard : Type 0
EntriesAreHeard =
    (setup : Configured) (hash : List ℕ → List ℕ) (h : List Entry) (e : Entry) (c d : ℕ) → (stage setup hash h c ≡ Normal → ⊥) → stage setup hash (e ∷ h) c ≡ Normal
    → stage setup hash h d ≡ Normal → share setup hash (facts setup hash h) d e.call ≡ info_line setup hash (e ∷ h) c ∷ []

-- and it is owed who they are, who it is itself, and the menu, where its client has one
abbrev pub EntrantsAreWelcomed : Type 0
EntrantsAreWelcomed =
    (setup : Configured) (hash : List ℕ → List ℕ) (h : List Entry) (e : Entry) (c : ℕ) → (stage setup hash h c ≡ Normal → ⊥) → stage setup hash (e ∷ h) c ≡ Normal
    → share setup hash (facts setup hash h) c e.call
    ≡ map (info_line setup hash h) (present setup hash h)
    ++ info_line setup hash (e ∷ h) c ∷ (if has_feature ucmd (features setup hash h c) then map menu_line setup.menu else [])
