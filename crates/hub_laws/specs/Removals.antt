-- All who are present hear once of a user whom an operator shuts out, before they are owed any line of a later user with that nick.
use Rattle.std.specs.Prelude.{◌≡◌, ℕ, ◌≤◌, ◌==◌, true, false, List, [], ◌∷◌, ◌++◌, Option, Some, None, if◌then◌else◌}
use Rattle.login_state.specs.declared.stage.Stage.TheVariants.{Normal}
use Rattle.operator_acts.specs.declared.act.Act.{Act}
use Rattle.hub_rules.specs.declared.effect.Change.{Change}
use Rattle.hub_rules.specs.declared.effect.Change.TheVariants.{Hub}
use Rattle.hub_rules.specs.declared.effect.HubChange.TheVariants as shared
use Rattle.hub_rules.specs.declared.history.Entry.{Entry}
use Rattle.hub_rules.specs.Configured.{most_users, Configured}
use Rattle.hub_rules.specs.Facts.{facts}
use Rattle.hub_rules.specs.History.{info, lags, lines_owed, sid, stage}
use Rattle.hub_rules.specs.Identities.{key_in}
use Rattle.hub_invariants.specs.Lag.{share}
use Rattle.hub_invariants.specs.Afterwards.{is_removed}
use Rattle.hub_rules.specs.Texts.{done_line, removal_line}
use Rattle.hub_invariants.specs.World.{change_of}
use Rattle.hub_laws.specs.OperatorActs.{Asks, reason_of}

-- the entry is a kick or a ban of the user of connection c, who is present
pub record Removes (setup : Configured) (hash : List ℕ → List ℕ) (h : List Entry) (e : Entry) (c : ℕ) : Type 0 where
  pub present : stage setup hash h c ≡ Normal
  pub named : is_removed (change_of setup hash (facts setup hash h) e.call) (sid setup hash h c) ≡ true

-- for how many seconds, where it is a ban
abbrev pub seconds_of : Change → Option ℕ
seconds_of (Hub (shared.Ban banned)) = Some banned.ban.seconds
seconds_of change = None

-- the line that says it: who was shut out, by which operator, for how long and why
abbrev pub told_of_removal : Configured → (List ℕ → List ℕ) → List Entry → Entry → ℕ → ℕ → List ℕ → List ℕ
told_of_removal setup hash h e c operator reason =
    removal_line (sid setup hash h c) (sid setup hash h operator) (seconds_of (change_of setup hash (facts setup hash h) e.call)) reason

-- it is a line of the operator's connection that asks for an act. Each user who is present, the one that is shut out too, is owed this line, once,
-- with the reason that the act gives, and nothing else, but the operator, who is told then that it is done
abbrev pub RemovalsAreHeard : Type 0
RemovalsAreHeard =
    (setup : Configured) (hash : List ℕ → List ℕ) (h : List Entry) (e : Entry) (c : ℕ) → Removes setup hash h e c
    → (operator : ℕ) × (asked : Act) × Asks e.call operator asked
    × ((d : ℕ) → stage setup hash h d ≡ Normal
    → share setup hash (facts setup hash h) d e.call ≡ told_of_removal setup hash h e c operator (reason_of asked) ∷ (if d == operator then done_line ∷ [] else []))

-- who does not lag is owed it right behind all that it was owed before, and before whatever later entries add
abbrev pub RemovalsComeFirst : Type 0
RemovalsComeFirst =
    (setup : Configured) (hash : List ℕ → List ℕ) (later earlier : List Entry) (e : Entry) (c d : ℕ) → Removes setup hash earlier e c
    → stage setup hash earlier d ≡ Normal → lags setup hash (e ∷ earlier) d ≡ false
    → (operator : ℕ) × (asked : Act) × (rest : List (List ℕ)) × Asks e.call operator asked
    × (lines_owed setup hash (later ++ e ∷ earlier) d
    ≡ lines_owed setup hash earlier d ++ (told_of_removal setup hash earlier e c operator (reason_of asked) ∷ (if d == operator then done_line ∷ [] else [])) ++ rest)

-- the identifier that a kick or a ban names is that of a user who is present: whoever is out is not shut out again
abbrev pub OnlyUsersAreRemoved : Type 0
OnlyUsersAreRemoved =
    (setup : Configured) (hash : List ℕ → List ℕ) (h : List Entry) (e : Entry) (named : ℕ)
    → is_removed (change_of setup hash (facts setup hash h) e.call) named ≡ true → (c : ℕ) × Removes setup hash h e c × (sid setup hash h c ≡ named)

-- the user of connection n is present under the nick with this normal form C
abbrev pub HasNick : Configured → (List ℕ → List ℕ) → List Entry → ℕ → List ℕ → Type 0
HasNick setup hash h n key = (stage setup hash h n ≡ Normal) × (key_in (info setup hash h n) ≡ key)

-- after h, one of these later entries gave it that nick
pub record TakesNick (setup : Configured) (hash : List ℕ → List ℕ) (later h : List Entry) (n : ℕ) (key : List ℕ) : Type 0 where
  pub after : List Entry
  pub entry : Entry
  pub between : List Entry
  pub splits : later ≡ after ++ entry ∷ between
  pub before : HasNick setup hash (between ++ h) n key → ⊥
  pub takes : HasNick setup hash (entry ∷ between ++ h) n key

-- whoever is present under that nick afterwards took it later: nobody has it when the user is shut out
abbrev pub NamesakesComeLater : Type 0
NamesakesComeLater =
    (setup : Configured) (hash : List ℕ → List ℕ) (later earlier : List Entry) (e : Entry) (c n : ℕ) → setup.plain.max_users ≤ most_users → Removes setup hash earlier e c
    → HasNick setup hash (later ++ e ∷ earlier) n (key_in (info setup hash earlier c))
    → TakesNick setup hash later (e ∷ earlier) n (key_in (info setup hash earlier c))
