-- Bans hold: nobody enters while its client identifier has one; and nobody but an operator changes bans, the topic or the stage of another connection.
use Rattle.std.specs.Prelude.{◌≡◌, ℕ, ◌+◌, ◌==◌, ◌&&◌, Bool, false, List, ◌∷◌}
use Rattle.login_state.specs.declared.stage.Stage.TheVariants.{Normal}
use Rattle.operator_acts.specs.declared.left.Left.TheVariants.{Free}
use Rattle.hub_rules.specs.declared.history.Call.{Call}
use Rattle.hub_rules.specs.declared.history.Call.TheVariants as calls
use Rattle.hub_rules.specs.declared.history.Entry.{Entry}
use Rattle.hub_rules.specs.Accounts.{operates}
use Rattle.hub_rules.specs.Configured.{Configured}
use Rattle.hub_rules.specs.Effects.{is_present}
use Rattle.hub_rules.specs.Facts.{facts}
use Rattle.hub_rules.specs.History.{ban, info, stage, topic}
use Rattle.hub_rules.specs.Identities.{cid_in}
use Rattle.hub_laws.specs.Registered.{account_at}

-- a user comes to be present by a line of its own connection, at a moment at which its client identifier has no ban
abbrev pub NobodyBannedEnters : Type 0
NobodyBannedEnters =
    (setup : Configured) (hash : List ℕ → List ℕ) (h : List Entry) (e : Entry) (c : ℕ) → (stage setup hash h c ≡ Normal → ⊥) → stage setup hash (e ∷ h) c ≡ Normal
    → (bytes : List ℕ) × (now : ℕ) × (e.call ≡ calls.Line c bytes now) × (ban setup hash h (cid_in (info setup hash (e ∷ h) c)) now ≡ Free)

-- the call is a line of an operator: of a user who is present, and whose nick is that of an operator's account
abbrev pub is_of_operator : Configured → (List ℕ → List ℕ) → List Entry → Call → Bool
is_of_operator setup hash h (calls.Line c bytes now) = is_present (stage setup hash h c) && operates (account_at setup hash h c)
is_of_operator setup hash h call = false

-- the call is this connection's own: its join, its line or its quit
abbrev pub is_own : ℕ → ℕ → Call → Bool
is_own joins d (calls.Join peer challenge now) = d == (joins + 1)
is_own joins d (calls.Line c bytes now) = d == c
is_own joins d (calls.Quit c) = d == c
is_own joins d (calls.Take c count) = false

-- what no operator's line is changes no ban
abbrev pub OnlyOperatorsBan : Type 0
OnlyOperatorsBan =
    (setup : Configured) (hash : List ℕ → List ℕ) (h : List Entry) (e : Entry) (cid : List ℕ) (now : ℕ) → is_of_operator setup hash h e.call ≡ false
    → ban setup hash (e ∷ h) cid now ≡ ban setup hash h cid now

-- nor the topic
abbrev pub OnlyOperatorsSetTopics : Type 0
OnlyOperatorsSetTopics =
    (setup : Configured) (hash : List ℕ → List ℕ) (h : List Entry) (e : Entry) → is_of_operator setup hash h e.call ≡ false → topic setup hash (e ∷ h) ≡ topic setup hash h

-- nor the stage of any connection but its own
abbrev pub OnlyOperatorsShutOut : Type 0
OnlyOperatorsShutOut =
    (setup : Configured) (hash : List ℕ → List ℕ) (h : List Entry) (e : Entry) (d : ℕ) → is_of_operator setup hash h e.call ≡ false
    → is_own (facts setup hash h).joins d e.call ≡ false → stage setup hash (e ∷ h) d ≡ stage setup hash h d
