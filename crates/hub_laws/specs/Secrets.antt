-- Others hear no private identifier of a user, nothing that a hub alone may say, and no address but the one that the hub sees.
use Rattle.std.specs.Prelude.{◌≡◌, ◌⊎◌, ℕ, true, false, List, [], ◌∷◌, if◌then◌else◌}
use Rattle.std.specs.List.{AllByRecursion}
use Rattle.inf_fields.specs.Cleaning.{dotted_decimal, is_held_back}
use Rattle.inf_fields.specs.Field.{Field, is_called}
use Rattle.inf_fields.specs.FieldNames.{address_name}
use Rattle.login_state.specs.declared.stage.Stage.TheVariants.{Normal}
use Rattle.hub_rules.specs.declared.history.Call.{Call}
use Rattle.hub_rules.specs.declared.history.Call.TheVariants.{Line}
use Rattle.hub_rules.specs.declared.history.Entry.{Entry}
use Rattle.hub_rules.specs.Configured.{Configured}
use Rattle.hub_rules.specs.Effects.{is_present, line_unless_empty}
use Rattle.hub_rules.specs.Facts.{facts}
use Rattle.hub_rules.specs.History.{about, info, sid, stage}
use Rattle.hub_invariants.specs.Lag.{share}
use Rattle.hub_invariants.specs.Said.{inf_update, said_in}

-- a field that others may know of a user whose client is at this address: it is none of PD, CT, I6 and U6, and an I4 is the address
abbrev pub IsPublic : List ℕ → Field → Type 0
IsPublic peer f = (is_held_back f ≡ false) × (is_called address_name f ≡ true → f.value ≡ dotted_decimal peer)

-- all that is known of a user is so; lines that say who is present are made of that alone
abbrev pub InfoIsPublic : Type 0
InfoIsPublic = (setup : Configured) (hash : List ℕ → List ℕ) (h : List Entry) (c : ℕ) → AllByRecursion (IsPublic (about setup hash h c).sender.peer) (info setup hash h c)

-- a field of an update may be passed on: an I4 in it is the address too, or empty, which takes it away
abbrev pub IsPassed : List ℕ → Field → Type 0
IsPassed peer f = (is_held_back f ≡ false) × (is_called address_name f ≡ true → (f.value ≡ []) ⊎ (f.value ≡ dotted_decimal peer))

-- all fields of what an accepted INF says are so
abbrev pub UpdatesArePassed : Type 0
UpdatesArePassed =
    (setup : Configured) (hash : List ℕ → List ℕ) (h : List Entry) (c : ℕ) (call : Call) (u : List Field)
    → said_in inf_update setup hash (facts setup hash h) c call ≡ u ∷ [] → AllByRecursion (IsPassed (about setup hash h c).sender.peer) u

-- where a user who is present sends one, all who are present are owed the line that says these fields, where there are any, and nobody anything else
abbrev pub UpdatesAreHeard : Type 0
UpdatesAreHeard =
    (setup : Configured) (hash : List ℕ → List ℕ) (h : List Entry) (c d : ℕ) (bytes : List ℕ) (now : ℕ) (u : List Field) → stage setup hash h c ≡ Normal
    → said_in inf_update setup hash (facts setup hash h) c (Line c bytes now) ≡ u ∷ []
    → share setup hash (facts setup hash h) d (Line c bytes now) ≡ (if is_present (stage setup hash h d) then line_unless_empty (sid setup hash h c) u else [])
