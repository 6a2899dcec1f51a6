-- A refusal is told to its sender alone, by one status; others hear only that the user left, where it is fatal; where it is not, nothing else changes.
use Rattle.std.specs.Prelude.{◌≡◌, ℕ, ◌&&◌, true, false, List, [], ◌∷◌, Option, None, if◌then◌else◌}
use Rattle.adc_line.specs.Lines.{Reading}
use Rattle.login_state.specs.declared.deny.Deny.{Deny}
use Rattle.login_state.specs.declared.stage.Stage.TheVariants.{Gone}
use Rattle.login_state.specs.Denials.{denial_line, is_fatal}
use Rattle.outboxes.specs.Quits.{quit_line}
use Rattle.hub_rules.specs.declared.history.Call.TheVariants.{Line}
use Rattle.hub_rules.specs.declared.history.Entry.{Entry}
use Rattle.hub_rules.specs.Configured.{Configured}
use Rattle.hub_rules.specs.Effects.{is_present}
use Rattle.hub_rules.specs.Facts.{facts, own_of, sight_of}
use Rattle.hub_rules.specs.History.{about, ban, lags, lines_owed, open_connections, present, sid, stage, topic}
use Rattle.hub_rules.specs.Prepared.{prepared_line}
use Rattle.hub_invariants.specs.Said.{accepted_line}
use Rattle.hub_laws.specs.Owed.{IsOwed}

-- the message that these bytes of connection c are, where the hub accepts them
abbrev pub accepted : Configured → (List ℕ → List ℕ) → List Entry → ℕ → List ℕ → ℕ → Option Reading
accepted setup hash h c bytes now =
    accepted_line (sight_of setup (facts setup hash h)) (own_of (about setup hash h c)) (prepared_line setup hash (about setup hash h c).sender.challenge bytes) now

-- the entry is a line that is refused: it is not empty, its connection is not shut out, and the hub does not accept it
pub record IsRefused (setup : Configured) (hash : List ℕ → List ℕ) (h : List Entry) (e : Entry) (c : ℕ) : Type 0 where
  pub bytes : List ℕ
  pub now : ℕ
  pub call : e.call ≡ Line c bytes now
  pub some : bytes ≡ [] → ⊥
  pub heard : stage setup hash h c ≡ Gone → ⊥
  pub refused : accepted setup hash h c bytes now ≡ None

-- nothing changed by the entry e but what connections are owed
pub record IsSame (setup : Configured) (hash : List ℕ → List ℕ) (h : List Entry) (e : Entry) : Type 0 where
  pub opened : open_connections setup hash (e ∷ h) ≡ open_connections setup hash h
  pub users : present setup hash (e ∷ h) ≡ present setup hash h
  pub topic : topic setup hash (e ∷ h) ≡ topic setup hash h
  pub bans : (cid : List ℕ) (moment : ℕ) → ban setup hash (e ∷ h) cid moment ≡ ban setup hash h cid moment
  pub connections : (d : ℕ) → about setup hash (e ∷ h) d ≡ record (about setup hash h d) { owed = lines_owed setup hash (e ∷ h) d; lags = lags setup hash (e ∷ h) d }

-- the sender is owed one status that says why, and each other user who is present that the sender left, where the refusal is fatal and the sender was present
pub record IsToldAlone (setup : Configured) (hash : List ℕ → List ℕ) (h : List Entry) (e : Entry) (c : ℕ) : Type 0 where
  pub why : Deny
  pub sender : IsOwed setup hash h e c (denial_line why ∷ [])
  pub others : (d : ℕ) → (d ≡ c → ⊥)
      → IsOwed setup hash h e d (if is_fatal why && is_present (stage setup hash h c) && is_present (stage setup hash h d) then quit_line (sid setup hash h c) ∷ [] else [])
  pub shut_out : is_fatal why ≡ true → stage setup hash (e ∷ h) c ≡ Gone
  pub kept : is_fatal why ≡ false → IsSame setup hash h e

abbrev pub RefusalsAreToldAlone : Type 0
RefusalsAreToldAlone =
    (setup : Configured) (hash : List ℕ → List ℕ) (h : List Entry) (e : Entry) (c : ℕ) → IsRefused setup hash h e c → IsToldAlone setup hash h e c
