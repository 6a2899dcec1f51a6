-- Lines say nothing of a password but whether it was right: with other passwords in the hub and in the clients' answers, all are owed the same.
use Rattle.std.specs.Prelude.{◌≡◌, ◌⊎◌, ℕ, ◌==◌, ◌&&◌, Bool, true, false, List, [], ◌∷◌, codes, map, Result, Ok, Err, if◌then◌else◌}
use Rattle.std.specs.Str.{bytes_eq}
use Rattle.adc_line.specs.declared.fault.LineFault.{LineFault}
use Rattle.adc_line.specs.declared.header.Kind.{Kind}
use Rattle.adc_line.specs.declared.header.Kind.TheVariants as kinds
use Rattle.adc_line.specs.Lines as lines
use Rattle.adc_line.specs.Lines.{Reading}
use Rattle.login_state.specs.declared.stage.Stage.TheVariants.{Verify}
use Rattle.hub_rules.specs.declared.history.Call.{Call}
use Rattle.hub_rules.specs.declared.history.Call.TheVariants.{Line}
use Rattle.hub_rules.specs.declared.history.Entry.{Entry}
use Rattle.hub_rules.specs.Configured.{ConfiguredAccount, Configured}
use Rattle.hub_rules.specs.Denied.{digest_given}
use Rattle.hub_rules.specs.Facts.{facts}
use Rattle.hub_rules.specs.Grounds.{is_digest}
use Rattle.hub_rules.specs.History.{about, lines_owed, stage}
use Rattle.hub_invariants.specs.Lag.{share}
use Rattle.hub_rules.specs.Texts.{challenge_line}

-- ---- two hubs that differ in passwords alone

abbrev pub without_password : ConfiguredAccount → ConfiguredAccount
without_password account = record account { password = [] }

abbrev pub without_passwords : Configured → Configured
without_passwords setup = record setup { accounts = map without_password setup.accounts }

-- ---- two lines of which each gives a password

abbrev pub is_to_hub : Kind → Bool
is_to_hub kinds.Hub = true
is_to_hub kind = false

-- the message is an HPAS
abbrev pub is_password : Result Reading LineFault → Bool
is_password (Ok line) = is_to_hub line.kind && bytes_eq line.command (codes "PAS")
is_password (Err fault) = false

-- it gives the digest that is expected
abbrev pub is_right : List ℕ → Result Reading LineFault → Bool
is_right expected (Ok line) = is_digest expected (digest_given line.params)
is_right expected (Err fault) = false

-- the lines that a connection sends to two hubs: the same one, or each time some password; and where the one hub waits for a password, it is
-- right there and in the other hub, or in neither
pub record AreLikeLines (setup other : Configured) (hash : List ℕ → List ℕ) (h g : List Entry) (c : ℕ) (bytes theirs : List ℕ) : Type 0 where
  pub alike : (bytes ≡ theirs) ⊎ ((is_password (lines.reading bytes) ≡ true) × (is_password (lines.reading theirs) ≡ true))
  pub right :
      stage setup hash h c ≡ Verify
      → is_right (about setup hash h c).expected (lines.reading bytes) ≡ is_right (about other hash g c).expected (lines.reading theirs)

-- the calls that are made of two hubs: the same one, but for the password in a line
abbrev pub AreLikeCalls : Configured → Configured → (List ℕ → List ℕ) → List Entry → List Entry → Call → Call → Type 0
AreLikeCalls setup other hash h g (Line c bytes now) (Line d theirs later) = (c ≡ d) × (now ≡ later) × AreLikeLines setup other hash h g c bytes theirs
AreLikeCalls setup other hash h g call another = call ≡ another

-- what happens to two hubs: the same calls by the same callers, in the same order, but for the passwords
unfoldable pub AreLikeHistories : Configured → Configured → (List ℕ → List ℕ) → List Entry → List Entry → Type 0
AreLikeHistories setup other hash [] [] = Unit {0}
AreLikeHistories setup other hash [] (x ∷ g) = ⊥
AreLikeHistories setup other hash (e ∷ h) [] = ⊥
AreLikeHistories setup other hash (e ∷ h) (x ∷ g) =
    AreLikeHistories setup other hash h g × (e.caller ≡ x.caller) × AreLikeCalls setup other hash h g e.call x.call

-- each connection is owed the same lines in both, byte for byte
abbrev pub PasswordsAreNotTold : Type 0
PasswordsAreNotTold =
    (setup other : Configured) (hash : List ℕ → List ℕ) (h g : List Entry) → without_passwords setup ≡ without_passwords other
    → AreLikeHistories setup other hash h g → (d : ℕ) → lines_owed setup hash h d ≡ lines_owed other hash g d

-- ---- what is told where a password is asked for

-- a call after which the hub waits for a password owes the connection the challenge of its own join, nothing else, and nobody else anything
abbrev pub ChallengesAreTold : Type 0
ChallengesAreTold =
    (setup : Configured) (hash : List ℕ → List ℕ) (h : List Entry) (e : Entry) (c d : ℕ) → (stage setup hash h c ≡ Verify → ⊥)
    → stage setup hash (e ∷ h) c ≡ Verify
    → share setup hash (facts setup hash h) d e.call ≡ (if d == c then challenge_line (about setup hash h c).sender.challenge ∷ [] else [])
