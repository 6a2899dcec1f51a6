-- What an operator asks for is carried out: a kick, a ban where there is room for it, the end of a ban that is held, and a topic.
use Rattle.std.specs.Prelude.{◌≡◌, ◌≤◌, ℕ, true, false, List, ◌∷◌, codes, Some, is_some}
use Rattle.adc_line.specs.Grammar.{Reads}
use Rattle.adc_line.specs.Lines.{Reading}
use Rattle.adc_line.specs.declared.header.Kind.TheVariants.{Hub}
use Rattle.login_state.specs.declared.stage.Stage.TheVariants.{Gone, Normal}
use Rattle.operator_acts.specs.Acts.{act_at}
use Rattle.operator_acts.specs.Bans.{ban_on, is_full, left_of}
use Rattle.operator_acts.specs.declared.act.Act.{Act}
use Rattle.operator_acts.specs.declared.act.Act.TheVariants.{Ban, Kick, Topic, Unban}
use Rattle.operator_acts.specs.declared.left.Left.TheVariants.{Free}
use Rattle.hub_rules.specs.declared.history.Call.TheVariants.{Line}
use Rattle.hub_rules.specs.declared.history.Entry.{Entry}
use Rattle.hub_rules.specs.Accounts.{operates}
use Rattle.hub_rules.specs.Acts.{is_command, text_in}
use Rattle.hub_rules.specs.Configured.{most_users, Configured}
use Rattle.hub_rules.specs.Facts.{facts}
use Rattle.hub_rules.specs.History.{ban, info, stage, topic}
use Rattle.hub_rules.specs.Identities.{cid_in, key_in, key_of_points}
use Rattle.hub_laws.specs.Registered.{account_at}

-- the entry e is a message to the hub (an HMSG) by which an operator who is present asks for this act
pub record Commands (setup : Configured) (hash : List ℕ → List ℕ) (h : List Entry) (e : Entry) (now : ℕ) (act : Act) : Type 0 where
  pub operator : ℕ
  pub bytes : List ℕ
  pub call : e.call ≡ Line operator bytes now
  pub present : stage setup hash h operator ≡ Normal
  pub operates : operates (account_at setup hash h operator) ≡ true
  pub line : Reading
  pub grammar : Reads bytes line
  pub kind : line.kind ≡ Hub
  pub command : line.command ≡ codes "MSG"
  pub begins : is_command (text_in line.params) ≡ true
  pub asks : act_at (text_in line.params) ≡ Some act

-- the user of connection d is present under this nick; nicks are compared by their normal forms C
abbrev pub IsPresentAs : Configured → (List ℕ → List ℕ) → List Entry → ℕ → List ℕ → Type 0
IsPresentAs setup hash h d nick = (stage setup hash h d ≡ Normal) × (key_in (info setup hash h d) ≡ key_of_points nick)

-- a kick of a user who is present shuts it out
abbrev pub KicksAreCarriedOut : Type 0
KicksAreCarriedOut =
    (setup : Configured) (hash : List ℕ → List ℕ) (h : List Entry) (e : Entry) (d now : ℕ) (nick reason : List ℕ) → setup.plain.max_users ≤ most_users
    → Commands setup hash h e now (Kick nick reason) → IsPresentAs setup hash h d nick
    → stage setup hash (e ∷ h) d ≡ Gone

-- and so does a ban, which holds from now on, unless so many bans are held as may be, and none on its CID
abbrev pub BansAreCarriedOut : Type 0
BansAreCarriedOut =
    (setup : Configured) (hash : List ℕ → List ℕ) (h : List Entry) (e : Entry) (d now : ℕ) (nick : List ℕ) (seconds : ℕ) (reason : List ℕ) → setup.plain.max_users ≤ most_users
    → Commands setup hash h e now (Ban nick seconds reason) → IsPresentAs setup hash h d nick → is_full (facts setup hash h).bans (cid_in (info setup hash h d)) ≡ false
    → (stage setup hash (e ∷ h) d ≡ Gone)
    × ((moment : ℕ) → ban setup hash (e ∷ h) (cid_in (info setup hash h d)) moment ≡ left_of (Some (record { seconds = seconds; moment = now })) moment)

-- where a ban on a CID is ended, nothing is left of it, so that it may enter
abbrev pub UnbansAreCarriedOut : Type 0
UnbansAreCarriedOut =
    (setup : Configured) (hash : List ℕ → List ℕ) (h : List Entry) (e : Entry) (now : ℕ) (cid : List ℕ) → Commands setup hash h e now (Unban cid)
    → is_some (ban_on (facts setup hash h).bans cid) ≡ true → (moment : ℕ) → ban setup hash (e ∷ h) cid moment ≡ Free

-- a topic is the topic from then on
abbrev pub TopicsAreCarriedOut : Type 0
TopicsAreCarriedOut =
    (setup : Configured) (hash : List ℕ → List ℕ) (h : List Entry) (e : Entry) (now : ℕ) (text : List ℕ) → Commands setup hash h e now (Topic text)
    → topic setup hash (e ∷ h) ≡ text
