-- A login that meets every check enters, or is asked for a password where its nick is an account's; and the right password enters.
use Rattle.std.specs.Prelude.{◌≡◌, ℕ, true, false, List, ◌∷◌, ◌++◌, chars, codes, Some, None, Ok, is_some, if◌then◌else◌}
use Rattle.std.specs.List.{find}
use Rattle.adc_base32.specs.Spelled.{spelled_bytes}
use Rattle.adc_ids.specs.Nicks.{IsNick}
use Rattle.adc_line.specs.Grammar.{Reads}
use Rattle.adc_line.specs.Lines.{Reading}
use Rattle.adc_line.specs.declared.header.Kind.TheVariants.{Broadcast, Hub}
use Rattle.inf_fields.specs.Field.{Field}
use Rattle.inf_fields.specs.FieldNames.{address_name, id_name, private_id_name}
use Rattle.inf_fields.specs.Updates as updates
use Rattle.login_state.specs.declared.stage.Stage.TheVariants.{Identify, Normal, Verify}
use Rattle.operator_acts.specs.declared.left.Left.TheVariants.{Free}
use Rattle.hub_rules.specs.declared.history.Call.TheVariants.{Line}
use Rattle.hub_rules.specs.declared.history.Entry.{Entry}
use Rattle.hub_rules.specs.Accounts.{account_with}
use Rattle.hub_rules.specs.Configured.{ConfiguredAccount, Configured}
use Rattle.hub_rules.specs.Denied.{digest_given}
use Rattle.login_state.specs.NamedFields.{checked_fields}
use Rattle.hub_rules.specs.Grounds.{is_bad, is_wrong_address}
use Rattle.hub_rules.specs.History.{about, ban, info, sid, stage}
use Rattle.hub_rules.specs.Identities.{cid_in, key_in, nick_in, value_or_empty}
use Rattle.hub_laws.specs.Registered.{account_at}

-- no user who is present has this nick, by its normal form C, or this CID
pub record IsFree (setup : Configured) (hash : List ℕ → List ℕ) (h : List Entry) (key cid : List ℕ) : Type 0 where
  pub no_nick : (d : ℕ) → stage setup hash h d ≡ Normal → key_in (info setup hash h d) ≡ key → ⊥
  pub no_cid : (d : ℕ) → stage setup hash h d ≡ Normal → cid_in (info setup hash h d) ≡ cid → ⊥

-- the entry e is a login (a BINF) that says these fields, by a connection that may log in, and all that a hub asks of it is so
pub record LogsIn (setup : Configured) (hash : List ℕ → List ℕ) (h : List Entry) (e : Entry) (c : ℕ) (fields : List Field) : Type 0 where
  pub bytes : List ℕ
  pub now : ℕ
  pub call : e.call ≡ Line c bytes now
  pub may : stage setup hash h c ≡ Identify
  pub line : Reading
  pub grammar : Reads bytes line
  pub kind : line.kind ≡ Broadcast
  pub command : line.command ≡ codes "INF"
  pub from : line.from ≡ Some (sid setup hash h c)
  pub words : updates.reading line.params ≡ Ok fields
  -- ID spells the hash of what PD spells
  pub pid : List ℕ
  pub owns : spelled_bytes 24 (value_or_empty private_id_name fields) ≡ Some pid
  pub shows : spelled_bytes 24 (value_or_empty id_name fields) ≡ Some (hash pid)
  -- NI spells a nick; SS and SF are numbers, or are not there; I4 is the address that the hub sees, or is left to the hub
  pub nick : IsNick (chars (nick_in fields))
  pub values : find (is_bad fields) checked_fields ≡ None
  pub address : is_wrong_address (about setup hash h c).sender.peer (value_or_empty address_name fields) ≡ false
  -- it is not banned, registered where it has to be, and nobody has its nick or its CID
  pub unbanned : ban setup hash h (hash pid) now ≡ Free
  pub registered : setup.plain.registered_only ≡ true → is_some (account_with (key_in fields) setup.accounts) ≡ true
  pub free : IsFree setup hash h (key_in fields) (hash pid)

-- it enters, or waits for its password
abbrev pub LoginsAreAccepted : Type 0
LoginsAreAccepted =
    (setup : Configured) (hash : List ℕ → List ℕ) (h : List Entry) (e : Entry) (c : ℕ) (fields : List Field) → LogsIn setup hash h e c fields
    → stage setup hash (e ∷ h) c ≡ (if is_some (account_with (key_in fields) setup.accounts) then Verify else Normal)

-- the entry e is the password (an HPAS) of the account for which the hub waits, hashed with the challenge of the join, and it may still enter
pub record GivesPassword (setup : Configured) (hash : List ℕ → List ℕ) (h : List Entry) (e : Entry) (c : ℕ) (account : ConfiguredAccount) : Type 0 where
  pub bytes : List ℕ
  pub now : ℕ
  pub call : e.call ≡ Line c bytes now
  pub waits : stage setup hash h c ≡ Verify
  pub has : account_at setup hash h c ≡ Some account
  pub line : Reading
  pub grammar : Reads bytes line
  pub kind : line.kind ≡ Hub
  pub command : line.command ≡ codes "PAS"
  pub spells : digest_given line.params ≡ Some (hash (account.password ++ (about setup hash h c).sender.challenge))
  pub unbanned : ban setup hash h (cid_in (info setup hash h c)) now ≡ Free
  pub free : IsFree setup hash h (key_in (info setup hash h c)) (cid_in (info setup hash h c))

-- it enters
abbrev pub PasswordsAreAccepted : Type 0
PasswordsAreAccepted =
    (setup : Configured) (hash : List ℕ → List ℕ) (h : List Entry) (e : Entry) (c : ℕ) (account : ConfiguredAccount) → GivesPassword setup hash h e c account
    → stage setup hash (e ∷ h) c ≡ Normal
