-- Nobody is present under the nick of an account but after the password of that account, hashed with the challenge of its own join.
use Rattle.std.specs.Prelude.{◌≡◌, ℕ, true, List, ◌∷◌, ◌++◌, codes, Option, Some, Ok, is_some}
use Rattle.adc_line.specs.Lines as lines
use Rattle.adc_line.specs.Lines.{Reading}
use Rattle.adc_line.specs.declared.header.Kind.TheVariants.{Hub}
use Rattle.login_state.specs.declared.stage.Stage.TheVariants.{Normal, Verify}
use Rattle.hub_rules.specs.declared.history.Call.TheVariants.{Line}
use Rattle.hub_rules.specs.declared.history.Entry.{Entry}
use Rattle.hub_rules.specs.Accounts.{account_with}
use Rattle.hub_rules.specs.Configured.{ConfiguredAccount, Configured}
use Rattle.hub_rules.specs.Denied.{digest_given}
use Rattle.hub_rules.specs.History.{about, info, stage}
use Rattle.hub_rules.specs.Identities.{key_in}

-- the account whose nick the user of a connection has: nicks are compared by their normal forms C
abbrev pub account_at : Configured → (List ℕ → List ℕ) → List Entry → ℕ → Option ConfiguredAccount
account_at setup hash h c = account_with (key_in (info setup hash h c)) setup.accounts

-- in this history the connection sent a password (an HPAS) while the hub waited for one, and its first parameter spells this digest
pub record HasGiven (setup : Configured) (hash : List ℕ → List ℕ) (h : List Entry) (c : ℕ) (digest : List ℕ) : Type 0 where
  pub later : List Entry
  pub entry : Entry
  pub earlier : List Entry
  pub stands : h ≡ later ++ entry ∷ earlier
  pub waits : stage setup hash earlier c ≡ Verify
  pub bytes : List ℕ
  pub now : ℕ
  pub call : entry.call ≡ Line c bytes now
  pub line : Reading
  pub reading : lines.reading bytes ≡ Ok line
  pub kind : line.kind ≡ Hub
  pub command : line.command ≡ codes "PAS"
  pub spells : digest_given line.params ≡ Some digest

-- whoever is present under the nick of an account gave the digest of its password and of the challenge with which the connection joined
abbrev pub NicksAreProved : Type 0
NicksAreProved =
    (setup : Configured) (hash : List ℕ → List ℕ) (h : List Entry) (c : ℕ) (account : ConfiguredAccount) → stage setup hash h c ≡ Normal → account_at setup hash h c ≡ Some account
    → HasGiven setup hash h c (hash (account.password ++ (about setup hash h c).sender.challenge))

-- where only registered users may enter, whoever is present has the nick of an account
abbrev pub OnlyAccountsEnter : Type 0
OnlyAccountsEnter =
    (setup : Configured) (hash : List ℕ → List ℕ) (h : List Entry) (c : ℕ) → setup.plain.registered_only ≡ true → stage setup hash h c ≡ Normal
    → is_some (account_at setup hash h c) ≡ true
