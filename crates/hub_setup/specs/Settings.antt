-- The hub that settings make, and the settings that are refused.
use Rattle.std.specs.Prelude.{◌≡◌, ◌≢◌, ◌==◌, ◌||◌, ◌&&◌, ℕ, Bool, true, false, not, nat_lt, List, [], ◌∷◌, chars, map, length, Option, Some, None, Result, Ok, Err, if◌then◌else◌}
use Rattle.std.specs.List.{list_all, list_any}
use Rattle.std.specs.Str.{bytes_eq}
use Rattle.adc_ids.specs.Nicks.{is_nick}
use Rattle.hub_rules.specs.Configured as hub
use Rattle.hub_rules.specs.Configured.{most_users, Configured}
use Rattle.hub_rules.specs.declared.plain_options.PlainOptions.{PlainOptions}
use Rattle.hub_rules.specs.Identities.{key_of}
use Rattle.hub_setup.specs.declared.options.Account.{Account}
use Rattle.hub_setup.specs.declared.options.MenuEntry.{MenuEntry}
use Rattle.hub_setup.specs.declared.options.MenuItem.{MenuItem}
use Rattle.hub_setup.specs.declared.options.MenuItem.TheVariants.{Text, Separator}
use Rattle.hub_setup.specs.declared.options.Options.{Options}
use Rattle.hub_setup.specs.declared.refused.ListRefused.{ListRefused}
use Rattle.hub_setup.specs.declared.refused.ListRefused.TheVariants as lists
use Rattle.hub_setup.specs.declared.refused.SetupRefused.{SetupRefused}
use Rattle.hub_setup.specs.declared.refused.SetupRefused.TheVariants as refusals

-- the most registered users and entries of the menu that a hub may have
abbrev pub most_accounts : ℕ
most_accounts = 32

abbrev pub most_commands : ℕ
most_commands = 64

-- an account as it is written
pub record AccountText : Type 0 where
  pub nick : List ℕ
  pub password : List ℕ
  pub operator : Bool

abbrev pub account_text : Account → AccountText
account_text account = record { nick = account.nick.now; password = account.password.now; operator = account.operator }

-- a nick, with a password that is not empty
abbrev pub is_account : AccountText → Bool
is_account account = is_nick (chars account.nick) && not (length account.password == 0)

-- the registered user
abbrev pub account_of : AccountText → hub.ConfiguredAccount
account_of account = record { key = key_of account.nick; password = account.password; operator = account.operator }

-- no two of the keys are the same
unfoldable pub are_distinct : List (List ℕ) → Bool
are_distinct [] = true
are_distinct (key ∷ keys) = not (list_any (bytes_eq key) keys) && are_distinct keys

abbrev pub have_distinct_keys : List hub.ConfiguredAccount → Bool
have_distinct_keys accounts = are_distinct (map (λ (account : hub.ConfiguredAccount). account.key) accounts)

abbrev pub registered_user : AccountText → Result hub.ConfiguredAccount ListRefused
registered_user account = if is_account account then Ok (account_of account) else Err lists.Entry

abbrev pub registered_users : List AccountText → Result (List hub.ConfiguredAccount) ListRefused
registered_users accounts = if list_all is_account accounts then Ok (map account_of accounts) else Err lists.Entry

-- all of them, where they are not too many, each is an account and their keys differ
unfoldable pub accounts_of : List AccountText → Result (List hub.ConfiguredAccount) ListRefused
accounts_of accounts =
    if nat_lt most_accounts (length accounts) then Err lists.Limit
    else if not (list_all is_account accounts && have_distinct_keys (map account_of accounts)) then Err lists.Entry
    else Ok (map account_of accounts)

-- what a client sends by an entry of its menu; a line between entries has no text
abbrev pub text_of : MenuItem → Option (List ℕ)
text_of (Text text) = Some text.now
text_of Separator = None

abbrev pub entry_of : MenuEntry → hub.ConfiguredEntry
entry_of entry = record { name = entry.name.now; context = entry.context; text = text_of entry.item }

-- a name that is not empty, shown in at least one of the four places
abbrev pub is_command : hub.ConfiguredEntry → Bool
is_command entry = not (length entry.name == 0) && not (entry.context == 0) && not (nat_lt 15 entry.context)

-- all of them, where they are not too many and each is a command
unfoldable pub menu_of : List hub.ConfiguredEntry → Result (List hub.ConfiguredEntry) ListRefused
menu_of entries =
    if nat_lt most_commands (length entries) then Err lists.Limit
    else if not (list_all is_command entries) then Err lists.Entry
    else Ok entries

-- a list or a number is past what the hub takes
abbrev pub is_past_limit : Options → Bool
is_past_limit o =
    nat_lt most_accounts (length o.accounts.now) || nat_lt most_commands (length o.commands.now) || o.plain.max_users == 0
    || nat_lt most_users o.plain.max_users

-- the hub of this name and topic, these registered users, this menu and these plain options
abbrev pub hub_of : List ℕ → List ℕ → List hub.ConfiguredAccount → List hub.ConfiguredEntry → PlainOptions → Configured
hub_of name topic accounts menu plain = record { name = name; topic = topic; accounts = accounts; menu = menu; plain = plain }

-- the hub of these options with these registered users and this menu
abbrev pub hub_with : Options → List hub.ConfiguredAccount → List hub.ConfiguredEntry → Configured
hub_with o accounts menu = hub_of o.name.now o.topic.now accounts menu o.plain

-- what follows from a list, or its refusal: this one where an entry is at fault
abbrev pub or_refused : {X Y : Type 0} → SetupRefused → Result X ListRefused → (X → Result Y SetupRefused) → Result Y SetupRefused
or_refused entry (Ok x) next = next x
or_refused entry (Err lists.Memory) next = Err refusals.Memory
or_refused entry (Err lists.Limit) next = Err refusals.Limit
or_refused entry (Err lists.Entry) next = Err entry

-- what these options make, or the first of their faults
unfoldable pub configured_hub : Options → Result Configured SetupRefused
configured_hub o =
    if is_past_limit o then Err refusals.Limit
    else if length o.name.now == 0 then Err refusals.Name
    else or_refused refusals.Account (accounts_of (map account_text o.accounts.now)) (λ accounts.
    or_refused refusals.Command (menu_of (map entry_of o.commands.now)) (λ menu.
    Ok (hub_with o accounts menu)))

-- `view` of a list is what is wanted, or the fault is the one that is wanted; want of memory says nothing
abbrev pub GivesList : {X Y : Type 0} → (X → Y) → Result X ListRefused → Result Y ListRefused → Type 0
GivesList view (Ok x) wanted = wanted ≡ Ok (view x)
GivesList view (Err lists.Memory) wanted = Unit {0}
GivesList view (Err lists.Limit) wanted = wanted ≡ Err lists.Limit
GivesList view (Err lists.Entry) wanted = wanted ≡ Err lists.Entry

-- within the limits and with a name, which takes no memory to see
abbrev pub IsNamedWithinLimits : Options → Type 0
IsNamedWithinLimits o = (is_past_limit o ≡ false) × (length o.name.now ≢ 0)

-- the setup is what is wanted, or the fault is the one that is wanted; want of memory says nothing
abbrev pub IsConfigured : Result Configured SetupRefused → Result Configured SetupRefused → Type 0
IsConfigured (Ok setup) wanted = wanted ≡ Ok setup
IsConfigured (Err refusals.Memory) wanted = Unit {0}
IsConfigured (Err refusals.Limit) wanted = wanted ≡ Err refusals.Limit
IsConfigured (Err refusals.Name) wanted = wanted ≡ Err refusals.Name
IsConfigured (Err refusals.Account) wanted = wanted ≡ Err refusals.Account
IsConfigured (Err refusals.Command) wanted = wanted ≡ Err refusals.Command
