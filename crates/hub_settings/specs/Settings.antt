-- The settings that a file says.
use Rattle.std.specs.Prelude.{◌≡◌, ℕ, List, [], ◌∷◌, codes, Option, Some, None, Result, Ok, Err}
use Rattle.std.specs.Option.{ok_or}
use Rattle.std.specs.Net.Grammar.{IsSocketV4Text}
use Rattle.std.specs.declared.net.socket_addr.SocketAddrV4.{SocketAddrV4}
use Rattle.toml.specs.Data.{Data, Members, get_member}
use Rattle.hub_rules.specs.Configured as hub
use Rattle.hub_rules.specs.Configured.{Configured}
use Rattle.hub_rules.specs.Configured.{most_users}
use Rattle.hub_rules.specs.declared.plain_options.PlainOptions.{PlainOptions}
use Rattle.hub_setup.specs.Settings.{hub_with}
use Rattle.hub_settings.specs.declared.hash_name.HashName.{HashName}
use Rattle.hub_settings.specs.declared.plain_keys.PlainKeys.{PlainKeys}
use Rattle.hub_settings.specs.Unknown.{first_unknown}
use Rattle.hub_settings.specs.Kinds.{Key, SettingKind, key, kind_among, names, SomeText, Text, Address, Hash, Truth, Number, Accounts, Commands}
use Rattle.hub_settings.specs.Lists.{accounts_at, menu_at}
use Rattle.hub_settings.specs.Values.{address_for, hash_for, number_for, some_text_for, text_for, truth_for}

-- the keys, in the order in which their faults are looked for
abbrev pub keys : List Key
keys =
    key (codes "name") (SomeText (codes "Hub"))
    ∷ key (codes "topic") (Text [])
    ∷ key (codes "listen") (Address (codes "127.0.0.1:4111"))
    ∷ key (codes "hash") (Hash (codes "tiger"))
    ∷ key (codes "tables") (Text (codes "tiger.bin"))
    ∷ key (codes "registered_only") Truth
    ∷ key (codes "search_interval") (Number 0 4_294_967_295 0)
    ∷ key (codes "max_users") (Number 1 most_users 512)
    ∷ key (codes "threads") (Number 1 64 2)
    ∷ key (codes "stop_after") (Number 0 65_536 0)
    ∷ key (codes "seed_file") (Text (codes "/dev/urandom"))
    ∷ key (codes "account") Accounts
    ∷ key (codes "command") Commands
    ∷ []

unfoldable pub kind_of : List ℕ → Option SettingKind
kind_of name = kind_among keys name

-- what stands at this key, read by its kind, or the key is at fault
abbrev pub read : {X : Type 0} → (Option SettingKind → Option Data → Option X) → List ℕ → Members → Result X (List ℕ)
read value_of name ms = ok_or (value_of (kind_of name) (get_member name ms)) name

-- the hub, and what a server needs beside it
pub record ServerSettings : Type 0 where
  pub hub : Configured
  pub listen : SocketAddrV4
  pub hash : HashName
  pub tables : List ℕ
  pub threads : ℕ
  pub stop_after : ℕ
  pub seed_file : List ℕ

-- what is read of one part, or the key that is at fault
abbrev pub and_then : {X Y : Type 0} → Result X (List ℕ) → (X → Result Y (List ℕ)) → Result Y (List ℕ)
and_then (Ok x) next = next x
and_then (Err key) next = Err key

-- the address and port that a text spells, where it spells one
abbrev pub IsSpelled : Option (List ℕ) → Option SocketAddrV4 → Type 0
IsSpelled None address = address ≡ None
IsSpelled (Some text) (Some address) = IsSocketV4Text text address
IsSpelled (Some text) None = (address : SocketAddrV4) → IsSocketV4Text text address → ⊥

abbrev pub ListensAt : Members → Option SocketAddrV4 → Type 0
ListensAt ms address = IsSpelled (address_for (kind_of (codes "listen")) (get_member (codes "listen") ms)) address

-- the keys of the options that are neither texts nor lists, of a hub that opens at this moment
unfoldable pub plain_options : ℕ → Members → Result PlainOptions (List ℕ)
plain_options opening ms =
    and_then (read truth_for (codes "registered_only") ms) (λ registered_only.
    and_then (read number_for (codes "search_interval") ms) (λ search_interval.
    and_then (read number_for (codes "max_users") ms) (λ max_users.
    Ok (record { registered_only = registered_only; search_interval = search_interval; max_users = max_users; opening = opening }))))

-- the keys that are no lists, of a hub that opens at this moment and of a server that listens at this address
unfoldable pub plain_keys : ℕ → Option SocketAddrV4 → Members → Result ServerSettings (List ℕ)
plain_keys opening address ms =
    and_then (read some_text_for (codes "name") ms) (λ name.
    and_then (read text_for (codes "topic") ms) (λ topic.
    and_then (ok_or address (codes "listen")) (λ listen.
    and_then (read hash_for (codes "hash") ms) (λ hash.
    and_then (read text_for (codes "tables") ms) (λ tables.
    and_then (plain_options opening ms) (λ plain.
    and_then (read number_for (codes "threads") ms) (λ threads.
    and_then (read number_for (codes "stop_after") ms) (λ stop_after.
    and_then (read text_for (codes "seed_file") ms) (λ seed_file.
    Ok (record {
      hub = record { name = name; topic = topic; accounts = []; menu = []; plain = plain };
      listen = listen;
      hash = hash;
      tables = tables;
      threads = threads;
      stop_after = stop_after;
      seed_file = seed_file;
    }))))))))))

-- what is kept of these keys
abbrev pub settings_of : PlainKeys → ServerSettings
settings_of keys = record {
  hub = hub_with keys.options [] [];
  listen = keys.listen;
  hash = keys.hash;
  tables = keys.tables.now;
  threads = keys.threads;
  stop_after = keys.stop_after;
  seed_file = keys.seed_file.now;
}

abbrev pub known_keys : List (List ℕ)
known_keys = names keys

abbrev pub with_lists : ServerSettings → List hub.ConfiguredAccount → List hub.ConfiguredEntry → ServerSettings
with_lists plain accounts menu = record plain { hub = record plain.hub { accounts = accounts; menu = menu } }

abbrev pub known_only : Option (List ℕ) → ServerSettings → Result ServerSettings (List ℕ)
known_only None settings = Ok settings
known_only (Some key) settings = Err key

-- what a table of settings says of a hub that opens at this moment, or its first fault
unfoldable pub settings : ℕ → Option SocketAddrV4 → Members → Result ServerSettings (List ℕ)
settings opening address ms =
    and_then (plain_keys opening address ms) (λ plain.
    and_then (ok_or (accounts_at (get_member (codes "account") ms)) (codes "account")) (λ accounts.
    and_then (ok_or (menu_at (get_member (codes "command") ms)) (codes "command")) (λ menu.
    known_only (first_unknown known_keys ms) (with_lists plain accounts menu))))
