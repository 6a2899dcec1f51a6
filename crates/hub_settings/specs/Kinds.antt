-- What may stand at a key.
use Rattle.std.specs.Prelude.{◌≤◌, ℕ, List, [], ◌∷◌, map, Option, Some, None, if◌then◌else◌}
use Rattle.std.specs.Borrow.{Bor}
use Rattle.std.specs.Str.{bytes_eq}
use Rattle.hub_settings.specs.declared.kinds.SettingKind as code
use Rattle.hub_settings.specs.declared.kinds.SettingKind.TheVariants as kinds

-- a text has its default, a number its least value, its greatest and its default
pub data SettingKind : Type 0 where
  SomeText : List ℕ → SettingKind
  Text : List ℕ → SettingKind
  Address : List ℕ → SettingKind
  Hash : List ℕ → SettingKind
  Truth : SettingKind
  Number : ℕ → ℕ → ℕ → SettingKind
  Accounts : SettingKind
  Commands : SettingKind

pub record Key : Type 0 where
  pub name : List ℕ
  pub kind : SettingKind

abbrev pub key : List ℕ → SettingKind → Key
key name kind = record { name = name; kind = kind }

abbrev pub names : List Key → List (List ℕ)
names keys = map (λ (k : Key). k.name) keys

-- a kind as the code has it
abbrev pub kind_seen : code.SettingKind → SettingKind
kind_seen (kinds.SomeText default) = SomeText default.now
kind_seen (kinds.Text default) = Text default.now
kind_seen (kinds.Address default) = Address default.now
kind_seen (kinds.Hash default) = Hash default.now
kind_seen kinds.Truth = Truth
kind_seen (kinds.Number low high default) = Number low high default
kind_seen kinds.Accounts = Accounts
kind_seen kinds.Commands = Commands

abbrev pub key_seen : Bor (List ℕ) × code.SettingKind → Key
key_seen written = key written.0.now (kind_seen written.1)

-- the kind of the key of this name
abbrev pub kind_among : List Key → List ℕ → Option SettingKind
kind_among [] name = None
kind_among (key ∷ keys) name = if bytes_eq name key.name then Some key.kind else kind_among keys name

-- a number's default is one that may stand there
abbrev pub HasFitDefault : Option SettingKind → Type 0
HasFitDefault (Some (Number low high default)) = (low ≤ default) × (default ≤ high)
HasFitDefault kind = Unit {0}

abbrev pub IsWithin : Option SettingKind → ℕ → Type 0
IsWithin (Some (Number low high default)) n = (low ≤ n) × (n ≤ high)
IsWithin kind n = Unit {0}
