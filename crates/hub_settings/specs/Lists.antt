-- The lists of accounts and of commands.
use Rattle.std.specs.Prelude.{ℕ, Bool, true, false, List, [], ◌∷◌, codes, Option, Some, None, is_some, if◌then◌else◌}
use Rattle.std.specs.Option.{option_and_then, option_map}
use Rattle.std.specs.Result.{result_ok}
use Rattle.toml.specs.Data.{Data, Items, Members, as_array, as_integer, as_str, as_table, get_member, item, no_items}
use Rattle.hub_rules.specs.Configured.{ConfiguredAccount, ConfiguredEntry}
use Rattle.hub_setup.specs.Settings.{AccountText, accounts_of, menu_of}
use Rattle.hub_settings.specs.Unknown.{first_unknown}
use Rattle.hub_settings.specs.Values.{truth_of, within}

abbrev pub account_keys : List (List ℕ)
account_keys = codes "nick" ∷ codes "password" ∷ codes "operator" ∷ []

abbrev pub account_from : Option (List ℕ) → Option (List ℕ) → Option Bool → Option AccountText
account_from (Some nick) (Some password) (Some operator) = Some (record { nick = nick; password = password; operator = operator })
account_from nick password operator = None

-- the text at a key that has to be there
abbrev pub text_at : List ℕ → Members → Option (List ℕ)
text_at key ms = option_and_then as_str (get_member key ms)

abbrev pub account_in : Members → Option AccountText
account_in ms =
    if is_some (first_unknown account_keys ms) then None
    else account_from (text_at (codes "nick") ms) (text_at (codes "password") ms) (truth_of (get_member (codes "operator") ms))

-- one more, where there is one
abbrev pub cons_if : {X : Type 0} → Option X → Option (List X) → Option (List X)
cons_if (Some x) (Some xs) = Some (x ∷ xs)
cons_if x xs = None

abbrev pub all_accounts : Items → Option (List AccountText)
all_accounts no_items = Some []
all_accounts (item value rest) = cons_if (option_and_then account_in (as_table value)) (all_accounts rest)

-- no list is an empty one
abbrev pub written_accounts : Option Data → Option (List AccountText)
written_accounts None = Some []
written_accounts (Some value) = option_and_then all_accounts (as_array value)

-- the registered users that a list of accounts describes, where it is one and they are fit for a hub
abbrev pub accounts_at : Option Data → Option (List ConfiguredAccount)
accounts_at value = option_and_then (λ written. result_ok (accounts_of written)) (written_accounts value)

abbrev pub command_keys : List (List ℕ)
command_keys = codes "name" ∷ codes "context" ∷ codes "text" ∷ codes "separator" ∷ []

-- a command has a text or is a separator, and not both
abbrev pub content_from : Bool → Option Data → Option (Option (List ℕ))
content_from true None = Some None
content_from true (Some value) = None
content_from false None = None
content_from false (Some value) = option_map Some (as_str value)

abbrev pub item_in : Members → Option (Option (List ℕ))
item_in ms = option_and_then (λ separator. content_from separator (get_member (codes "text") ms)) (truth_of (get_member (codes "separator") ms))

abbrev pub context_from : Option Data → Option ℕ
context_from value = option_and_then (within 1 15) (option_and_then as_integer value)

abbrev pub command_from : Option (List ℕ) → Option ℕ → Option (Option (List ℕ)) → Option ConfiguredEntry
command_from (Some name) (Some context) (Some text) = Some (record { name = name; context = context; text = text })
command_from name context text = None

abbrev pub command_in : Members → Option ConfiguredEntry
command_in ms =
    if is_some (first_unknown command_keys ms) then None
    else command_from (text_at (codes "name") ms) (context_from (get_member (codes "context") ms)) (item_in ms)

abbrev pub all_commands : Items → Option (List ConfiguredEntry)
all_commands no_items = Some []
all_commands (item value rest) = cons_if (option_and_then command_in (as_table value)) (all_commands rest)

abbrev pub written_commands : Option Data → Option (List ConfiguredEntry)
written_commands None = Some []
written_commands (Some value) = option_and_then all_commands (as_array value)

-- the menu that a list of commands describes, where it is one and they are fit for a hub
abbrev pub menu_at : Option Data → Option (List ConfiguredEntry)
menu_at value = option_and_then (λ written. result_ok (menu_of written)) (written_commands value)
