-- What is decided of a line is carried out: neither the table of users nor the list of bans refuses it, whatever calls were made before.
use Rattle.std.specs.Prelude.{◌≡◌, ℕ, ◌++◌, false, List, [], ◌∷◌, Ok}
use Rattle.operator_acts.specs.Bans.{is_full}
use Rattle.user_table.specs.Changes.{given_key, users_after_entry, users_after_update}
use Rattle.user_table.specs.Tables.{with_update}
use Rattle.hub_rules.specs.declared.effect.Change.{Change}
use Rattle.hub_rules.specs.declared.effect.Change.TheVariants.{Hub, Sender}
use Rattle.hub_rules.specs.declared.effect.HubChange.TheVariants as shared
use Rattle.hub_rules.specs.declared.effect.SenderChange.TheVariants as senders
use Rattle.hub_rules.specs.declared.history.Entry.{Entry}
use Rattle.hub_rules.specs.Configured.{Configured}
use Rattle.hub_rules.specs.Facts.{effect_of_line, facts, own_of, sight_of}
use Rattle.hub_rules.specs.Identities.{listed_user}
use Rattle.hub_rules.specs.Views.{SenderView, HubView}

-- who enters has a nick and an identifier that nobody has, an update gives no other user's nick, and there is room for a ban
abbrev pub IsTaken : HubView → SenderView → Change → Type 0
IsTaken hub own (Sender (senders.EntersAs newcomer)) = users_after_entry newcomer.user hub.users ≡ Ok (hub.users ++ newcomer.user ∷ [])
IsTaken hub own (Sender senders.Enters) =
    users_after_entry (listed_user own.sender.sid own.fields) hub.users ≡ Ok (hub.users ++ listed_user own.sender.sid own.fields ∷ [])
IsTaken hub own (Sender (senders.Updates revision)) =
    users_after_update own.sender.sid revision.update (given_key revision.nick) hub.users ≡ Ok (with_update own.sender.sid revision.update (given_key revision.nick) hub.users)
IsTaken hub own (Hub (shared.Ban banned)) = is_full hub.bans banned.cid ≡ false
IsTaken hub own change = Unit {0}

abbrev pub DecidedIsTaken : Type 0
DecidedIsTaken =
    (setup : Configured) (hash : List ℕ → List ℕ) (h : List Entry) (c : ℕ) (bytes : List ℕ) (now : ℕ)
    → IsTaken (sight_of setup (facts setup hash h)) (own_of ((facts setup hash h).about c)) (effect_of_line setup hash (facts setup hash h) c bytes now).change
