-- The commands of operators, which a message to the hub asks for.
use Rattle.std.specs.Prelude.{ℕ, ◌==◌, not, Bool, false, List, [], ◌∷◌, codes, Option, Some, None, Result, Ok, Err, is_some, if◌then◌else◌}
use Rattle.std.specs.Result.{result_err}
use Rattle.std.specs.Option.{option_map_or}
use Rattle.feature_route.specs.declared.receivers.Audience.TheVariants as audiences
use Rattle.login_state.specs.declared.deny.Deny.{Deny}
use Rattle.login_state.specs.declared.deny.Deny.TheVariants as denials
use Rattle.operator_acts.specs.Acts.{act_at}
use Rattle.operator_acts.specs.Bans.{ban_on, is_full}
use Rattle.operator_acts.specs.declared.ban.Ban.{Ban}
use Rattle.operator_acts.specs.declared.act.Act.{Act}
use Rattle.operator_acts.specs.declared.act.Act.TheVariants as acts
use Rattle.user_table.specs.Listed.{Listed}
use Rattle.user_table.specs.Tables.{user_by_key}
use Rattle.hub_rules.specs.declared.effect.Banned.{Banned}
use Rattle.hub_rules.specs.declared.effect.Change.TheVariants.{Hub}
use Rattle.hub_rules.specs.declared.effect.Effect.{Effect}
use Rattle.hub_rules.specs.declared.effect.Hearers.TheVariants.{Those}
use Rattle.hub_rules.specs.declared.effect.HubChange.{HubChange}
use Rattle.hub_rules.specs.declared.effect.HubChange.TheVariants as shared
use Rattle.hub_rules.specs.declared.sender.SeatChange.TheVariants as seats
use Rattle.hub_rules.specs.Accounts.{operates}
use Rattle.hub_rules.specs.Identities.{meaning, key_in, key_of_points}
use Rattle.hub_rules.specs.Quiet.{nothing}
use Rattle.hub_rules.specs.Views.{HubView, SenderView, account_of}
use Rattle.hub_rules.specs.Texts.{done_line, removal_line, topic_line}

-- what the first parameter means
abbrev pub text_in : List (List ℕ) → List ℕ
text_in [] = []
text_in (word ∷ more) = meaning word

-- commands begin with `!`; other texts are for nobody
abbrev pub is_command : List ℕ → Bool
is_command [] = false
is_command (b ∷ more) = b == 33

abbrev pub is_operator : HubView → SenderView → Bool
is_operator hub own = operates (account_of hub (key_in own.fields))

-- ---- each command, by the users who are present, the bans that are held, its operator and the moment

-- what is carried out: what all users are told, and what it changes
pub record Done : Type 0 where
  pub others : List (List ℕ)
  pub change : HubChange

abbrev pub user_called : List Listed → List ℕ → Option Listed
user_called users nick = user_by_key (key_of_points nick) users

abbrev pub if_present : Option Listed → (Listed → Result Done Deny) → Result Done Deny
if_present user command = option_map_or command user (Err denials.NoUser)

abbrev pub kick : ℕ → List ℕ → Listed → Result Done Deny
kick operator reason user = Ok (record { others = removal_line user.sid operator None reason ∷ []; change = shared.At user.sid seats.Gone })

abbrev pub banned_for : ℕ → ℕ → Listed → Banned
banned_for seconds now user = record { sid = user.sid; cid = user.cid; ban = record { seconds = seconds; moment = now } }

abbrev pub removal : ℕ → List ℕ → Banned → Done
removal operator reason banned = record { others = removal_line banned.sid operator (Some banned.ban.seconds) reason ∷ []; change = shared.Ban banned }

-- nobody is shut out where there is no room for the ban
abbrev pub ban : List (List ℕ × Ban) → ℕ → List ℕ → Banned → Result Done Deny
ban bans operator reason banned = if is_full bans banned.cid then Err denials.BansFull else Ok (removal operator reason banned)

abbrev pub unban : List (List ℕ × Ban) → List ℕ → Result Done Deny
unban bans cid = if is_some (ban_on bans cid) then Ok (record { others = []; change = shared.Unban cid }) else Err denials.NoBan

abbrev pub answer_of : List Listed → List (List ℕ × Ban) → ℕ → ℕ → Act → Result Done Deny
answer_of users bans operator now (acts.Kick nick reason) = if_present (user_called users nick) (kick operator reason)
answer_of users bans operator now (acts.Ban nick seconds reason) =
    if_present (user_called users nick) (λ user. ban bans operator reason (banned_for seconds now user))
answer_of users bans operator now (acts.Unban cid) = unban bans cid
answer_of users bans operator now (acts.Topic text) = Ok (record { others = topic_line text ∷ []; change = shared.Topic text })

-- ---- all of them

-- what a command leads to that was read, if it is one, or why it is denied
abbrev pub answer_to : HubView → SenderView → ℕ → Option Act → Result Done Deny
answer_to hub own now None = Err denials.BadCommand
answer_to hub own now (Some act) = answer_of hub.users hub.bans own.sender.sid now act

-- all users who are present are told, and then the operator that it is done
abbrev pub effect_for_all : Done → Effect
effect_for_all done = record { own = done_line ∷ []; others = done.others; hearers = Those audiences.All; change = Hub done.change }

abbrev pub effect_by : Result Done Deny → Effect
effect_by (Ok done) = effect_for_all done
effect_by (Err deny) = nothing

-- only an operator's text is looked into
unfoldable pub act_denied : HubView → SenderView → ℕ → List (List ℕ) → Option Deny
act_denied hub own now params =
    if not (is_command (text_in params)) then None
    else if not (is_operator hub own) then Some (denials.Access (codes "HMSG"))
    else result_err (answer_to hub own now (act_at (text_in params)))

-- what an accepted message to the hub leads to
unfoldable pub act_effect : HubView → SenderView → ℕ → List (List ℕ) → Effect
act_effect hub own now params =
    if not (is_command (text_in params)) then nothing else effect_by (answer_to hub own now (act_at (text_in params)))
