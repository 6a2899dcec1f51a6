-- Commands on the users who are present: their answers in turn, and what they leave.
use Rattle.std.specs.Prelude.{◌≡◌, ◌⊎◌, ℕ, Bool, true, false, chars, string_bytes, List, [], ◌∷◌, Option, Some, None, is_some, Result, Ok, Err, IsOk, slice_get}
use Rattle.std.specs.Option.{option_and_then, option_map}
use Rattle.std.specs.Str.{bytes_eq}
use Rattle.adc_line.specs.Escapes.{unescaped_text}
use Rattle.inf_fields.specs.Field.{Field, value_of}
use Rattle.inf_fields.specs.FieldNames.{nick_name}
use Rattle.plain_users.specs.declared.command.CommandAnswer.{CommandAnswer}
use Rattle.plain_users.specs.declared.command.CommandAnswer.TheVariants.{Skipped, Done, Refused, Found, Counted}
use Rattle.plain_users.specs.declared.command.Command.{Command}
use Rattle.plain_users.specs.declared.command.Command.TheVariants.{Insert, Remove, MergeInfo, BySid, ByCid, ByNick, At, Count}
use Rattle.user_table.specs.declared.refused.TableRefused.{TableRefused}
use Rattle.user_table.specs.declared.refused.TableRefused.TheVariants.{Memory}
use Rattle.user_table.specs.Changes.{users_after_entry, given_key, key_of, users_after_update, takes_update}
use Rattle.user_table.specs.Indexes.{sid_of}
use Rattle.user_table.specs.Listed.{Listed}
use Rattle.user_table.specs.Tables.{totals_of, user_by_cid, user_by_key, user_by_sid, without_sid}

-- the key of the nick that an update says, where its field NI spells a text
abbrev pub said_key : List Field → Option (List ℕ)
said_key update = option_map (λ (text : List ℕ). key_of (chars text)) (option_and_then unescaped_text (value_of nick_name update))

abbrev pub is_key : List ℕ → Option (List ℕ) → Bool
is_key key None = false
is_key key (Some said) = bytes_eq said key

-- a nick that is given is the one that the update says, as nicks are compared
abbrev pub says_nick : Option (List ℕ) → List Field → Bool
says_nick None update = true
says_nick (Some points) update = is_key (key_of points) (said_key update)

-- what a change makes of the users, where it is not refused
abbrev pub left_by : Result (List Listed) TableRefused → List Listed → List Listed
left_by (Ok after) users = after
left_by (Err refused) users = users

abbrev pub answer_of : Result (List Listed) TableRefused → CommandAnswer
answer_of (Ok after) = Done
answer_of (Err refused) = Refused refused

-- a change is answered as it is wanted, or memory ran out and nothing changed
abbrev pub IsChange : Result (List Listed) TableRefused → List Listed → CommandAnswer → List Listed → Type 0
IsChange wanted users answer after = ((answer ≡ Refused Memory) × (after ≡ users)) ⊎ ((answer ≡ answer_of wanted) × (after ≡ left_by wanted users))

-- memory counts for an entry only where nothing else refuses it
abbrev pub IsEntry : Result (List Listed) TableRefused → List Listed → CommandAnswer → List Listed → Type 0
IsEntry wanted users answer after = ((answer ≡ Refused Memory) × (after ≡ users) × IsOk wanted) ⊎ ((answer ≡ answer_of wanted) × (after ≡ left_by wanted users))

-- nothing is changed
abbrev pub IsLookUp : CommandAnswer → List Listed → CommandAnswer → List Listed → Type 0
IsLookUp wanted users answer after = (answer ≡ wanted) × (after ≡ users)

abbrev pub IsInserted : Bool → Listed → List Listed → CommandAnswer → List Listed → Type 0
IsInserted true user users answer after = IsLookUp Skipped users answer after
IsInserted false user users answer after = IsEntry (users_after_entry user users) users answer after

-- by whether there is room for the update, and whether it says the nick: memory may run out before the latter is known
abbrev pub IsMerged : Bool → Bool → ℕ → List Field → Option (List ℕ) → List Listed → CommandAnswer → List Listed → Type 0
IsMerged false says sid update nick users answer after = IsLookUp Skipped users answer after
IsMerged true false sid update nick users answer after = IsLookUp Skipped users answer after ⊎ IsLookUp (Refused Memory) users answer after
IsMerged true true sid update nick users answer after = IsChange (users_after_update sid update (given_key nick) users) users answer after

-- how a command is answered, and what it leaves
abbrev pub AnswersCommand : List Listed → Command → CommandAnswer → List Listed → Type 0
AnswersCommand users (Insert user) answer after = IsInserted (is_some (user_by_sid user.sid users)) user users answer after
AnswersCommand users (Remove sid) answer after = (answer ≡ Found (sid_of (user_by_sid sid users))) × (after ≡ without_sid sid users)
AnswersCommand users (MergeInfo sid update nick) answer after = IsMerged (takes_update sid update users) (says_nick nick update) sid update nick users answer after
AnswersCommand users (BySid sid) answer after = IsLookUp (Found (sid_of (user_by_sid sid users))) users answer after
AnswersCommand users (ByCid cid) answer after = IsLookUp (Found (sid_of (user_by_cid cid users))) users answer after
AnswersCommand users (ByNick key) answer after = IsLookUp (Found (sid_of (user_by_key (string_bytes key) users))) users answer after
AnswersCommand users (At place) answer after = IsLookUp (Found (sid_of (slice_get users place))) users answer after
AnswersCommand users Count answer after = IsLookUp (Counted (totals_of users)) users answer after

-- the answers to commands that are made in turn, and whom they leave
unfoldable pub HaveRun : List Listed → List Command → List CommandAnswer → List Listed → Type 0
HaveRun users [] [] after = after ≡ users
HaveRun users [] (answer ∷ answers) after = ⊥
HaveRun users (command ∷ commands) [] after = ⊥
HaveRun users (command ∷ commands) (answer ∷ answers) after = (next : List Listed) × AnswersCommand users command answer next × HaveRun next commands answers after
