-- The words of the rules, and of what holds after every call, that more than one law is about: each file of this folder takes those that it uses from here.
pub use Rattle.adc_line.proofs.ReadsLemmas.{Reads-of}
pub use Rattle.adc_line.specs.Grammar.{IsAddressed}
pub use Rattle.adc_line.specs.Lines.{Reading}
pub use Rattle.adc_line.specs.declared.fault.LineFault.{LineFault}
pub use Rattle.adc_line.specs.declared.header.Kind.{Kind}
pub use Rattle.feature_route.specs.Audiences.{by_kind, holds}
unfoldable pub use Rattle.feature_route.specs.Audiences.{audience, holds_words}
pub use Rattle.hub_invariants.proofs.CallCases.{Becomes, about-parts, about_parts, becomes, happens-parts, happens_parts, present_parts, take-facts, taken_by}
pub use Rattle.hub_invariants.proofs.Calls.{absent-newcomer, present-over, sound_of}
pub use Rattle.hub_invariants.proofs.Claims.{AllFalse, Unclaimed, dropped, grounds_of, login-free, none-of, password-entry, password-free, same-cid, update-free}
pub use Rattle.hub_invariants.proofs.Fits.{Fits, fits-departure}
pub use Rattle.hub_invariants.proofs.Kept.{differs-sid, few_are_open, fresh-taken, given-bytes, is-normal, joins-grow, others_are_out, present_are_users, sids_are_given}
pub use Rattle.hub_invariants.proofs.Kept.{sids_differ, taken_is_the_sum, users_are_open}
pub use Rattle.hub_invariants.proofs.Lines.{fits-line}
pub use Rattle.hub_invariants.proofs.Members.{and-false, has, has-append, has-filter, or-parts}
pub use Rattle.hub_invariants.proofs.Outcomes.{Asked, Does, Logs, Outcome, acts, bans_user, by-request, chats, denies, greets, ignores, kicks, later-none, learns, lets_in, line-outcome, outcome, passes}
pub use Rattle.hub_invariants.proofs.Outcomes.{proves, quiet, request-asks, request_in, revises, is_silent, searches, sets_topic, shuts_out, silent, silent-keeps, waits}
pub use Rattle.hub_invariants.proofs.AcceptedLines.{features_are_last_added, info_is_merged, over-beyond, said-read, said_by, same-chosen, told_of, unheard}
pub use Rattle.hub_invariants.proofs.Sound.{Sound, eqb-sym, happens-open, parts-open, happens-sound, not-over, or-true}
pub use Rattle.hub_invariants.proofs.Sound.{stage_next}
pub use Rattle.hub_invariants.proofs.Suits.{listed-sid}
pub use Rattle.hub_invariants.proofs.Tidy.{Tidy, is_unnamed, tidy_of}
pub use Rattle.hub_rules.proofs.Merges.{given-after}
pub use Rattle.operator_acts.specs.declared.act.Act.{Act}
pub use Rattle.hub_rules.specs.Accounts.{operates}
unfoldable pub use Rattle.hub_rules.specs.Accounts.{account_with}
pub use Rattle.hub_rules.specs.Acts.{Done, answer_to, effect_by, effect_for_all, is_command, is_operator, text_in, user_called}
unfoldable pub use Rattle.hub_rules.specs.Acts.{act_denied, act_effect}
pub use Rattle.hub_rules.specs.Configured.{ConfiguredAccount, Configured, most_users}
pub use Rattle.hub_rules.specs.Denied.{denial_of, digest_given, login_denied, password_denied, update_denied}
unfoldable pub use Rattle.hub_rules.specs.Denied.{request_denied}
pub use Rattle.hub_rules.specs.Effects.{admits, departure, effect_of_reading, entrant, farewell, is_over, is_present, is_target_here, line_of, line_unless_empty, logs_in}
pub use Rattle.hub_rules.specs.Effects.{passes_on, revision, tells_others, tells_sender, unless_denied, update_effect, updates_user}
unfoldable pub use Rattle.hub_rules.specs.Effects.{accepted_effect, denial, line_effect}
pub use Rattle.hub_rules.specs.Facts.{Facts, about_after, bans_after, effect_of_line, enters, has_joins, has_place, newcomer, next_sid, own_of, present_after, sight_of}
pub use Rattle.hub_rules.specs.Facts.{topic_after, user_of, with_lines_taken}
unfoldable pub use Rattle.hub_rules.specs.Facts.{after, facts, happens, with_connection, without_connection}
pub use Rattle.hub_rules.specs.Grounds.{ban_ground, differs, first_ground, is_digest, is_empty, is_wrong_address, password_grounds, touches_account}
unfoldable pub use Rattle.hub_rules.specs.Grounds.{entry_grounds, login_grounds, update_grounds}
pub use Rattle.hub_rules.specs.History.{info, lags, lines_owed, sid, stage}
pub use Rattle.hub_rules.specs.Identities.{cid_in, key_in, key_of, key_of_points, meaning, su_in, value_or_empty}
unfoldable pub use Rattle.hub_rules.specs.Identities.{listed_user}
pub use Rattle.hub_invariants.specs.Lag.{LagIsTheFirst, OwedAreShares, share}
unfoldable pub use Rattle.hub_invariants.specs.Lag.{all_fit, shares_that_fit}
pub use Rattle.hub_rules.specs.Legal.{join_reply, take_reply}
unfoldable pub use Rattle.hub_rules.specs.Legal.{Legal, reply}
pub use Rattle.hub_rules.specs.Prepared.{is_broadcast, password_digest, password_of, update_of}
unfoldable pub use Rattle.hub_rules.specs.Prepared.{prepared_line}
pub use Rattle.hub_rules.specs.Quiet.{nothing}
pub use Rattle.hub_rules.specs.Requests.{names_another, refusal_of, request_of}
pub use Rattle.hub_invariants.specs.Said.{cleaned_update, inf_update, infs, listed_if, read_by}
unfoldable pub use Rattle.hub_invariants.specs.Said.{accepted_line}
pub use Rattle.hub_rules.specs.Shares.{ConnState, affected_connection, has_room_for, hears_those, owes}
pub use Rattle.hub_invariants.specs.Afterwards.{affected_parts, expected_after, fields_after, is_removed}
pub use Rattle.hub_invariants.specs.Afterwards.{features_after, notes_at, own_change, searched_after}
pub use Rattle.hub_rules.specs.Shares.{waiting}
pub use Rattle.hub_invariants.specs.Afterwards.{removed_by, stage_after}
unfoldable pub use Rattle.hub_rules.specs.Shares.{lags_with, owed_with}
pub use Rattle.hub_rules.specs.Views.{SenderView, PreparedLine, HubView, account_of, another_has_key, is_account, is_here, user_after}
pub use Rattle.hub_rules.specs.Texts.{challenge_line, client_type, done_line, menu_line, removal_line, with_line_feed}
unfoldable pub use Rattle.hub_rules.specs.Texts.{hub_line, user_line}
pub use Rattle.hub_invariants.specs.World.{BanIsTheLastAct, TopicIsTheLast, ban_act_of, change_of, first_or, topic_act_of}
unfoldable pub use Rattle.hub_invariants.specs.World.{ban_acts, topic_acts}
pub use Rattle.hub_rules.specs.declared.effect.Change.{Change}
pub use Rattle.hub_rules.specs.declared.effect.Change.TheVariants.{Hub, Nothing, Sender}
pub use Rattle.hub_rules.specs.declared.effect.Effect.{Effect}
pub use Rattle.hub_rules.specs.declared.effect.Hearers.{Hearers}
pub use Rattle.hub_rules.specs.declared.effect.Hearers.TheVariants.{Others, Those}
pub use Rattle.hub_rules.specs.declared.effect.HubChange.{HubChange}
pub use Rattle.hub_rules.specs.declared.history.Call.{Call}
pub use Rattle.hub_rules.specs.declared.history.Call.TheVariants.{Join, Line, Quit, Take}
pub use Rattle.hub_rules.specs.declared.history.Entry.{Entry}
pub use Rattle.inf_fields.specs.Cleaning.{any_address, asks_for_address, dotted_decimal, is_held_back, with_address}
unfoldable pub use Rattle.inf_fields.specs.Cleaning.{clean}
pub use Rattle.inf_fields.specs.Field.{Field, besides, field, has_name, is_called, value_of}
pub use Rattle.inf_fields.specs.FieldNames.{address_name, nick_name, share_size_name, shared_files_name}
pub use Rattle.inf_fields.specs.Merging.{followed_by, is_empty_value, latest, leave, renewed, settled_fields}
unfoldable pub use Rattle.inf_fields.specs.Merging.{merged_fields, merged_with}
pub use Rattle.login_state.specs.Mentions.{ucmd}
unfoldable pub use Rattle.login_state.specs.Requests.{request_at}
pub use Rattle.login_state.specs.Support.{has_feature}
pub use Rattle.login_state.specs.declared.deny.Deny.{Deny}
pub use Rattle.login_state.specs.declared.request.Request.{Request}
pub use Rattle.login_state.specs.declared.stage.Stage.{Stage}
pub use Rattle.operator_acts.specs.BanHistory.{act_on}
pub use Rattle.operator_acts.specs.Bans.{ban_on, cid_cmp, is_full, left_of_bans, max_bans, with_ban, without_ban}
pub use Rattle.operator_acts.specs.declared.ban.Ban.{Ban}
pub use Rattle.outboxes.specs.Quits.{quit_line}
pub use Rattle.std.proofs.lemmas.Bool.{and_parts, eq-eqb, eqb-true, false≢true}
pub use Rattle.std.proofs.lemmas.List.{length-map, take-append-le}
pub use Rattle.std.proofs.lemmas.List.Sums.{fold-append, sum_by-cons}
pub use Rattle.std.proofs.lemmas.Slice.Eq.{bytes_eq-Decides}
pub use Rattle.std.specs.List.{AllByRecursion, concat, find, list_all, list_any, sum_by}
pub use Rattle.std.specs.Option.{option_map, option_or, unwrap_or}
pub use Rattle.std.specs.Prelude.{None, Ok, Some, codes, cond, if◌then◌else◌, is_some, ◌⊎◌}
unfoldable pub use Rattle.std.specs.Str.{chars}
pub use Rattle.std.specs.Result.{result_unwrap_or}
pub use Rattle.std.specs.Str.{bytes_eq}
unfoldable pub use Rattle.std.specs.Str.{is_utf8}
pub use Rattle.user_table.specs.Listed.{Listed}
pub use Rattle.user_table.specs.Tables.{amount, changed_key, has_cid, has_key, has_sid, user_by_key, with_update}
pub use Rattle.adc_line.specs.Lines as lines
pub use Rattle.adc_line.specs.declared.header.Kind.TheVariants as kinds
pub use Rattle.feature_route.specs.declared.receivers.Audience.TheVariants as audiences
pub use Rattle.hub_rules.specs.declared.effect.HubChange.TheVariants as shared
pub use Rattle.hub_rules.specs.declared.sender.SeatChange.TheVariants as seats
pub use Rattle.hub_rules.specs.declared.effect.SenderChange.TheVariants as senders
pub use Rattle.inf_fields.specs.Updates as updates
pub use Rattle.login_state.specs.declared.deny.Deny.TheVariants as denials
pub use Rattle.login_state.specs.declared.request.Request.TheVariants as requests
pub use Rattle.login_state.specs.declared.stage.Stage.TheVariants as stages
pub use Rattle.operator_acts.specs.declared.left.Left.TheVariants as lefts
