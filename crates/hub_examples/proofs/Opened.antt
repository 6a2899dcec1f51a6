-- Everything that has to be opened so that the checker can compute what a line comes to.
use Rattle.std.specs.Char.{encode_utf8}
use Rattle.std.specs.Str.{chars, is_utf8}
use Rattle.std.specs.Fmt.{digits}
use Rattle.adc_base32.specs.Bits.{bits, value_of}
use Rattle.adc_base32.specs.Digits.{digit_of, value_at}
use Rattle.adc_base32.specs.Sids.{sid_at}
use Rattle.adc_base32.specs.Spelled.{number_from, numbers_from, spelled_bytes, spelling}
use Rattle.adc_ids.specs.Nicks.{is_nick}
use Rattle.adc_line.specs.Escapes.{escape_means, escaped_text, is_escaped, unescaped_text}
use Rattle.adc_line.specs.Header.{are_features, head_at, header_at, is_feature_name, is_feature_word, kind_at}
use Rattle.adc_line.specs.Lines.{reading}
use Rattle.adc_line.specs.Parameters.{params_fault}
use Rattle.feature_route.specs.Audiences.{audience, holds_words}
use Rattle.feature_route.specs.Matching.{meets}
use Rattle.feature_route.specs.Wants.{names_after, wants_of}
use Rattle.inf_fields.specs.Amounts.{number_at}
use Rattle.inf_fields.specs.Cleaning.{clean, dotted_decimal}
use Rattle.inf_fields.specs.Field.{printed_fields}
use Rattle.inf_fields.specs.Merging.{merged_with}
use Rattle.inf_fields.specs.Updates as updates
use Rattle.login_state.specs.Denials.{denial_text}
use Rattle.login_state.specs.Mentions.{feature_named, mention_at}
use Rattle.login_state.specs.Requests.{request_at}
use Rattle.login_state.specs.Support.{features_left, mentions_in, supported_after}
use Rattle.login_state.specs.SupportAnswers.{support_after}
use Rattle.operator_acts.specs.Acts.{act_at, act_of, nick_at, seconds_at}
use Rattle.operator_acts.specs.Bans.{left_of_bans}
use Rattle.unicode_normalization.proofs.Computing.{unicode_normalization}
use Rattle.hub_rules.specs.Accounts.{account_with}
use Rattle.hub_rules.specs.Acts.{act_denied, act_effect}
use Rattle.hub_rules.specs.Denied.{request_denied}
use Rattle.hub_rules.specs.Effects.{accepted_effect, denial}
use Rattle.hub_rules.specs.Grounds.{entry_grounds, login_grounds, update_grounds}
use Rattle.hub_rules.specs.Identities.{listed_user}
use Rattle.hub_rules.specs.Shares.{lags_with, owed_with}
use Rattle.hub_rules.specs.Texts.{challenge_line, done_line, hub_line, identifier_line, menu_line, removal_line, support_line, topic_line, update_line, user_line}

-- what characters and bytes are
unfoldable texts : Unit {0}
unfolding encode_utf8 chars is_utf8 digits unicode_normalization
texts = tt

-- base32 and session identifiers
unfoldable base32 : Unit {0}
unfolding bits value_of digit_of value_at sid_at number_from numbers_from spelled_bytes spelling
base32 = tt

-- the words of a line
unfoldable words : Unit {0}
unfolding is_nick escape_means escaped_text is_escaped unescaped_text kind_at head_at header_at are_features params_fault reading
words = tt

-- fields
unfoldable fields : Unit {0}
unfolding number_at clean dotted_decimal printed_fields merged_with updates.is_named updates.reading updates.update
fields = tt

-- features and audiences
unfoldable features : Unit {0}
unfolding is_feature_name is_feature_word feature_named mention_at mentions_in features_left supported_after support_after names_after wants_of meets holds_words audience
features = tt

-- what is asked for, and why it is denied
unfoldable denials : Unit {0}
unfolding request_at denial_text denial request_denied login_grounds entry_grounds update_grounds act_denied account_with left_of_bans
denials = tt

-- what a line leads to
unfoldable effects : Unit {0}
unfolding act_at act_of nick_at seconds_at act_effect accepted_effect listed_user owed_with lags_with
effects = tt

-- the lines of the hub
unfoldable replies : Unit {0}
unfolding support_line identifier_line hub_line topic_line challenge_line user_line update_line menu_line removal_line done_line
replies = tt

-- `unfolding computing` lets `refl` compute what a conversation comes to
unfoldable pub computing : Unit {0}
unfolding texts base32 words fields features denials effects replies
computing = tt
