-- The messages that the hub itself writes, each with its line feed (ADC 1.0, "Actions"; ADC-EXT, "PING" and "UCMD").
use Rattle.std.specs.Prelude.{ℕ, ◌==◌, List, [], ◌∷◌, ◌++◌, codes, length, Option, if◌then◌else◌}
use Rattle.std.specs.Option.{option_map_or}
use Rattle.std.specs.Fmt.{decimal}
use Rattle.adc_base32.specs.Sids.{sid_text}
use Rattle.adc_base32.specs.Spelled.{spelling}
use Rattle.adc_line.specs.Escapes.{escaped_text}
use Rattle.inf_fields.specs.Field.{Field, printed_fields}
use Rattle.user_table.specs.declared.totals.Totals.{Totals}
use Rattle.hub_rules.specs.Configured.{ConfiguredAccount, Configured, ConfiguredEntry}

-- a message is its text and a line feed
abbrev pub with_line_feed : List ℕ → List ℕ
with_line_feed text = text ++ 10 ∷ []

-- what the hub supports
unfoldable pub support_line : List ℕ
support_line = with_line_feed (codes "ISUP ADBASE ADTIGR ADPING ADUCMD")

-- the client's session identifier
unfoldable pub identifier_line : ℕ → List ℕ
identifier_line sid = with_line_feed (codes "ISID " ++ sid_text sid)

-- a text, where there is one
abbrev pub text_field : List ℕ → List ℕ → List ℕ
text_field name text = if length text == 0 then [] else name ++ escaped_text text

-- what a client hears that asked about the hub: how many users are present and what they share, how many may come, how long the hub is open
abbrev pub ping_fields : Totals → ℕ → ℕ → List ℕ
ping_fields totals max_users seconds =
    codes " UC" ++ decimal totals.users ++ codes " SS" ++ decimal totals.ss ++ codes " SF" ++ decimal totals.sf
    ++ codes " MC" ++ decimal max_users ++ codes " UP" ++ decimal seconds

-- the hub itself
unfoldable pub hub_line : Configured → List ℕ → List ℕ → List ℕ
hub_line setup topic ping = with_line_feed (codes "IINF CT32 NI" ++ escaped_text setup.name ++ codes " VEadc-hub\\s1.0" ++ text_field (codes " DE") topic ++ ping)

-- a new topic
unfoldable pub topic_line : List ℕ → List ℕ
topic_line topic = with_line_feed (codes "IINF DE" ++ escaped_text topic)

-- the challenge with which a password is to be hashed
unfoldable pub challenge_line : List ℕ → List ℕ
challenge_line challenge = with_line_feed (codes "IGPA " ++ spelling challenge)

-- what the hub says of a client: 4 is an operator, 2 a registered user
abbrev pub client_type : Option ConfiguredAccount → List ℕ
client_type account = option_map_or (λ (a : ConfiguredAccount). if a.operator then codes " CT4" else codes " CT2") account []

-- a user, with what the hub says of it
unfoldable pub user_line : ℕ → List Field → Option ConfiguredAccount → List ℕ
user_line sid fields account = with_line_feed (codes "BINF " ++ sid_text sid ++ printed_fields fields ++ client_type account)

-- what changes of a user
unfoldable pub update_line : ℕ → List Field → List ℕ
update_line sid fields = with_line_feed (codes "BINF " ++ sid_text sid ++ printed_fields fields)

abbrev pub menu_item : Option (List ℕ) → List ℕ
menu_item text = option_map_or (λ (t : List ℕ). codes " TT" ++ escaped_text t) text (codes " SP1")

-- an entry for the client's menus
unfoldable pub menu_line : ConfiguredEntry → List ℕ
menu_line entry = with_line_feed (codes "ICMD " ++ escaped_text entry.name ++ codes " CT" ++ decimal entry.context ++ menu_item entry.text)

-- how long a user is shut out: for good, for so many seconds, or only for now
abbrev pub ban_field : Option ℕ → List ℕ
ban_field seconds = option_map_or (λ (n : ℕ). if n == 0 then codes " TL-1" else codes " TL" ++ decimal n) seconds []

-- an operator shut a user out
unfoldable pub removal_line : ℕ → ℕ → Option ℕ → List ℕ → List ℕ
removal_line target operator seconds reason =
    with_line_feed (codes "IQUI " ++ sid_text target ++ codes " ID" ++ sid_text operator ++ ban_field seconds ++ text_field (codes " MS") reason)

-- an operator's command was carried out
unfoldable pub done_line : List ℕ
done_line = with_line_feed (codes "ISTA 000 Done")
