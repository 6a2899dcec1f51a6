-- The checks deny what the grounds deny: each check as its ground does, where none before it holds.
use Rattle.std.proofs.Common.{◌≡◌, ◌∙◌, ap, refl, sym, ℕ, ◌==◌, Bool, true, false, not, ◌&&◌, ◌||◌, List, [], ◌∷◌, length, Option, Some, None, is_some, unwrap_or, arith}
use Rattle.std.specs.Prelude.{chars, codes, map, if◌then◌else◌}
use Rattle.std.specs.List.{find}
use Rattle.std.specs.Option.{option_map}
use Rattle.std.specs.Str.{bytes_eq}
use Rattle.std.proofs.lemmas.Bool.{eqb-true, false≢true}
use Rattle.std.proofs.lemmas.Slice.Eq.{bytes_eq-Decides}
use Rattle.adc_base32.specs.Spelled.{spelled_bytes}
use Rattle.adc_ids.specs.Nicks.{is_nick}
use Rattle.inf_fields.specs.Cleaning.{any_address, clean, dotted_decimal}
use Rattle.inf_fields.specs.Field.{Field, value_of}
use Rattle.inf_fields.specs.FieldNames.{id_name, private_id_name, nick_name, address_name}
use Rattle.inf_fields.specs.Merging.{fits}
use Rattle.login_state.specs.declared.deny.Deny.{Deny}
use Rattle.login_state.specs.declared.deny.Deny.TheVariants as denials
use Rattle.login_state.specs.declared.deny.Severity.{Severity}
use Rattle.login_state.specs.declared.deny.Severity.TheVariants.{Fatal, Recoverable}
use Rattle.login_state.specs.declared.findings.Admission.TheVariants.{Admitted, RegisteredOnly}
use Rattle.login_state.specs.declared.findings.Account.TheVariants.{Touched, Untouched}
use Rattle.login_state.specs.declared.findings.Address.TheVariants.{Right, Wrong}
use Rattle.login_state.specs.declared.findings.Identity.TheVariants.{Foreign, Own}
use Rattle.login_state.specs.declared.findings.Size.TheVariants.{Fits, TooMany}
use Rattle.login_state.specs.declared.named_field.NamedField.{NamedField}
use Rattle.login_state.specs.declared.named_field.NamedField.TheVariants as fields
use Rattle.login_state.specs.Checks.{first_denial}
use Rattle.login_state.specs.Mentions.{base, tigr}
use Rattle.login_state.specs.NamedFields.{checked_fields}
use Rattle.login_state.specs.Orders.{entry_rules, inf_rules, pass_rules, sup_rules, update_rules}
use Rattle.login_state.specs.Rules.{account_touched, bad_nick, bad_nick_of_login, bad_required, bad_value, ban_denial, cid_taken, first_bad, foreign_id, foreign_pid, missing, nick_taken, too_many_fields, unless, registration_denial, wrong_address}
use Rattle.login_state.specs.Support.{has_feature}
use Rattle.operator_acts.specs.Bans.{left_of_bans}
use Rattle.operator_acts.specs.declared.left.Left.{Left}
use Rattle.operator_acts.specs.declared.left.Left.TheVariants as lefts
use Rattle.user_table.specs.Listed.{Listed}
use Rattle.user_table.specs.Tables.{has_cid, has_key}
use Rattle.hub_rules.specs.Grounds.{differs, entry_grounds, first_ground, ban_ground, is_bad, is_bad_nick, is_digest, is_empty, is_wrong_address, login_grounds, sup_grounds, touches_account, update_grounds, value_ground}
use Rattle.hub_rules.specs.Identities.{value_or_empty, key_in, nick_in}
use Rattle.hub_rules.specs.Views as sights
use Rattle.hub_rules.specs.Views.{HubView, another_has_key, is_account, is_here}
use Rattle.hub_decisions.specs.Asks.{address_found, ban_found, denial_of, entry_ask, good_if, login_ask, nick_found, own_if_given, required_found, taken_if, update_ask, values_found}

-- what a rule answers whose ground this is
abbrev deny_if : Bool → Deny → Option Deny
deny_if true deny = Some deny
deny_if false deny = None

abbrev Agree : List (Option Deny) → List (Bool × Deny) → Type 0
Agree rules grounds = denial_of (first_denial rules) ≡ first_ground grounds

-- a rule before others
step : (test : Bool) (deny : Deny) (rule : Option Deny) (grounds : List (Bool × Deny)) (rules : List (Option Deny)) → rule ≡ deny_if test deny → (test ≡ false → Agree rules grounds)
    → Agree (rule ∷ rules) ((test, deny) ∷ grounds)
step true deny rule grounds rules is later = ap (λ r. denial_of (first_denial (r ∷ rules))) is
step false deny rule grounds rules is later = ap (λ r. denial_of (first_denial (r ∷ rules))) is ∙ later refl

-- ---- one rule

missing-if : (valid : Bool) (value : List ℕ) (field : NamedField) → missing (required_found valid value) field ≡ deny_if (is_empty value) (denials.Missing field)
missing-if valid [] field = refl
missing-if true (b ∷ more) field = refl
missing-if false (b ∷ more) field = refl

bad-if : (valid : Bool) (value : List ℕ) (field : NamedField) → is_empty value ≡ false → bad_required (required_found valid value) field ≡ deny_if (not valid) (denials.BadField Fatal field)
bad-if valid [] field some = absurd (false≢true (sym some))
bad-if true (b ∷ more) field some = refl
bad-if false (b ∷ more) field some = refl

nick-if : (valid : Bool) (value : List ℕ) → is_empty value ≡ false → bad_nick_of_login (required_found valid value) ≡ deny_if (not valid) (denials.BadNick Fatal)
nick-if valid [] some = absurd (false≢true (sym some))
nick-if true (b ∷ more) some = refl
nick-if false (b ∷ more) some = refl

first-value : (is_bad : NamedField → Bool) (test : Bool) (field : NamedField) (more : List NamedField) → is_bad field ≡ test
    → first_bad more (map (λ f. good_if (not (is_bad f))) more) ≡ find is_bad more
    → first_bad (field ∷ more) (good_if (not test) ∷ map (λ f. good_if (not (is_bad f))) more) ≡ find is_bad (field ∷ more)
first-value is_bad true field more is later = rw is refl
first-value is_bad false field more is later = rw is later

first-bad : (is_bad : NamedField → Bool) (fields : List NamedField) → first_bad fields (map (λ f. good_if (not (is_bad f))) fields) ≡ find is_bad fields
first-bad is_bad [] = refl
first-bad is_bad (field ∷ more) = first-value is_bad (is_bad field) field more refl (first-bad is_bad more)

-- the first of the checked fields with a bad value
found-step : (severity : Severity) (found : Option NamedField) (grounds : List (Bool × Deny)) (rules : List (Option Deny)) → Agree rules grounds
    → Agree (option_map (denials.BadField severity) found ∷ rules) ((is_some found, denials.BadField severity (unwrap_or found fields.Id)) ∷ grounds)
found-step severity None grounds rules later = later
found-step severity (Some field) grounds rules later = refl

value-step : (severity : Severity) (u : List Field) (grounds : List (Bool × Deny)) (rules : List (Option Deny)) → Agree rules grounds
    → Agree (bad_value severity (values_found u) ∷ rules) (value_ground severity u ∷ grounds)
value-step severity u grounds rules later =
    ap (λ found. denial_of (first_denial (option_map (denials.BadField severity) found ∷ rules))) (first-bad (is_bad u) checked_fields)
    ∙ found-step severity (find (is_bad u) checked_fields) grounds rules later

identity-if : (same : Bool) → foreign_pid (if same then Own else Foreign) ≡ deny_if (not same) denials.BadPid
identity-if true = refl
identity-if false = refl

length-if : (value : List ℕ) (zero : Bool) → (length value == 0) ≡ zero → is_empty value ≡ zero
length-if [] zero is = is
length-if (b ∷ more) true is = let e : length (b ∷ more) ≡ 0 = eqb-true (length (b ∷ more)) 0 is in absurd (omega (arith, e))
length-if (b ∷ more) false is = refl

wrong-if : (severity : Severity) (peer : List ℕ) (right : Bool) → wrong_address severity (if right then Right else Wrong peer) ≡ deny_if (not right) (denials.Address severity peer)
wrong-if severity peer true = refl
wrong-if severity peer false = refl

address-if : (severity : Severity) (peer address : List ℕ) → wrong_address severity (address_found peer address) ≡ deny_if (is_wrong_address peer address) (denials.Address severity peer)
address-if severity peer address =
    wrong-if severity peer (length address == 0 || bytes_eq address any_address || bytes_eq address (dotted_decimal peer))
    ∙ ap (λ b. deny_if (not (b || bytes_eq address any_address || bytes_eq address (dotted_decimal peer))) (denials.Address severity peer)) (sym (length-if address (length address == 0) refl))

admission-if : (barred : Bool) → registration_denial (if barred then RegisteredOnly else Admitted) ≡ deny_if barred denials.Registered
admission-if true = refl
admission-if false = refl

taken-nick : (severity : Severity) (taken : Bool) → nick_taken severity (taken_if taken) ≡ deny_if taken (denials.NickTaken severity)
taken-nick severity true = refl
taken-nick severity false = refl

taken-cid : (taken : Bool) → cid_taken (taken_if taken) ≡ deny_if taken denials.CidTaken
taken-cid true = refl
taken-cid false = refl

-- a ban is for good, or for a time
ban-step : (l : Left) (grounds : List (Bool × Deny)) (rules : List (Option Deny)) → Agree rules grounds
    → Agree (ban_denial (ban_found l) ∷ rules) (ban_ground l ∷ grounds)
ban-step lefts.Free grounds rules later = later
ban-step (lefts.For seconds) grounds rules later = refl
ban-step lefts.Ever grounds rules later = refl

-- ---- SUP, entries and passwords

unless-if : (b : Bool) (deny : Deny) → unless b deny ≡ deny_if (not b) deny
unless-if true deny = refl
unless-if false deny = refl

pub sup-grounds : (features : List (List ℕ)) → Agree (sup_rules features) (sup_grounds features)
sup-grounds features =
    step (not (has_feature base features)) denials.NoBase _ _ _ (unless-if (has_feature base features) denials.NoBase)
    (λ has. step (not (has_feature tigr features)) denials.NoHash _ _ _ (unless-if (has_feature tigr features) denials.NoHash) (λ both. refl))

pub entry-grounds : (hub : HubView) (now : ℕ) (user : Listed) → Agree (entry_rules (entry_ask hub now user)) (entry_grounds hub now user)
unfolding entry_grounds entry_ask
entry-grounds hub now user =
    ban-step (left_of_bans hub.bans user.cid now) _ _
    (step (is_here (has_key user.key) hub) (denials.NickTaken Fatal) _ _ _ (taken-nick Fatal (is_here (has_key user.key) hub))
    (λ nick. step (is_here (has_cid user.cid) hub) denials.CidTaken _ _ _ (taken-cid (is_here (has_cid user.cid) hub)) (λ cid. refl)))

pub password-grounds : (expected : List ℕ) (digest : Option (List ℕ)) → Agree (pass_rules expected digest) ((not (is_digest expected digest), denials.Password) ∷ [])
password-grounds expected None = refl
password-grounds expected (Some digest) = step (not (bytes_eq digest expected)) denials.Password _ _ _ (unless-if (bytes_eq digest expected) denials.Password) (λ right. refl)

-- ---- logins

pub login-grounds : (hub : HubView) (own : sights.SenderView) (now : ℕ) (digest : Option (List ℕ)) (u : List Field) (user : Listed)
    → Agree (inf_rules (login_ask hub now own.sender.peer digest u user)) (login_grounds hub own now digest u user)
unfolding login_ask login_grounds entry_ask
login-grounds hub own now digest u user =
    let id = value_or_empty id_name u in
    let pid = value_or_empty private_id_name u in
    let nick = value_or_empty nick_name u in
    let cid = spelled_bytes 24 id in
    let is_nick_good = is_nick (chars (nick_in u)) in
    let barred = hub.setup.plain.registered_only && not (is_account hub user.key) in
    step (is_empty id) (denials.Missing fields.Id) _ _ _ (missing-if (is_some cid) id fields.Id) (λ has_id.
    step (is_empty pid) (denials.Missing fields.PrivateId) _ _ _ (missing-if (is_some digest) pid fields.PrivateId) (λ has_pid.
    step (is_empty nick) (denials.Missing fields.Nick) _ _ _ (missing-if is_nick_good nick fields.Nick) (λ has_nick.
    step (not (is_some cid)) (denials.BadField Fatal fields.Id) _ _ _ (bad-if (is_some cid) id fields.Id has_id) (λ is_cid.
    step (not (is_some digest)) (denials.BadField Fatal fields.PrivateId) _ _ _ (bad-if (is_some digest) pid fields.PrivateId has_pid) (λ is_pid.
    value-step Fatal u _ _ (
    step (not (is_digest user.cid digest)) denials.BadPid _ _ _ (identity-if (is_digest user.cid digest)) (λ own_pid.
    step (not is_nick_good) (denials.BadNick Fatal) _ _ _ (nick-if is_nick_good nick has_nick) (λ good_nick.
    ban-step (left_of_bans hub.bans user.cid now) _ _
    (step (is_wrong_address own.sender.peer (value_or_empty address_name u)) (denials.Address Fatal own.sender.peer) _ _ _ (address-if Fatal own.sender.peer (value_or_empty address_name u)) (λ address.
    step barred denials.Registered _ _ _ (admission-if barred) (λ admitted.
    step (is_here (has_key user.key) hub) (denials.NickTaken Fatal) _ _ _ (taken-nick Fatal (is_here (has_key user.key) hub)) (λ free_nick.
    step (is_here (has_cid user.cid) hub) denials.CidTaken _ _ _ (taken-cid (is_here (has_cid user.cid) hub)) (λ free_cid. refl)))))))))))))

-- ---- updates

own-if : (same : Bool) → foreign_id (if same then Own else Foreign) ≡ deny_if (not same) (denials.BadField Recoverable fields.Id)
own-if true = refl
own-if false = refl

same-bytes : (value : List ℕ) → bytes_eq value value ≡ true
same-bytes value = (bytes_eq-Decides value value).1 refl

id-if : (known : List Field) (id : Option (List ℕ))
    → foreign_id (own_if_given known id) ≡ deny_if (differs (unwrap_or id (value_or_empty id_name known)) (value_or_empty id_name known)) (denials.BadField Recoverable fields.Id)
id-if known None = ap (λ b. deny_if (not b) (denials.BadField Recoverable fields.Id)) (sym (same-bytes (value_or_empty id_name known)))
id-if known (Some id) = own-if (bytes_eq id (value_or_empty id_name known))

good-nick : (good : Bool) → bad_nick (good_if good) ≡ deny_if (not good) (denials.BadNick Recoverable)
good-nick true = refl
good-nick false = refl

new-nick-if : (nick : Option (List ℕ)) → bad_nick (nick_found nick) ≡ deny_if (is_bad_nick nick) (denials.BadNick Recoverable)
new-nick-if None = refl
new-nick-if (Some nick) = good-nick _

account-if : (touched : Bool) → account_touched (if touched then Touched else Untouched) ≡ deny_if touched (denials.Access (codes "BINF"))
account-if true = refl
account-if false = refl

size-if : (few : Bool) → too_many_fields (if few then Fits else TooMany) ≡ deny_if (not few) denials.Protocol
size-if true = refl
size-if false = refl

pub update-grounds : (hub : HubView) (own : sights.SenderView) (u : List Field) (user : Listed) → Agree (update_rules (update_ask hub own u user)) (update_grounds hub own u user)
unfolding update_ask update_grounds
update-grounds hub own u user =
    let touched = touches_account hub (key_in own.fields) user.key in
    let few = fits own.fields (clean u own.sender.peer) in
    step (differs (unwrap_or (value_of id_name u) (value_or_empty id_name own.fields)) (value_or_empty id_name own.fields)) (denials.BadField Recoverable fields.Id) _ _ _ (id-if own.fields (value_of id_name u)) (λ own_id.
    value-step Recoverable u _ _ (
    step (is_bad_nick (value_of nick_name u)) (denials.BadNick Recoverable) _ _ _ (new-nick-if (value_of nick_name u)) (λ nick.
    step touched (denials.Access (codes "BINF")) _ _ _ (account-if touched) (λ account.
    step (is_wrong_address own.sender.peer (value_or_empty address_name u)) (denials.Address Recoverable own.sender.peer) _ _ _ (address-if Recoverable own.sender.peer (value_or_empty address_name u)) (λ address.
    step (not few) denials.Protocol _ _ _ (size-if few) (λ fitting.
    step (another_has_key hub own.sender.sid user.key) (denials.NickTaken Recoverable) _ _ _ (taken-nick Recoverable (another_has_key hub own.sender.sid user.key)) (λ free. refl)))))))
