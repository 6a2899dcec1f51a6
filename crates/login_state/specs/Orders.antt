-- The checks of each command, in the order in which they are looked at (ADC 1.0, "SUP", "INF", "PAS").
use Rattle.std.specs.Prelude.{ℕ, List, [], ◌∷◌, Option}
use Rattle.login_state.specs.declared.asks.EntryAsk.{EntryAsk}
use Rattle.login_state.specs.declared.asks.InfAsk.{InfAsk}
use Rattle.login_state.specs.declared.asks.UpdateAsk.{UpdateAsk}
use Rattle.login_state.specs.declared.named_field.NamedField.TheVariants as fields
use Rattle.login_state.specs.declared.deny.Deny.{Deny}
use Rattle.login_state.specs.declared.deny.Deny.TheVariants.{NoBase, NoHash}
use Rattle.login_state.specs.declared.deny.Severity.TheVariants.{Recoverable, Fatal}
use Rattle.login_state.specs.Mentions.{base, tigr}
use Rattle.login_state.specs.Rules.{wrong_words, missing, bad_required, bad_value, foreign_pid, bad_nick_of_login, ban_denial, wrong_address, registration_denial, nick_taken, cid_taken, foreign_id, bad_nick, account_touched, too_many_fields, unless_supported, wrong_password}

-- after a SUP, by the features that are left
abbrev pub sup_rules : List (List ℕ) → List (Option Deny)
sup_rules features = unless_supported features base NoBase ∷ unless_supported features tigr NoHash ∷ []

-- of a login
abbrev pub inf_rules : InfAsk → List (Option Deny)
inf_rules ask =
    wrong_words ask.words
    ∷ missing ask.id fields.Id
    ∷ missing ask.pid fields.PrivateId
    ∷ missing ask.nick fields.Nick
    ∷ bad_required ask.id fields.Id
    ∷ bad_required ask.pid fields.PrivateId
    ∷ bad_value Fatal ask.values
    ∷ foreign_pid ask.identity
    ∷ bad_nick_of_login ask.nick
    ∷ ban_denial ask.entry.ban
    ∷ wrong_address Fatal ask.address
    ∷ registration_denial ask.admission
    ∷ nick_taken Fatal ask.entry.nick_claim
    ∷ cid_taken ask.entry.cid_claim
    ∷ []

-- of an update
abbrev pub update_rules : UpdateAsk → List (Option Deny)
update_rules ask =
    wrong_words ask.words
    ∷ foreign_id ask.identity
    ∷ bad_value Recoverable ask.values
    ∷ bad_nick ask.nick
    ∷ account_touched ask.account
    ∷ wrong_address Recoverable ask.address
    ∷ too_many_fields ask.size
    ∷ nick_taken Recoverable ask.nick_claim
    ∷ []

-- of a password
abbrev pub pass_rules : List ℕ → Option (List ℕ) → List (Option Deny)
pass_rules expected given = wrong_password expected given ∷ []

-- of a client that wants to enter, once its password was right
abbrev pub entry_rules : EntryAsk → List (Option Deny)
entry_rules ask = ban_denial ask.ban ∷ nick_taken Fatal ask.nick_claim ∷ cid_taken ask.cid_claim ∷ []
