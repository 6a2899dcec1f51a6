-- By which lines a user comes to be present, or comes to be waited for with a password.
use Rattle.std.proofs.Common.{◌≡◌, ◌∙◌, sym, refl, ℕ, Bool, true, false, ◌⊎◌, inl, inr, List, [], Option, Some, None, Ok, unwrap_or, arith}
use Rattle.hub_laws.proofs.Words.{Effect, Field, Logs, Outcome, SenderView, PreparedLine, Reading, Request, HubView, accepted_line, cid_in, clean, digest_given, expected_after, fields_after, greets}
use Rattle.hub_laws.proofs.Words.{is_account, key_in, left_of_bans, lets_in, line_effect, merged_with, outcome, password-entry, password_denied, proves, request_of, revises, shuts_out}
use Rattle.hub_laws.proofs.Words.{stage_after, update_denied, user_after, waits}
use Rattle.hub_laws.proofs.Words.lefts
use Rattle.hub_laws.proofs.Words.lines
use Rattle.hub_laws.proofs.Words.requests
use Rattle.hub_laws.proofs.Words.stages
use Rattle.hub_laws.proofs.Words.updates
use Rattle.hub_laws.proofs.Checked.{KeepsNick, entry-unbanned, is_barred, login-rules, password-right, update-keeps}
use Rattle.hub_laws.proofs.FreeNames.{listed-cid, listed-key, listed-fields}
use Rattle.hub_laws.proofs.StageChanges.{gone-normal, gone-verify, identify-normal, identify-verify, normal-verify, verify-normal}

abbrev pub fields_by : SenderView → Effect → List Field
fields_by own effect = fields_after effect.change own.fields

-- a login, whose user has these fields then
pub record LogsIn (hub : HubView) (own : SenderView) (now : ℕ) (said : Option Reading) (fields : List Field) : Type 0 where
  pub update : List Field
  pub reading : Reading
  pub is_said : said ≡ Some reading
  pub at : own.stage ≡ stages.Identify
  pub asks : request_of own.stage reading.kind reading.command ≡ requests.Login
  pub words : updates.reading reading.params ≡ Ok update
  pub merges : fields ≡ merged_with own.fields (clean update own.sender.peer)
  pub unbanned : left_of_bans hub.bans (cid_in fields) now ≡ lefts.Free
  pub admitted : is_barred hub (key_in fields) ≡ false

-- a password that is right
pub record GivesPassword (hub : HubView) (own : SenderView) (now : ℕ) (said : Option Reading) (fields : List Field) : Type 0 where
  pub reading : Reading
  pub is_said : said ≡ Some reading
  pub at : own.stage ≡ stages.Verify
  pub asks : request_of own.stage reading.kind reading.command ≡ requests.Password
  pub spells : digest_given reading.params ≡ Some own.expected
  pub stays : fields ≡ own.fields
  pub unbanned : left_of_bans hub.bans (cid_in fields) now ≡ lefts.Free

pub record WaitsStill (own : SenderView) (effect : Effect) : Type 0 where
  pub at : own.stage ≡ stages.Verify
  pub fields : fields_by own effect ≡ own.fields
  pub expected : expected_after effect.change own.expected ≡ own.expected

pub record IsAsked (hub : HubView) (own : SenderView) (line : PreparedLine) (now : ℕ) (said : Option Reading) (effect : Effect) : Type 0 where
  pub logs : LogsIn hub own now said (fields_by own effect)
  pub account : is_account hub (key_in (fields_by own effect)) ≡ true
  pub expected : expected_after effect.change own.expected ≡ unwrap_or line.password []

pub record IsHereStill (hub : HubView) (own : SenderView) (effect : Effect) : Type 0 where
  pub at : own.stage ≡ stages.Normal
  pub nick : KeepsNick hub (key_in own.fields) (key_in (fields_by own effect))

pub record EntersUnasked (hub : HubView) (own : SenderView) (now : ℕ) (said : Option Reading) (effect : Effect) : Type 0 where
  pub logs : LogsIn hub own now said (fields_by own effect)
  pub account : is_account hub (key_in (fields_by own effect)) ≡ false

-- what is so of a line that leaves its connection waiting for a password, or its user present
pub record IsChecked (hub : HubView) (own : SenderView) (line : PreparedLine) (now : ℕ) (said : Option Reading) (effect : Effect) : Type 0 where
  pub waits : stage_after effect.change own.stage ≡ stages.Verify → WaitsStill own effect ⊎ IsAsked hub own line now said effect
  pub enters : stage_after effect.change own.stage ≡ stages.Normal
      → IsHereStill hub own effect ⊎ (EntersUnasked hub own now said effect ⊎ GivesPassword hub own now said (fields_by own effect))

-- ---- lines that change no stage, or shut out

checked-still : (hub : HubView) (own : SenderView) (line : PreparedLine) (now : ℕ) (said : Option Reading) (effect : Effect) → stage_after effect.change own.stage ≡ own.stage
    → fields_by own effect ≡ own.fields → expected_after effect.change own.expected ≡ own.expected → IsChecked hub own line now said effect
checked-still hub own line now said effect same_stage same_fields same_expected = grind arith

checked-away : (hub : HubView) (own : SenderView) (line : PreparedLine) (now : ℕ) (said : Option Reading) (effect : Effect) → (stage_after effect.change own.stage ≡ stages.Verify → ⊥)
    → (stage_after effect.change own.stage ≡ stages.Normal → ⊥) → IsChecked hub own line now said effect
checked-away hub own line now said effect not_asked not_here = record { waits = λ is. absurd (not_asked is); enters = λ is. absurd (not_here is) }

-- ---- logins

logs-in : (hub : HubView) (own : SenderView) (line : PreparedLine) (now : ℕ) (reading : Reading) (u : List Field) → Logs hub own line now reading u
    → LogsIn hub own now (Some reading) (user_after own u).fields
logs-in hub own line now reading u logs = grind (arith, listed-fields, login-rules, listed-cid, listed-key)

login-account : (hub : HubView) (own : SenderView) (u : List Field) (b : Bool) → is_account hub (user_after own u).key ≡ b → is_account hub (key_in (user_after own u).fields) ≡ b
login-account hub own u b is = grind (arith, listed-fields, listed-key)

-- ---- passwords

gives-password : (hub : HubView) (own : SenderView) (now : ℕ) (reading : Reading) → own.stage ≡ stages.Verify → request_of own.stage reading.kind reading.command ≡ requests.Password
    → password_denied hub own now reading.params ≡ None → GivesPassword hub own now (Some reading) own.fields
gives-password hub own now reading at asks none = grind (arith, password-right, listed-cid, entry-unbanned, password-entry)

-- ---- updates

keeps-nick : (hub : HubView) (own : SenderView) (u : List Field) → update_denied hub own (Ok u) ≡ None
    → KeepsNick hub (key_in own.fields) (key_in (merged_with own.fields (clean u own.sender.peer)))
keeps-nick hub own u none = grind (arith, listed-key, update-keeps)

-- ---- every line

module _ {hub : HubView} {own : SenderView} {line : PreparedLine} {now : ℕ} where
  checked : {said : Option Reading} {request : Request} {effect : Effect} → Outcome hub own line now said request effect → IsChecked hub own line now said effect
  checked (shuts_out deny) = checked-away hub own line now _ _ gone-verify gone-normal
  checked (greets reading features at applies) = checked-away hub own line now _ _ identify-verify identify-normal
  checked (waits reading u logs account) = record {
    waits = λ at. inr (record { logs = logs-in hub own line now reading u logs; account = login-account hub own u true account; expected = refl });
    enters = λ at. absurd (verify-normal at);
  }
  checked (lets_in reading u logs account) = record {
    waits = λ at. absurd (normal-verify at);
    enters = λ at. inr (inl (record { logs = logs-in hub own line now reading u logs; account = login-account hub own u false account }));
  }
  checked (proves reading at asks none) = record {
    waits = λ to. absurd (normal-verify to);
    enters = λ to. inr (inr (gives-password hub own now reading at asks none));
  }
  checked (revises reading u at words none) = record {
    waits = λ is. absurd (normal-verify (sym at ∙ is));
    enters = λ is. inl (record { at = at; nick = keeps-nick hub own u none });
  }
  checked _ = checked-still hub own line now _ _ refl refl refl

pub checked-line : (hub : HubView) (own : SenderView) (line : PreparedLine) (now : ℕ) → IsChecked hub own line now (accepted_line hub own line now) (line_effect hub own line now)
checked-line hub own line now = checked (outcome hub own line now)

-- ---- the message that was accepted is the one that the bytes are

pub read-accepted : (hub : HubView) (own : SenderView) (line : PreparedLine) (now : ℕ) (reading : Reading) → accepted_line hub own line now ≡ Some reading → lines.reading line.bytes ≡ Ok reading
unfolding accepted_line
read-accepted hub own line now reading is = grind arith
