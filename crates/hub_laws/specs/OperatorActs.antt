-- All who are present are told of an operator's act, once, and the operator that it is done.
use Rattle.std.specs.Prelude.{◌≡◌, ℕ, ◌==◌, List, [], ◌∷◌, ◌++◌, Some, None, if◌then◌else◌}
use Rattle.adc_line.specs.Grammar.{Reads}
use Rattle.adc_line.specs.Lines.{Reading}
use Rattle.operator_acts.specs.Acts.{act_at}
use Rattle.operator_acts.specs.declared.act.Act.{Act}
use Rattle.operator_acts.specs.declared.act.Act.TheVariants as acts
use Rattle.hub_rules.specs.Acts.{text_in}
use Rattle.hub_rules.specs.declared.effect.Change.TheVariants.{Hub}
use Rattle.hub_rules.specs.declared.effect.HubChange.{HubChange}
use Rattle.hub_rules.specs.declared.effect.HubChange.TheVariants as shared
use Rattle.hub_rules.specs.declared.history.Call.{Call}
use Rattle.hub_rules.specs.declared.history.Call.TheVariants.{Line}
use Rattle.hub_rules.specs.declared.history.Entry.{Entry}
use Rattle.hub_rules.specs.Configured.{Configured}
use Rattle.hub_rules.specs.Effects.{is_present}
use Rattle.hub_rules.specs.Facts.{facts}
use Rattle.hub_rules.specs.History.{sid, stage}
use Rattle.hub_rules.specs.Senders.{is_removal}
use Rattle.hub_invariants.specs.Lag.{share}
use Rattle.hub_rules.specs.Texts.{done_line, removal_line, topic_line}
use Rattle.hub_invariants.specs.World.{change_of}

-- the line that tells of it: who was shut out, by which operator, for how long and why; or the new topic
abbrev pub news_of : HubChange → ℕ → List ℕ → List (List ℕ)
news_of (shared.At target change) operator reason = if is_removal change then removal_line target operator None reason ∷ [] else []
news_of (shared.Ban banned) operator reason = removal_line banned.sid operator (Some banned.ban.seconds) reason ∷ []
news_of (shared.Topic text) operator reason = topic_line text ∷ []
news_of change operator reason = []

-- the reason that an act gives
abbrev pub reason_of : Act → List ℕ
reason_of (acts.Kick nick reason) = reason
reason_of (acts.Ban nick seconds reason) = reason
reason_of act = []

-- the call is a line of this connection, and its text asks for this act
pub record Asks (call : Call) (c : ℕ) (act : Act) : Type 0 where
  pub bytes : List ℕ
  pub now : ℕ
  pub is_line : call ≡ Line c bytes now
  pub reading : Reading
  pub grammar : Reads bytes reading
  pub asks : act_at (text_in reading.params) ≡ Some act

-- a call that changes something for all is a line of an operator that asks for an act. It owes all who are present the news, for the reason that the
-- act gives, and then the operator that it is done
abbrev pub ActsAreHeard : Type 0
ActsAreHeard =
    (setup : Configured) (hash : List ℕ → List ℕ) (h : List Entry) (e : Entry) (act : HubChange) → change_of setup hash (facts setup hash h) e.call ≡ Hub act
    → (c : ℕ) × (asked : Act) × Asks e.call c asked
    × ((d : ℕ) → share setup hash (facts setup hash h) d e.call
    ≡ (if is_present (stage setup hash h d) then news_of act (sid setup hash h c) (reason_of asked) else []) ++ (if d == c then done_line ∷ [] else []))
