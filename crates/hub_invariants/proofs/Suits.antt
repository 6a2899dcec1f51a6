-- A hub can carry out the effect of a line: its change suits the stage of the connection, with users as they are listed.
use Rattle.std.specs.Prelude.{chars}
use Rattle.std.proofs.Common.{◌≡◌, sym, ap, refl, ℕ, Bool, List, Option, None, Ok, unwrap_or, arith}
use Rattle.std.specs.Option.{option_map, option_map_or}
use Rattle.adc_line.specs.declared.header.Kind.{Kind}
use Rattle.adc_line.specs.declared.header.Kind.TheVariants as kinds
use Rattle.adc_line.specs.Lines.{Reading}
use Rattle.feature_route.specs.Audiences.{audience, by_kind, direct_audience, echo_audience, holds, holds_words}
use Rattle.feature_route.specs.Wants.{wants_of}
use Rattle.feature_route.specs.Matching.{feature_set}
use Rattle.feature_route.specs.declared.receivers.Audience.TheVariants as audiences
use Rattle.feature_route.proofs.Parts.{meets-feature_set}
use Rattle.inf_fields.specs.Cleaning.{clean}
use Rattle.inf_fields.specs.Field.{Field, value_of}
use Rattle.inf_fields.specs.FieldNames.{nick_name}
use Rattle.inf_fields.specs.Merging.{merged_fields, merged_with}
use Rattle.login_state.specs.declared.stage.Stage.TheVariants as stages
use Rattle.user_table.specs.Changes.{given_key}
use Rattle.user_table.specs.Tables.{changed_key, updated_user}
use Rattle.hub_rules.specs.declared.effect.Change.{Change}
use Rattle.hub_rules.specs.declared.effect.Change.TheVariants.{Sender}
use Rattle.hub_rules.specs.declared.effect.Effect.{Effect}
use Rattle.hub_rules.specs.declared.effect.Hearers.{Hearers}
use Rattle.hub_rules.specs.declared.effect.Hearers.TheVariants.{Others, Those}
use Rattle.hub_rules.specs.declared.effect.SenderChange.TheVariants as senders
use Rattle.login_state.specs.declared.request.Request.{Request}
use Rattle.hub_rules.specs.Denied.{update_denied}
use Rattle.hub_rules.specs.Effects.{entrant, is_target_here, line_effect}
use Rattle.hub_rules.specs.Identities.{cid_in, value_or_empty, key_in, key_of, listed_user, meaning, su_in}
use Rattle.hub_rules.specs.Views.{SenderView, PreparedLine, HubView}
use Rattle.hub_invariants.proofs.Claims.{same-cid, update-free}
use Rattle.hub_rules.proofs.Merges.{given-after}
use Rattle.hub_invariants.proofs.Outcomes.{Outcome, acts, greets, lets_in, outcome, passes, proves, revises, searches, waits}

pub listed-sid : (sid : ℕ) (fields : List Field) → (listed_user sid fields).sid ≡ sid
unfolding listed_user
listed-sid sid fields = refl

-- a change that the connection which sent the line can take
abbrev pub Suited : SenderView → Change → Type 0
Suited own (Sender (senders.Greets features)) = own.stage ≡ stages.Protocol
Suited own (Sender (senders.Waits newcomer expected)) = (own.stage ≡ stages.Identify) × (newcomer ≡ entrant (listed_user own.sender.sid newcomer.user.fields))
Suited own (Sender senders.Enters) = own.stage ≡ stages.Verify
Suited own (Sender (senders.EntersAs newcomer)) = (own.stage ≡ stages.Identify) × (newcomer ≡ entrant (listed_user own.sender.sid newcomer.user.fields))
Suited own (Sender (senders.Updates revision)) =
    (own.stage ≡ stages.Normal)
    × (revision.support ≡ feature_set (su_in (merged_with own.fields revision.update)))
    × (listed_user own.sender.sid (merged_with own.fields revision.update) ≡ updated_user revision.update (given_key revision.nick) (listed_user own.sender.sid own.fields))
Suited own change = Unit {0}

-- a set made of an SU tells who hears
abbrev pub Routed : Hearers → Type 0
Routed Others = Unit {0}
Routed (Those to) = (sid : ℕ) (su : List ℕ) → holds_words to sid (feature_set su) ≡ holds to sid su

pub record Suits (own : SenderView) (effect : Effect) : Type 0 where
  pub change : Suited own effect.change
  pub routed : Routed effect.hearers

-- ---- who hears

routed-direct : (here : Bool) (target : Option ℕ) → Routed (Those (direct_audience here target))
unfolding holds_words
routed-direct here target sid su = grind arith

routed-echoed : (here : Bool) (target own : Option ℕ) → Routed (Those (echo_audience here target own))
unfolding holds_words
routed-echoed here target own sid su = grind arith

routed-featured : (word : Option (List ℕ)) → Routed (Those (option_map_or (λ (w : List ℕ). audiences.Having (wants_of w)) word audiences.Nobody))
unfolding holds_words
routed-featured word sid su = grind (arith, meets-feature_set)

routed-kind : (kind : Kind) (line : Reading) (here : Bool) → Routed (Those (by_kind kind line here))
unfolding holds_words
routed-kind kinds.Direct line here sid su = routed-direct here line.target sid su
routed-kind kinds.Echo line here sid su = routed-echoed here line.target line.from sid su
routed-kind kinds.Feature line here sid su = routed-featured line.features sid su
routed-kind kind line here sid su = refl

routed-audience : (line : Reading) (here : Bool) → Routed (Those (audience line here))
unfolding audience
routed-audience line here sid su = routed-kind line.kind line here sid su

routed-all : Routed (Those audiences.All)
unfolding holds_words
routed-all sid su = refl

-- ---- what each request leads to

listed-fields : (sid : ℕ) (fields : List Field) → listed_user sid (listed_user sid fields).fields ≡ listed_user sid fields
unfolding listed_user
listed-fields sid fields = refl

-- the nick that is given is that of the user afterwards
key-by : (fields : List Field) (nick : Option (List ℕ)) → key_of (meaning (unwrap_or nick (value_or_empty nick_name fields))) ≡ changed_key (given_key (option_map (λ (word : List ℕ). chars (meaning word)) nick)) (key_in fields)
key-by fields nick = grind arith

listed-same : (sid : ℕ) (before : List Field) (u : List Field) (key : Option (List ℕ)) → cid_in (merged_with before u) ≡ cid_in before
    → key_in (merged_with before u) ≡ changed_key key (key_in before) → listed_user sid (merged_with before u) ≡ updated_user u key (listed_user sid before)
unfolding listed_user
listed-same sid before u key cid nick = grind arith

suits-revised : (hub : HubView) (own : SenderView) (infs : List (List Field)) (u : List Field) → own.fields ≡ merged_fields infs → update_denied hub own (Ok u) ≡ None
    → listed_user own.sender.sid (merged_with own.fields (clean u own.sender.peer))
    ≡ updated_user (clean u own.sender.peer) (given_key (option_map (λ (word : List ℕ). chars (meaning word)) (value_of nick_name (clean u own.sender.peer)))) (listed_user own.sender.sid own.fields)
suits-revised hub own infs u known none = grind (arith, update-free, listed-same, same-cid, given-after, key-by)

module _ {hub : HubView} {own : SenderView} {line : PreparedLine} {now : ℕ} where
  suits-outcome : {said : Option Reading} {request : Request} {effect : Effect} → Outcome hub own line now said request effect → (infs : List (List Field)) → own.fields ≡ merged_fields infs → Suits own effect
  suits-outcome (greets reading features at is) infs known = record { change = at; routed = tt }
  suits-outcome (waits reading u logs account) infs known =
      record { change = (logs.at, ap entrant (sym (listed-fields own.sender.sid (merged_with own.fields (clean u own.sender.peer))))); routed = tt }
  suits-outcome (lets_in reading u logs account) infs known =
      record { change = (logs.at, ap entrant (sym (listed-fields own.sender.sid (merged_with own.fields (clean u own.sender.peer))))); routed = tt }
  suits-outcome (proves reading at asks none) infs known = record { change = at; routed = tt }
  suits-outcome (revises reading u at words none) infs known = record { change = (at, refl, suits-revised hub own infs u known none); routed = routed-all }
  suits-outcome (acts reading done at operator asks does) infs known = record { change = tt; routed = routed-all }
  suits-outcome (searches reading at) infs known = record { change = tt; routed = routed-audience reading (is_target_here hub reading.target) }
  suits-outcome (passes reading at) infs known = record { change = tt; routed = routed-audience reading (is_target_here hub reading.target) }
  suits-outcome _ infs known = record { change = tt; routed = tt }

pub suits-line : (hub : HubView) (own : SenderView) (line : PreparedLine) (now : ℕ) (infs : List (List Field)) → own.fields ≡ merged_fields infs → Suits own (line_effect hub own line now)
suits-line hub own line now infs known = suits-outcome (outcome hub own line now) infs known
