-- After every history whoever is present has a nick, the features that a hub asks for, and few fields.
use Rattle.std.proofs.Common.{◌≡◌, ◌∙◌, sym, ap, refl, subst, ℕ, suc, ◌≤◌, Bool, true, false, not, List, [], ◌∷◌, length, map, filter, Option, Some, None, Ok, unwrap_or, cond, arith}
use Rattle.std.specs.Prelude.{chars}
use Rattle.std.proofs.lemmas.Bool.{leb-true}
use Rattle.adc_ids.specs.Nicks.{is_nick}
use Rattle.adc_ids.proofs.Points.{is_nick-Decides}
use Rattle.inf_fields.specs.Merging.{fits}
use Rattle.inf_fields.specs.Updates.{are_few}
use Rattle.login_state.specs.Mentions.{base, tigr}
use Rattle.hub_rules.specs.Denied.{sup_denied}
use Rattle.hub_rules.specs.Grounds.{is_bad_nick}
use Rattle.hub_rules.specs.Identities.{nick_in}
use Rattle.hub_laws.proofs.Words.{AllFalse, Configured, Deny, Effect, Entry, Facts, Field, Listed, Logs, Outcome, SenderView, PreparedLine, Reading, Request, HubView, Stage, clean}
use Rattle.hub_laws.proofs.Words.{effect_of_line, facts, false≢true, features_after, fields_after, first_ground, given-after, greets, grounds_of, has_feature, infs, is_unnamed, later-none, learns, lets_in}
use Rattle.hub_laws.proofs.Words.{login_grounds, meaning, merged_fields, merged_with, nick_name, none-of, outcome, own_of, prepared_line, proves, request_denied, request_in, revises, shuts_out}
use Rattle.hub_laws.proofs.Words.{sight_of, stage_after, tidy_of, told_of, update_grounds, user_after, value_of, value_or_empty, waits}
use Rattle.hub_laws.proofs.Words.{besides, has_name, info, is_empty_value, is_held_back, refusal_of, renewed, stage, with_address}
use Rattle.hub_rules.specs.History.{features}
use Rattle.login_state.specs.SupportAnswers.{support_after}
use Rattle.hub_laws.proofs.Words.denials
use Rattle.hub_laws.proofs.Words.stages
use Rattle.hub_laws.proofs.Words.updates
use Rattle.hub_laws.specs.Limits.{FewLinesWait, UsersAreWellFormed}
use Rattle.hub_laws.proofs.FreeNames.{listed-fields}
use Rattle.hub_laws.proofs.SenderOrder.{is-accepted}
use Rattle.hub_laws.proofs.PassedFields.{nick-clean, nick-merged}
use Rattle.hub_laws.proofs.Connections.{always}

-- ---- how many fields

fewer-kept : {X : Type 0} (b : Bool) (x : X) (xs ys : List X) → length ys ≤ length xs → length (cond b (x ∷ ys) ys) ≤ suc (length xs)
fewer-kept b x xs ys few = grind arith

fewer : {X : Type 0} (p : X → Bool) (xs : List X) → length (filter p xs) ≤ length xs
fewer p [] = omega arith
fewer p (x ∷ xs) = fewer-kept (p x) x xs (filter p xs) (fewer p xs)

length-map : {X Y : Type 0} (f : X → Y) (xs : List X) → length (map f xs) ≡ length xs
length-map f [] = refl
length-map f (x ∷ xs) = ap suc (length-map f xs)

few-clean : (u : List Field) (peer : List ℕ) → length (clean u peer) ≤ length u
unfolding clean
few-clean u peer = omega (arith, length-map (with_address peer) (filter (λ f. not (is_held_back f)) u), fewer (λ f. not (is_held_back f)) u)

few-merged : (u : List Field) → length (merged_with [] u) ≤ length u
unfolding merged_with
few-merged u =
    omega (
      arith,
      length-map (renewed u) (filter (λ (f : Field). not (is_empty_value (value_of f.name u))) (besides [] u)),
      fewer (λ (f : Field). not (is_empty_value (value_of f.name u))) (besides [] u),
      fewer (λ (f : Field). not (has_name f.name [])) u,
    )

few-read : (words : List (List ℕ)) (u : List Field) → updates.reading words ≡ Ok u → length u ≤ 40
unfolding updates.reading
few-read words u is = grind (arith, leb-true)

are-few : (fields : List Field) → are_few fields ≡ true → length fields ≤ 40
are-few fields few = leb-true (length fields) 40 few

-- ---- what a login and an update say

abbrev is_nick_bad : Deny → Bool
is_nick_bad (denials.BadNick severity) = true
is_nick_bad deny = false

abbrev is_protocol : Deny → Bool
is_protocol denials.Protocol = true
is_protocol deny = false

not-false : (b : Bool) → not b ≡ false → b ≡ true
not-false b is = grind arith

login-nick : (hub : HubView) (own : SenderView) (now : ℕ) (digest : Option (List ℕ)) (u : List Field) (user : Listed) → first_ground (login_grounds hub own now digest u user) ≡ None
    → is_nick (chars (nick_in u)) ≡ true
unfolding login_grounds
login-nick hub own now digest u user none =
    let nick : AllFalse (grounds_of is_nick_bad (login_grounds hub own now digest u user)) = none-of is_nick_bad (login_grounds hub own now digest u user) none in
    not-false (is_nick (chars (nick_in u))) nick.0

update-nick : (hub : HubView) (own : SenderView) (u : List Field) (user : Listed) → first_ground (update_grounds hub own u user) ≡ None
    → (is_bad_nick (value_of nick_name u) ≡ false) × (fits own.fields (clean u own.sender.peer) ≡ true)
unfolding update_grounds
update-nick hub own u user none =
    let nick : AllFalse (grounds_of is_nick_bad (update_grounds hub own u user)) = none-of is_nick_bad (update_grounds hub own u user) none in
    let few : AllFalse (grounds_of is_protocol (update_grounds hub own u user)) = none-of is_protocol (update_grounds hub own u user) none in
    (nick.0, not-false (fits own.fields (clean u own.sender.peer)) few.0)

-- ---- the users

-- what is known of a user whose login was accepted
record IsUser (fields : List Field) : Type 0 where
  nick : is_nick (chars (nick_in fields)) ≡ true
  few : length fields ≤ 40

login-user : (fields u : List Field) (peer : List ℕ) → fields ≡ [] → is_nick (chars (nick_in u)) ≡ true → length u ≤ 40 → IsUser (merged_with fields (clean u peer))
login-user fields u peer none nick few = subst (λ fs. IsUser (merged_with fs (clean u peer))) (sym none) (record {
  nick = ap (λ (word : List ℕ). is_nick (chars (meaning word))) (nick-merged u peer) ∙ nick;
  few = omega (arith, few-merged (clean u peer), few-clean u peer, few);
})

given-nick : (nick : Option (List ℕ)) (before : List ℕ) → is_bad_nick nick ≡ false → is_nick (chars (meaning before)) ≡ true → is_nick (chars (meaning (unwrap_or nick before))) ≡ true
given-nick (Some word) before good was = not-false (is_nick (chars (meaning word))) good
given-nick None before good was = was

update-user : (fields u : List Field) (infs : List (List Field)) (peer : List ℕ) → fields ≡ merged_fields infs → is_bad_nick (value_of nick_name u) ≡ false
    → fits fields (clean u peer) ≡ true → IsUser fields → IsUser (merged_with fields (clean u peer))
update-user fields u infs peer known good few is = record {
  nick = ap (λ (word : List ℕ). is_nick (chars (meaning word)))
      (given-after nick_name fields infs (clean u peer) known ∙ ap (λ o. unwrap_or o (value_or_empty nick_name fields)) (nick-clean u peer))
      ∙ given-nick (value_of nick_name u) (value_or_empty nick_name fields) good is.nick;
  few = are-few (merged_with fields (clean u peer)) few;
}

-- ---- one line

-- its greeting was accepted
abbrev is_greeted : Stage → Bool
is_greeted stages.Protocol = false
is_greeted stages.Gone = false
is_greeted stage = true

-- its login was accepted
abbrev is_known : Stage → Bool
is_known stages.Verify = true
is_known stages.Normal = true
is_known stage = false

record HasBoth (features : List (List ℕ)) : Type 0 where
  base : has_feature base features ≡ true
  tigr : has_feature tigr features ≡ true

record IsFit (stage : Stage) (features : List (List ℕ)) (fields : List Field) : Type 0 where
  greeted : is_greeted stage ≡ true → HasBoth features
  known : is_known stage ≡ true → IsUser fields

both-of : (features : List (List ℕ)) → sup_denied (Ok features) ≡ None → HasBoth features
both-of features none = grind arith

abbrev KeepsFit : SenderView → Effect → Type 0
KeepsFit own effect =
    IsFit own.stage own.sender.features own.fields
    → IsFit (stage_after effect.change own.stage) (features_after effect.change own.sender.features) (fields_after effect.change own.fields)

fit-login : (hub : HubView) (own : SenderView) (line : PreparedLine) (now : ℕ) (reading : Reading) (u : List Field) → (is_unnamed own.stage ≡ true → own.fields ≡ [])
    → Logs hub own line now reading u → IsUser (user_after own u).fields
fit-login hub own line now reading u unnamed logs =
    subst IsUser (sym (listed-fields own.sender.sid (merged_with own.fields (clean u own.sender.peer))))
    (login-user own.fields u own.sender.peer (unnamed (ap is_unnamed logs.at)) (login-nick hub own now line.owner u (user_after own u) logs.allowed) (few-read reading.params u logs.words))

-- no rule of what it asks for denies what was said
abbrev Allowed : HubView → SenderView → PreparedLine → ℕ → Option Reading → Request → Type 0
Allowed hub own line now said request = (reading : Reading) → said ≡ Some reading → request_denied hub own line now reading request ≡ None

sup-fit : (own : SenderView) (reading : Reading) (features : List (List ℕ)) → support_after own.sender.features reading.params ≡ Ok features → sup_denied (support_after own.sender.features reading.params) ≡ None → HasBoth features
sup-fit own reading features is none = both-of features (ap sup_denied (sym is) ∙ none)

module _ {hub : HubView} {own : SenderView} {line : PreparedLine} {now : ℕ} where
  fit : {said : Option Reading} {request : Request} {effect : Effect} → Outcome hub own line now said request effect → Allowed hub own line now said request → (infs : List (List Field))
      → own.fields ≡ merged_fields infs → (is_unnamed own.stage ≡ true → own.fields ≡ []) → KeepsFit own effect
  unfolding request_denied
  fit (shuts_out deny) allowed infs known unnamed was = record { greeted = λ is. absurd (false≢true is); known = λ is. absurd (false≢true is) }
  fit (greets reading features at is) allowed infs known unnamed was =
      record { greeted = λ at. sup-fit own reading features is (allowed reading refl); known = λ at. absurd (false≢true at) }
  fit (learns reading features at is) allowed infs known unnamed was = record { greeted = λ at. sup-fit own reading features is (allowed reading refl); known = was.known }
  fit (waits reading u logs account) allowed infs known unnamed was =
      record { greeted = λ at. was.greeted (ap is_greeted logs.at); known = λ at. fit-login hub own line now reading u unnamed logs }
  fit (lets_in reading u logs account) allowed infs known unnamed was =
      record { greeted = λ at. was.greeted (ap is_greeted logs.at); known = λ at. fit-login hub own line now reading u unnamed logs }
  fit (proves reading at asks none) allowed infs known unnamed was =
      record { greeted = λ is. was.greeted (ap is_greeted at); known = λ is. was.known (ap is_known at) }
  fit (revises reading u at words none) allowed infs known unnamed was =
      let good = update-nick hub own u (user_after own u) none in
      record { greeted = was.greeted; known = λ is. update-user own.fields u infs own.sender.peer known good.0 good.1 (was.known is) }
  fit _ allowed infs known unnamed was = was

-- ---- every history

fit-line : (setup : Configured) (hash : List ℕ → List ℕ) (h : List Entry) (c : ℕ) (bytes : List ℕ) (now : ℕ)
    → KeepsFit (own_of ((facts setup hash h).about c)) (effect_of_line setup hash (facts setup hash h) c bytes now)
fit-line setup hash h c bytes now =
    let f : Facts = facts setup hash h in
    let own : SenderView = own_of (f.about c) in
    let hub : HubView = sight_of setup f in
    let line : PreparedLine = prepared_line setup hash (f.about c).sender.challenge bytes in
    fit (outcome hub own line now)
    (λ reading said. subst (λ (r : Option Reading). request_denied hub own line now reading (request_in own r) ≡ None) (sym said)
    (later-none (refusal_of own.stage own.sender.sid reading) _ (is-accepted hub own line now reading said).allowed))
    (infs setup hash h c) (told_of setup hash h c).tells (tidy_of setup hash h c).unnamed

fit_of : (setup : Configured) (hash : List ℕ → List ℕ) (h : List Entry) (c : ℕ) → IsFit (stage setup hash h c) (features setup hash h c) (info setup hash h c)
fit_of setup hash h c =
    always setup hash IsFit (λ features fields. record { greeted = λ is. absurd (false≢true is); known = λ is. absurd (false≢true is) })
    (record { greeted = λ is. absurd (false≢true is); known = λ is. absurd (false≢true is) }) (fit-line setup hash) h c

pub users_are_well_formed : UsersAreWellFormed
users_are_well_formed setup hash h c at =
    let is = fit_of setup hash h c in
    let both = is.greeted (ap is_greeted at) in
    let user = is.known (ap is_known at) in
    record { nick = (is_nick-Decides (chars (nick_in (info setup hash h c)))).0 user.nick; base = both.base; tigr = both.tigr; few = user.few }

pub few_lines_wait : FewLinesWait
few_lines_wait setup hash h c = ((tidy_of setup hash h c).lines, (tidy_of setup hash h c).bytes)
