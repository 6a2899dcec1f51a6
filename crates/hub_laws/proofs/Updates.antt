-- The fields of an accepted INF that may be passed on, and the users who hear of it.
use Rattle.std.proofs.Common.{◌≡◌, ◌∙◌, sym, refl, subst, ℕ, Bool, true, false, ◌&&◌, ◌==◌, List, [], ◌∷◌, ◌++◌, append-nil, Option, Some, None, Ok, cond, arith}
use Rattle.hub_laws.proofs.Words.{ConnState, AllByRecursion, Configured, Effect, Facts, Field, Line, Logs, Outcome, SenderView, PreparedLine, Reading, Request, HubView, Those, accepted_line, address_name}
use Rattle.hub_laws.proofs.Words.{clean, cleaned_update, effect_of_line, eqb-true, facts, holds_words, inf_update, is_present, is_wrong_address, lets_in, line-outcome, line_unless_empty}
use Rattle.hub_laws.proofs.Words.{listed_if, owes, own_of, prepared_line, read_by, revises, said-read, said_by, sight_of, update_denied, update_effect, value_or_empty, waits}
use Rattle.hub_laws.proofs.Words.audiences
use Rattle.hub_laws.proofs.Words.stages
use Rattle.hub_laws.proofs.Words.updates
use Rattle.hub_laws.specs.Secrets.{IsPassed, UpdatesAreHeard, UpdatesArePassed}
use Rattle.hub_laws.proofs.StageChanges.{identify-normal}
use Rattle.hub_laws.proofs.FieldNames.{read-passed}
use Rattle.hub_laws.proofs.Public.{login-right, update-right}

record IsUpdate (own : SenderView) (effect : Effect) (u : List Field) : Type 0 where
  others : effect.others ≡ line_unless_empty own.sender.sid u
  hearers : effect.hearers ≡ Those audiences.All
  silent : effect.own ≡ []

-- an INF that says this
record IsInf (own : SenderView) (effect : Effect) (u : List Field) : Type 0 where
  passed : AllByRecursion (IsPassed own.sender.peer) u
  heard : own.stage ≡ stages.Normal → IsUpdate own effect u

-- what a login or an update says that is not denied is what may be passed on of it
says-passed : (own : SenderView) (reading : Reading) (first u : List Field) → updates.reading reading.params ≡ Ok first → is_wrong_address own.sender.peer (value_or_empty address_name first) ≡ false
    → cleaned_update own.sender.peer (updates.reading reading.params) ≡ Some u → (clean first own.sender.peer ≡ u) × AllByRecursion (IsPassed own.sender.peer) u
says-passed own reading first u words right says = grind (arith, read-passed)

login-inf : (hub : HubView) (own : SenderView) (line : PreparedLine) (now : ℕ) (reading : Reading) (effect : Effect) (first u : List Field) → Logs hub own line now reading first
    → cleaned_update own.sender.peer (updates.reading reading.params) ≡ Some u → IsInf own effect u
login-inf hub own line now reading effect first u logs says = grind (arith, says-passed, login-right, identify-normal)

update-inf : (hub : HubView) (own : SenderView) (reading : Reading) (first u : List Field) → updates.reading reading.params ≡ Ok first → update_denied hub own (Ok first) ≡ None
    → cleaned_update own.sender.peer (updates.reading reading.params) ≡ Some u → IsInf own (update_effect own (clean first own.sender.peer)) u
update-inf hub own reading first u words none says = grind (arith, says-passed, update-right)

module _ {hub : HubView} {own : SenderView} {line : PreparedLine} {now : ℕ} where
  says-inf : {said : Option Reading} {request : Request} {effect : Effect} → Outcome hub own line now said request effect → (u : List Field) → said_by inf_update own said request ≡ Some u
      → IsInf own effect u
  says-inf (waits reading first logs account) u says = login-inf hub own line now reading _ first u logs says
  says-inf (lets_in reading first logs account) u says = login-inf hub own line now reading _ first u logs says
  says-inf (revises reading first at words none) u says = update-inf hub own reading first u words none says
  says-inf _ u says = let nothing : ⊥ = cc says in absurd nothing

-- ---- what a call says

abbrev one : {A : Type 0} → A → List A → A
one otherwise [] = otherwise
one otherwise (x ∷ xs) = x

-- it is the connection's own line that says it
record Speaks (same : Bool) (o : Option (List Field)) (u : List Field) : Type 0 where
  is_own : same ≡ true
  says : o ≡ Some u

speaks : (same : Bool) (o : Option (List Field)) (u : List Field) → listed_if same o ≡ u ∷ [] → Speaks same o u
speaks same o u is = grind arith

line-says : (setup : Configured) (hash : List ℕ → List ℕ) (f : Facts) (c d : ℕ) (bytes : List ℕ) (now : ℕ) (u : List Field)
    → listed_if (c == d) (read_by inf_update (own_of (f.about d)) (accepted_line (sight_of setup f) (own_of (f.about d)) (prepared_line setup hash (f.about d).sender.challenge bytes) now)) ≡ u ∷ []
    → IsInf (own_of (f.about c)) (effect_of_line setup hash f d bytes now) u
line-says setup hash f c d bytes now u is =
    let speaks-own = speaks (c == d) _ u is in
    subst (λ x. IsInf (own_of (f.about x)) (effect_of_line setup hash f d bytes now) u) (sym (eqb-true c d speaks-own.is_own))
    (says-inf (line-outcome setup hash f d bytes now) u
    (said-read inf_update (own_of (f.about d)) (accepted_line (sight_of setup f) (own_of (f.about d)) (prepared_line setup hash (f.about d).sender.challenge bytes) now) ∙ speaks-own.says))

pub updates_are_passed : UpdatesArePassed
updates_are_passed setup hash h c (Line d bytes now) u is = (line-says setup hash (facts setup hash h) c d bytes now u is).passed
updates_are_passed setup hash h c _ u is = let nothing : ⊥ = cc is in absurd nothing

no-more : (here is_caller : Bool) (ls : List (List ℕ)) → cond (here && true) ls [] ++ cond is_caller [] [] ≡ cond here ls []
no-more here is_caller ls = grind (arith, append-nil)

hears-update : (is_caller : Bool) (effect : Effect) (a : ConnState) (ls : List (List ℕ)) (here : Bool) → is_present a.stage ≡ here → effect.others ≡ ls → effect.hearers ≡ Those audiences.All
    → effect.own ≡ [] → owes is_caller effect a ≡ cond here ls []
unfolding holds_words
hears-update is_caller effect a ls here is_here others hearers silent = grind (arith, no-more)

pub updates_are_heard : UpdatesAreHeard
updates_are_heard setup hash h c d bytes now u here is =
    let f : Facts = facts setup hash h in
    let update = (line-says setup hash f c c bytes now u is).heard here in
    hears-update (d == c) (effect_of_line setup hash f c bytes now) (f.about d) _ (is_present (f.about d).stage) refl update.others update.hearers update.silent
