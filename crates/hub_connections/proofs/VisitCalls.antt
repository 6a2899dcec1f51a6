-- What a visitor has called are visits, whatever was made of it.
use Rattle.std.proofs.Common.{◌≡◌, Option, Some, ◌∙◌, ◌++◌, ℕ, List, [], ◌∷◌, reverse, refl, sym, ap, subst, append_assoc}
use Rattle.std.specs.Option.{ForSome, unwrap_or}
use Rattle.std.proofs.lemmas.List.Elements.{All-nil, All-cons}
use Rattle.std.proofs.Math.Logic.{∥∥₁_map}
use Rattle.adc_sessions.specs.declared.ending.End.{End}
use Rattle.adc_sessions.specs.Events.{StreamCall}
use Rattle.one_history.specs.States.{Caller}
use Rattle.hub_core.specs.declared.refused.JoinRefused.{JoinRefused}
use Rattle.hub_core.specs.declared.refused.JoinRefused.TheVariants as refusals
use Rattle.hub_core.specs.Moves.{entry}
use Rattle.hub_rules.specs.declared.history.Call.TheVariants.{Join, Quit}
use Rattle.hub_rules.specs.declared.history.Entry.{Entry}
use Rattle.hub_rules.specs.declared.history.Reply.{Reply}
use Rattle.hub_rules.specs.declared.history.Reply.TheVariants.{Joined, Full, JoinsSpent, Left}
use Rattle.hub_rules.specs.Configured.{Configured}
use Rattle.hub_shared.specs.Callers.{PassState, VisitorState}
use Rattle.hub_shared.specs.Calls.{Made, Refused}
use Rattle.hub_connections.specs.Peers.{HasComeFrom}
use Rattle.hub_connections.specs.PortCalls.{Leaves}
use Rattle.hub_connections.specs.ServedByHub.{ServedByHub}
use Rattle.hub_connections.specs.Visits.{Visit, join_refused, joined_only, served, calls_within, calls_of, RefusesJoin, HasArrived, IsVisit, AreVisits, HasJoined, HasVisited, HasEntered}

-- what holds of a value holds of whatever value there is
pub for-some : {X : Type 0} (P : X → Type 0) (a : X) → P a → ForSome (Some a) P
for-some P a holds b same = subst P (ap (λ (o : Option _). unwrap_or o a) same) holds

-- and of the value that there is
pub for-the-some : {X : Type 0} (P : X → Type 0) (o : Option X) (a : X) → o ≡ Some a → P a → ForSome o P
for-the-some P o a is holds b same = for-some P a holds b (sym is ∙ same)

-- who was answered that it joined has come by that join
pub came : {H : Type 0} (setup : Configured) (hash : List ℕ → List ℕ) (visitor : VisitorState H) (pass : PassState H) (peer challenge : List ℕ) (now : ℕ)
    → Made setup hash visitor.caller (Join peer challenge now) (Joined pass.connection) pass.caller → HasComeFrom pass peer challenge
came setup hash visitor pass peer challenge now made =
    let last = made.mine ∙ ap (λ n. entry n (Join peer challenge now) (Joined pass.connection) ∷ visitor.caller.mine) (sym made.number) in
    ∣ (now, visitor.caller.mine, last) ∣₁

-- from the same octets
pub came_from : {H : Type 0} (pass : PassState H) (octets peer challenge : List ℕ) → octets ≡ peer → HasComeFrom pass peer challenge → HasComeFrom pass octets challenge
came_from pass octets peer challenge same is = subst (λ from. HasComeFrom pass from challenge) (sym same) is

-- the calls behind a join, with that join among those of its visit
within : (p c : ℕ) (peer challenge : List ℕ) (now : ℕ) (between earlier mine new : List Entry) → mine ≡ entry p (Join peer challenge now) (Joined c) ∷ earlier
    → new ≡ entry p (Quit c) Left ∷ between ++ mine → new ≡ calls_within p peer challenge now c between ++ earlier
within p c peer challenge now between earlier mine new last made =
    made ∙ ap (λ (es : List Entry). entry p (Quit c) Left ∷ between ++ es) last
    ∙ ap (λ (es : List Entry). entry p (Quit c) Left ∷ es) (sym (append_assoc between (entry p (Join peer challenge now) (Joined c) ∷ []) earlier))

module _ {S : Type 0} (reports : S → StreamCall → S → Type 0) (may_read : ℕ → Type 0) (arrives : List ℕ → List ℕ → S → Type 0) where
  abbrev Arrived : List ℕ → List ℕ → ℕ → S → Type 0
  Arrived = HasArrived reports may_read arrives

  pub none : (p : ℕ) → AreVisits reports may_read arrives p []
  none p = record { visits = []; calls = refl; each = All-nil (IsVisit reports may_read arrives p) }

  -- one more visit
  one_more : (p : ℕ) (visit : Visit) (mine new : List Entry) → IsVisit reports may_read arrives p visit → new ≡ calls_of p visit ++ mine
      → AreVisits reports may_read arrives p mine → AreVisits reports may_read arrives p new
  one_more p visit mine new is made before = record {
    visits = visit ∷ before.visits;
    calls = made ∙ ap (λ (es : List Entry). calls_of p visit ++ es) before.calls;
    each = All-cons (IsVisit reports may_read arrives p) visit before.visits is before.each;
  }

  joined : (setup : Configured) (hash : List ℕ → List ℕ) (old new : Caller Entry) (peer challenge : List ℕ) (now c : ℕ) (stream : S) → Arrived peer challenge now stream
      → Made setup hash old (Join peer challenge now) (Joined c) new → AreVisits reports may_read arrives old.number old.mine → HasJoined reports may_read arrives stream new.number c new.mine
  joined setup hash old new peer challenge now c stream arrived made before =
      subst (λ p. HasJoined reports may_read arrives stream p c new.mine) (sym made.number) record {
        peer = peer;
        challenge = challenge;
        now = now;
        arrived = arrived;
        earlier = old.mine;
        last = made.mine;
        visits = before;
      }

  turned : (setup : Configured) (hash : List ℕ → List ℕ) (old new : Caller Entry) (peer challenge : List ℕ) (now : ℕ) (reply : Reply) (stream : S) → RefusesJoin reply
      → Arrived peer challenge now stream → Made setup hash old (Join peer challenge now) reply new → AreVisits reports may_read arrives old.number old.mine
      → AreVisits reports may_read arrives new.number new.mine
  turned setup hash old new peer challenge now reply stream is arrived made before =
      subst (λ p. AreVisits reports may_read arrives p new.mine) (sym made.number)
      (one_more old.number (join_refused peer challenge now reply) old.mine new.mine (is, (stream, arrived)) made.mine before)

  refused : (setup : Configured) (hash : List ℕ → List ℕ) (old new : Caller Entry) (peer challenge : List ℕ) (now : ℕ) (stream : S) (why : JoinRefused)
      → Arrived peer challenge now stream → Refused setup hash old (Join peer challenge now) why new → AreVisits reports may_read arrives old.number old.mine
      → AreVisits reports may_read arrives new.number new.mine
  refused setup hash old new peer challenge now stream refusals.Full arrived made before = turned setup hash old new peer challenge now Full stream tt arrived made before
  refused setup hash old new peer challenge now stream refusals.JoinsSpent arrived made before =
      turned setup hash old new peer challenge now JoinsSpent stream tt arrived made before
  refused setup hash old new peer challenge now stream refusals.Memory arrived saw before =
      subst (λ p. AreVisits reports may_read arrives p new.mine) (sym saw.number) (subst (AreVisits reports may_read arrives old.number) (sym saw.mine) before)

  module _ {H : Type 0} where
    pub visited-none : (visitor : VisitorState H) → visitor.caller.mine ≡ [] → HasVisited reports may_read arrives visitor
    visited-none visitor is = ∣ subst (AreVisits reports may_read arrives visitor.caller.number) (sym is) (none visitor.caller.number) ∣₁

    module _ (setup : Configured) (hash : List ℕ → List ℕ) where
      pub entered : (visitor : VisitorState H) (pass : PassState H) (peer challenge : List ℕ) (now : ℕ) (stream : S) → Arrived peer challenge now stream
          → Made setup hash visitor.caller (Join peer challenge now) (Joined pass.connection) pass.caller → HasVisited reports may_read arrives visitor
          → HasEntered reports may_read arrives stream pass
      entered visitor pass peer challenge now stream arrived made before =
          ∥∥₁_map before (joined setup hash visitor.caller pass.caller peer challenge now pass.connection stream arrived made)

      pub visited-refused : (visitor visitor' : VisitorState H) (peer challenge : List ℕ) (now : ℕ) (stream : S) (why : JoinRefused) → Arrived peer challenge now stream
          → Refused setup hash visitor.caller (Join peer challenge now) why visitor'.caller → HasVisited reports may_read arrives visitor → HasVisited reports may_read arrives visitor'
      visited-refused visitor visitor' peer challenge now stream why arrived made before =
          ∥∥₁_map before (refused setup hash visitor.caller visitor'.caller peer challenge now stream why arrived made)

      pub visited-left : (stream : S) (pass : PassState H) (visitor : VisitorState H) → Leaves setup hash pass visitor → HasEntered reports may_read arrives stream pass
          → HasVisited reports may_read arrives visitor
      visited-left stream pass visitor leaves before =
          let p = pass.caller.number in
          let c = pass.connection in
          let made = leaves.1 in
          subst (λ (n : ℕ). ∥ AreVisits reports may_read arrives n visitor.caller.mine ∥₁) (sym made.number)
          (∥∥₁_map before (λ j. one_more p (joined_only j.peer j.challenge j.now c) j.earlier visitor.caller.mine (stream, j.arrived)
          (within p c j.peer j.challenge j.now [] j.earlier pass.caller.mine visitor.caller.mine j.last made.mine) j.visits))

      pub visited-served : (stream : S) (pass : PassState H) (end : End) (stream' : S) (visitor : VisitorState H)
          → ServedByHub setup hash reports may_read stream pass end stream' visitor → HasEntered reports may_read arrives stream pass → HasVisited reports may_read arrives visitor
      visited-served stream pass end stream' visitor s before =
          let p = pass.caller.number in
          let c = pass.connection in
          subst (λ (n : ℕ). ∥ AreVisits reports may_read arrives n visitor.caller.mine ∥₁) (sym s.number)
          (∥∥₁_map before (λ j. one_more p (served j.peer j.challenge j.now c end s.events s.calls) j.earlier visitor.caller.mine
          (stream, stream', j.arrived, s.conversed, s.answered)
          (within p c j.peer j.challenge j.now (reverse s.calls) j.earlier pass.caller.mine visitor.caller.mine j.last s.mine) j.visits))
