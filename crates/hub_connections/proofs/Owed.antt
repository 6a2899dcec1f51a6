-- What is owed to who has come.
use Rattle.std.proofs.Common.{◌≡◌, ◌∙◌, ◌+◌, ℕ, List, [], ◌∷◌, Option, Some, sym, ap, ap₂, subst}
use Rattle.std.specs.Option.{unwrap_or}
use Rattle.std.proofs.Math.Logic.{∥∥₁_elim, ∥∥₁_prop}
use Rattle.rand_chacha.specs.ChaCha.{ChaCha}
use Rattle.adc_sessions.specs.declared.ending.End.{End}
use Rattle.adc_sessions.specs.Events.{StreamCall, PortCall, handed, took, refused, port_calls}
use Rattle.hub_challenges.specs.Dealing.{dealt, after_dealt}
use Rattle.hub_challenges.proofs.Dealing.{after-more, after-one}
use Rattle.hub_rules.specs.Configured.{Configured}
use Rattle.hub_rules.specs.declared.history.Entry.{Entry}
use Rattle.hub_listener.specs.declared.listens.Arrived.{Arrived}
use Rattle.hub_connections.specs.Answers.{AreAnswered}
use Rattle.hub_connections.specs.Arrivals.{HasCome}
use Rattle.hub_connections.specs.NamedHub.{home_in, hub_in}
use Rattle.hub_connections.specs.Owed.{IsServed, OwesService, OwesServiceOf, challenge_of}
use Rattle.hub_connections.specs.Peers.{HasComeFrom}
use Rattle.hub_connections.specs.ServedByHub.{ServedByHub}
use Rattle.hub_connections.specs.declared.terms.Terms.{Terms}
use Rattle.hub_shared.specs.Callers.{HubState, PassState, VisitorState}

-- the same answers, at moments that another clock told too
answered-by : (reports may_read : ℕ → Type 0) → ((moment : ℕ) → reports moment → ∥ may_read moment ∥₁) → (p c : ℕ) (calls : List PortCall) (entries : List Entry)
    → AreAnswered reports p c calls entries → AreAnswered may_read p c calls entries
answered-by reports may_read also p c [] entries is = is
answered-by reports may_read also p c (handed line verdict ∷ calls) entries is =
    (is.0, is.1, ∥∥₁_elim is.2 ∥∥₁_prop (also is.0), is.3, answered-by reports may_read also p c calls is.1 is.4)
answered-by reports may_read also p c (took count bytes taken ∷ calls) entries is = (is.0, is.1, answered-by reports may_read also p c calls is.0 is.2)
answered-by reports may_read also p c (refused ∷ calls) entries is = answered-by reports may_read also p c calls entries is

module _ {H R S : Type 0} (digest : H → List ℕ → List ℕ) (may_read : R → ℕ → Type 0) (reports : S → StreamCall → S → Type 0) where
  -- who was served at moments of one clock was served at those of another that told them, too
  served-by : (setup : Configured) (hash : List ℕ → List ℕ) (moments others : ℕ → Type 0) → ((moment : ℕ) → moments moment → ∥ others moment ∥₁) → (stream : S) (pass : PassState H) (end : End)
      (stream' : S) (visitor : VisitorState H) → ServedByHub setup hash reports moments stream pass end stream' visitor → ServedByHub setup hash reports others stream pass end stream' visitor
  served-by setup hash moments others also stream pass end stream' visitor served = record {
    events = served.events;
    conversed = served.conversed;
    calls = served.calls;
    answered = answered-by moments others also pass.caller.number pass.connection (port_calls served.events) served.calls served.answered;
    home = served.home;
    number = served.number;
    mine = served.mine;
    seen = served.seen;
    legal = served.legal;
    own = served.own;
  }

  -- who is served by the named hub is served by the terms' hub
  pub owes-service : (named : Option (HubState H)) (moments : ℕ → Type 0) (terms : Terms H R) (number : ℕ) (peer challenge : List ℕ) (stream began : S) (hub : HubState H)
      → named ≡ Some hub → (hub_in terms) ≡ hub → ((moment : ℕ) → moments moment → ∥ may_read terms.clock.value moment ∥₁)
      → challenge ≡ challenge_of terms.seed.value number → began ≡ stream
      → OwesService named digest reports moments peer challenge stream (λ end later. IsServed digest may_read reports terms number peer began end later)
  owes-service named moments terms number peer challenge stream began hub is terms_are timely chosen same hub' pass end later visitor is' here came served =
      let hubs : hub' ≡ (hub_in terms) = ap (λ (o : Option (HubState H)). unwrap_or o hub') (sym is' ∙ is) ∙ sym terms_are in
      ∣ record {
        pass = pass;
        visitor = visitor;
        here = here ∙ ap (λ (h : HubState H). h.home) hubs;
        came = subst (λ c. HasComeFrom pass peer c) chosen came;
        served = subst (λ s. ServedByHub (hub_in terms).setup (digest (hub_in terms).hash) reports (may_read terms.clock.value) s pass end later visitor) (sym same)
            (subst (λ (h : HubState H). ServedByHub h.setup (digest h.hash) reports (may_read terms.clock.value) stream pass end later visitor) hubs
            (served-by (hub'.setup) (digest hub'.hash) moments (may_read terms.clock.value) timely stream pass end later visitor served));
      } ∣₁

-- what is owed to who has come is owed to the pass by which it joined
pub owes-of : {H S : Type 0} (named : Option (HubState H)) (digest : H → List ℕ → List ℕ) (reports : S → StreamCall → S → Type 0) (may_read : ℕ → Type 0) (peer octets challenge : List ℕ) (stream : S)
    (owed : End → S → Type 0) → OwesService named digest reports may_read peer challenge stream owed → (pass : PassState H) → home_in named ≡ Some pass.home → HasComeFrom pass octets challenge → peer ≡ octets
    → OwesServiceOf named digest reports may_read stream pass owed
owes-of named digest reports may_read peer octets challenge stream owed owes pass here came same hub end later visitor is served =
    let homes : pass.home ≡ hub.home = ap (λ o. unwrap_or o pass.home) (sym here ∙ ap home_in is) in
    owes hub pass end later visitor is homes (subst (λ p. HasComeFrom pass p challenge) (sym same) came) served

-- the same of the ticket that says so
pub owes-ticket : {H R S T : Type 0} (digest : H → List ℕ → List ℕ) (may_read : R → ℕ → Type 0) (reports : S → StreamCall → S → Type 0) (named : Option (HubState H)) (moments : ℕ → Type 0)
    (terms_of : T → Terms H R) (number_of : T → ℕ) (peer_of : T → List ℕ) (began : T → S) (terms : Terms H R) (number : ℕ) (it : Arrived S T) (challenge : List ℕ) (hub : HubState H) (clock : R)
    → HasCome terms_of number_of peer_of began terms number it → named ≡ Some hub → (hub_in terms) ≡ hub → terms.clock.value ≡ clock → ((moment : ℕ) → moments moment → ∥ may_read clock moment ∥₁)
    → challenge ≡ challenge_of terms.seed.value number
    → OwesService named digest reports moments (peer_of it.ticket) challenge it.socket
    (λ end later. IsServed digest may_read reports (terms_of it.ticket) (number_of it.ticket) (peer_of it.ticket) (began it.ticket) end later)
owes-ticket digest may_read reports named moments terms_of number_of peer_of began terms number it challenge hub clock come is hubs clocks timely chosen =
    owes-service digest may_read reports named moments (terms_of it.ticket) (number_of it.ticket) (peer_of it.ticket) challenge it.socket (began it.ticket) hub is
    (ap hub_in come.promised ∙ hubs)
    (λ moment told. subst (λ c. ∥ may_read c moment ∥₁) (sym (ap (λ (t : Terms _ _). t.clock.value) come.promised ∙ clocks)) (timely moment told))
    (chosen ∙ ap₂ (λ (t : Terms _ _) n. challenge_of t.seed.value n) (sym come.promised) (sym come.numbered)) come.fresh

-- one challenge more is dealt
pub dealt-more : (number : ℕ) (seed before after : ChaCha) → before ≡ after_dealt number seed → after ≡ (dealt before).1 → after ≡ after_dealt (number + 1) seed
dealt-more number seed before after is next = after-more number 1 seed before after is (after-one before after next)
