-- When accepting stops: once as many connections came as were left to accept.
use Rattle.std.proofs.Common.{◌≡◌, ◌∙◌, ◌+◌, ℕ, List, [], ◌∷◌, Option, Some, None, refl, sym, ap, arith}
use Rattle.std.specs.Option.{unwrap_or}
use Rattle.std.proofs.lemmas.List.Sums.{sum_by-cons}
use Rattle.std.proofs.lemmas.Option.{none-some}
use Rattle.adc_sessions.specs.AcceptEnds.{AcceptsIn, LeavesAfter, incoming_of, left_of}
use Rattle.adc_sessions.specs.declared.accept.Accept.{Accept}
use Rattle.adc_sessions.specs.declared.incoming.Peer.{Peer}
use Rattle.adc_sessions.specs.Arrivals.{Arrival, Brings, streams, streams_of}
use Rattle.hub_connections.specs.Stop.{HasStopped, StopsWhen, stop_of}
use Rattle.hub_connections.specs.declared.terms.Terms.{Terms}

-- what a source keeps and counts at each arrival, it keeps and counts at all
pub counted : {X P S : Type 0} (brings : X → Arrival S → X → Type 0) (terms_of : X → P) (accepted : X → ℕ)
    → ((a : X) (arrival : Arrival S) (b : X) → brings a arrival b → (terms_of b ≡ terms_of a) × (accepted b ≡ accepted a + streams_of arrival))
    → (arrivals : List (Arrival S)) (a b : X) → Brings brings a arrivals b → (terms_of b ≡ terms_of a) × (accepted b ≡ accepted a + streams arrivals)
counted brings terms_of accepted each [] a b same =
    let e : accepted a ≡ accepted a + 0 = omega arith in
    (ap terms_of (sym same), ap accepted (sym same) ∙ e)
counted brings terms_of accepted each (arrival ∷ arrivals) a b h =
    let first = each a arrival h.0 h.1 in
    let later = counted brings terms_of accepted each arrivals h.0 b h.2 in
    let sums : streams (arrival ∷ arrivals) ≡ streams_of arrival + streams arrivals = sum_by-cons streams_of arrival arrivals in
    let e : accepted b ≡ accepted a + streams (arrival ∷ arrivals) = omega (arith, later.1, first.1, sums) in
    (later.0 ∙ first.0, e)

some-same : (a b : ℕ) → Some a ≡ Some b → a ≡ b
some-same a b same = ap (λ (o : Option ℕ). unwrap_or o 0) same

module _ {I P : Type 0} (stops : Type 0) (promise_of : I → P) (accepted : I → ℕ) where
  pub stops-on : (a b : I) (left left' : Option ℕ) (count : ℕ) → StopsWhen stops promise_of accepted a left → promise_of b ≡ promise_of a → accepted b ≡ accepted a + count
      → LeavesAfter left count left' → StopsWhen stops promise_of accepted b left'
  stops-on a b None left' count when same counts leaves later more promised is more_is = absurd (none-some more (sym leaves ∙ is))
  stops-on a b (Some left) left' count when same counts leaves later more promised is more_is =
      let now : leaves.0 ≡ more = some-same leaves.0 more (sym leaves.1 ∙ is) in
      let e : accepted later ≡ accepted a + left = omega (arith, more_is, counts, now, leaves.2) in
      when later left (promised ∙ same) refl e

  pub stops-now : (port : I) (left : Option ℕ) → StopsWhen stops promise_of accepted port left → left ≡ Some 0 → ∥ stops ∥₁
  stops-now port left when is =
      let e : accepted port ≡ accepted port + 0 = omega arith in
      when port 0 refl is e

-- the accepting goes on
pub stops-after : {I X Y P S : Type 0} (stops : Type 0) (promise_of : I → P) (accepted : I → ℕ) (port_of : X → I) (brings : X → Arrival S → X → Type 0)
    (starts : Y → List (S × Peer) → Y → Type 0)
    → ((a : X) (arrival : Arrival S) (b : X) → brings a arrival b → (promise_of (port_of b) ≡ promise_of (port_of a)) × (accepted (port_of b) ≡ accepted (port_of a) + streams_of arrival))
    → (most : ℕ) (a b : Accept X Y) → StopsWhen stops promise_of accepted (port_of (incoming_of a)) (left_of a) → AcceptsIn brings starts most a b
    → StopsWhen stops promise_of accepted (port_of (incoming_of b)) (left_of b)
stops-after stops promise_of accepted port_of brings starts each most a b when accepts =
    let kept = counted brings (λ x. promise_of (port_of x)) (λ x. accepted (port_of x)) each accepts.0 (incoming_of a) (incoming_of b) accepts.2 in
    stops-on stops promise_of accepted (port_of (incoming_of a)) (port_of (incoming_of b)) (left_of a) (left_of b) (streams accepts.0) when kept.0 kept.1 accepts.4

-- a listener that has accepted nobody
pub stops-first : {I H R : Type 0} (stops : Type 0) (terms_of : I → Terms H R) (accepted : I → ℕ) (terms : Terms H R) (stop_after : ℕ) (port : I)
    → terms_of port ≡ terms → accepted port ≡ 0 → (HasStopped terms_of accepted terms stop_after → ∥ stops ∥₁) → StopsWhen stops terms_of accepted port (stop_of stop_after)
stops-first stops terms_of accepted terms stop_after port same none stopped later more promised is counts =
    let e : more ≡ accepted later = omega (arith, counts, none) in
    stopped (later, promised ∙ same, is ∙ ap Some e)
