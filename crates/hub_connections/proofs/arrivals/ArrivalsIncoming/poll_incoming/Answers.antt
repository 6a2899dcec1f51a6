use Rattle.hub_connections.specs.NamedHub.{hub_in}
use Rattle.std.proofs.Common.{◌∙◌, ap, ap₂, refl, sym, subst}
use Rattle.rand_chacha.specs.ChaCha.{of_seed}
use Rattle.hub_challenges.specs.Dealing.{after_dealt, dealt}
use Rattle.hub_listener.specs.Rests.{socket_of}
use Rattle.hub_connections.specs.Owed.{challenge_of}
use Rattle.hub_connections.specs.Arrivals.{Arrives}
use Rattle.hub_connections.specs.declared.terms.Terms.{Terms}
use Rattle.hub_connections.proofs.Owed.{dealt-more, owes-ticket}
use Rattle.hub_connections.proofs.arrivals.ArrivalsIncoming.poll_incoming.Goals as goal

-- who came has drawn the next challenge
pub invariant_of-self-in-Ready-Ok : goal.invariant_of-self-in-Ready-Ok
invariant_of-self-in-Ready-Ok g c =
    let old = c.args.self.now in
    let port = socket_of old.listener in
    let came = g.met.I.HubPort.comes_so port c.in-Ready-Ok.arrived (socket_of c.poll_arrived.new.self) (rw c.in-Ready-Ok.field-0-is at c.in-Ready-Ok.ensures.came) in
    record {
      hub = ap hub_in came.1 ∙ old.hub;
      clock = ap (λ (t : Terms _ _). t.clock.value) came.1 ∙ old.clock;
      dealt = dealt-more (g.I.HubPort.accepted port) (of_seed (g.I.HubPort.terms port).seed.value) old.challenges c.next.new.self old.dealt (ap (λ p. p.1) c.next.ensures)
          ∙ ap₂ (λ n (t : Terms _ _). after_dealt n (of_seed t.seed.value)) (sym came.2) (sym came.1);
      arrives = subst (λ t. (peer challenge : _) (stream : _) → Arrives g.T.Ticket.terms g.T.Ticket.number g.T.Ticket.peer g.T.Ticket.began t peer challenge stream
          → ∥ g.B.OfHub.arrives peer challenge stream ∥₁) (sym came.1) old.arrives;
    }

pub invariant_of-newcomer : goal.invariant_of-newcomer
invariant_of-newcomer g c =
    let old = c.args.self.now in
    let port = socket_of old.listener in
    let server = old.server.now in
    let it = c.in-Ready-Ok.arrived in
    let come = (g.met.I.HubPort.comes_so port it (socket_of c.poll_arrived.new.self) (rw c.in-Ready-Ok.field-0-is at c.in-Ready-Ok.ensures.came)).0 in
    let chosen = ap (λ p. p.0) c.next.ensures ∙ ap (λ stream. (dealt stream).0) old.dealt in
    record {
      began = come.fresh;
      peer = come.named;
      challenged = chosen ∙ ap₂ (λ n (t : Terms _ _). challenge_of t.seed.value n) (sym come.numbered) (sym come.promised);
      arrives = old.arrives (g.T.Ticket.peer it.ticket) c.next.result it.socket
          record { ticket = it.ticket; promised = come.promised; from = refl; dealt = chosen ∙ ap (λ n. challenge_of (g.I.HubPort.terms port).seed.value n) (sym come.numbered); fresh = come.fresh };
      owes = owes-ticket g.H.SessionHash.digest_of g.C.Moments.may_read _ g.B.OfHub.hub g.B.OfHub.may_read g.T.Ticket.terms g.T.Ticket.number g.T.Ticket.peer g.T.Ticket.began
          (g.I.HubPort.terms port) (g.I.HubPort.accepted port) it c.next.result server.hub.now server.clock.now come server.here old.hub old.clock server.timely chosen;
    }
