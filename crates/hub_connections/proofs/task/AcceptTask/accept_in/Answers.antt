use Rattle.std.proofs.Common.{◌≡◌, ◌+◌}
use Rattle.adc_sessions.specs.AcceptEnds.{incoming_of, left_of}
use Rattle.adc_sessions.specs.Arrivals.{streams_of}
use Rattle.hub_listener.specs.Rests.{socket_of}
use Rattle.hub_connections.proofs.StopAfter.{stops-after, stops-now}
use Rattle.hub_connections.proofs.task.AcceptTask.accept_in.Goals as goal

pub invariant_of-self : goal.invariant_of-self
invariant_of-self g c = record {
  stops = stops-after g.B.OfHub.stops g.I.HubPort.terms g.I.HubPort.accepted (λ a. socket_of a.listener)
      (λ a arrival b. (g.I.HubPort.terms (socket_of b.listener) ≡ g.I.HubPort.terms (socket_of a.listener))
      × (g.I.HubPort.accepted (socket_of b.listener) ≡ g.I.HubPort.accepted (socket_of a.listener) + streams_of arrival))
      (λ a n b. b ≡ a) (λ a arrival b is. is) 16 c.args.self.now.accept c.poll.new.self c.args.self.now.stops c.poll.ensures.accepts;
}

pub new-requires : goal.new-requires
new-requires g c = record {
  stopped = stops-now g.B.OfHub.stops g.I.HubPort.terms g.I.HubPort.accepted (socket_of (incoming_of c.poll.new.self).listener) (left_of c.poll.new.self)
      (stops-after g.B.OfHub.stops g.I.HubPort.terms g.I.HubPort.accepted (λ a. socket_of a.listener)
      (λ a arrival b. (g.I.HubPort.terms (socket_of b.listener) ≡ g.I.HubPort.terms (socket_of a.listener))
      × (g.I.HubPort.accepted (socket_of b.listener) ≡ g.I.HubPort.accepted (socket_of a.listener) + streams_of arrival))
      (λ a n b. b ≡ a) (λ a arrival b is. is) 16 c.args.self.now.accept c.poll.new.self c.args.self.now.stops c.poll.ensures.accepts) (rw c.in-Ready-Stopped.field-0-is at c.in-Ready-Stopped.ensures.over);
}
