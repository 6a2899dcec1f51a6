use Rattle.std.proofs.Common.{◌∙◌, ap, sym, subst}
use Rattle.adc_sessions.specs.AcceptEnds.{incoming_of}
use Rattle.hub_listener.specs.Rests.{socket_of}
use Rattle.hub_connections.specs.Stop.{StopsWhen}
use Rattle.hub_connections.proofs.StopAfter.{stops-first}
use Rattle.hub_connections.proofs.listening.accept_task.Goals as goal

pub new-requires-2 : goal.new-requires-2
new-requires-2 g c =
    let port = ap (λ a. socket_of a.listener) c.new-accept.ensures.incoming ∙ ap socket_of c.new-arrivals.ensures ∙ c.new-listener.ensures.socket in
    record {
      stops = subst (λ left. StopsWhen g.B.OfHub.stops g.I.HubPort.terms g.I.HubPort.accepted (socket_of (incoming_of c.new-accept.result).listener) left) (sym (c.new-accept.ensures.left ∙ c.stop_after-stop_after.ensures))
          (stops-first g.B.OfHub.stops g.I.HubPort.terms g.I.HubPort.accepted c.args.terms.now c.args.settings.now.stop_after (socket_of (incoming_of c.new-accept.result).listener) (ap g.I.HubPort.terms port ∙ c.requires.promised)
          (ap g.I.HubPort.accepted port ∙ c.requires.none) c.requires.stops);
    }
