use Rattle.std.proofs.Common.{Some}
use Rattle.hub_connections.specs.Arrivals.{Arrives}
use Rattle.hub_connections.specs.Stop.{HasStopped}
use Rattle.hub_server.proofs.lifetime.serve_hub.Given as goal

abbrev pub ghosts-run : goal.ghosts-run
ghosts-run g a = record {
  hub = Some a.hub.now;
  may_read = g.C.Moments.may_read a.plan.now.clock.now;
  arrives = Arrives g.T.Ticket.terms g.T.Ticket.number g.T.Ticket.peer g.T.Ticket.began a.terms.now;
  stops = HasStopped g.I.HubPort.terms g.I.HubPort.accepted a.terms.now a.plan.now.settings.now.stop_after;
}
