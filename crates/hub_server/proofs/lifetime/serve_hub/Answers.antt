use Rattle.hub_server.proofs.Stop.{stopped-of}
use Rattle.hub_server.proofs.lifetime.serve_hub.Goals as goal

pub returns-clause-stopped : goal.returns-clause-stopped
returns-clause-stopped g c =
    stopped-of g.I.HubPort.terms g.I.HubPort.accepted c.args.settings.now.stop_after _ (λ it. it.terms) c.close.result c.close.ensures.terms c.in_ok-visitors.ensures.stopped
