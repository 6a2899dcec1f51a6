use Rattle.std.proofs.Common.{ap}
use Rattle.hub_connections.specs.NamedHub.{home_in}
use Rattle.hub_server.proofs.lifetime.run.Goals as goal

-- all that came back are of the hub that is named
pub returns-clause-visitors : goal.returns-clause-visitors
returns-clause-visitors g c = c.leave.ensures.here c.args.hub.now.home (ap home_in c.requires.here)
