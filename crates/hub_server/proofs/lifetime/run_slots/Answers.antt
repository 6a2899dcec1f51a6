use Rattle.hub_server.proofs.Stop.{of-well}
use Rattle.hub_server.proofs.lifetime.run_slots.Goals as goal

-- who was given the slots back was served
pub returns-clause-told : goal.returns-clause-told
returns-clause-told g c = of-well c.run_on_threads-served.result.0 c.in_ok-free.ensures.served c.run_on_threads-served.ensures.told
