use Rattle.hub_server.proofs.entries.serve_on.Goals as goal

-- it listens where the settings say
pub returns-clause-served : goal.returns-clause-served
returns-clause-served g c = λ zero. rw c.listen-address.ensures at (c.serve_at.ensures.served zero)
