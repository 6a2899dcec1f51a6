use Rattle.hub_server.proofs.entries.serve_for_journal.Goals as goal

-- it listens where the settings say
pub returns-clause-served : goal.returns-clause-served
returns-clause-served g c = λ zero. rw c.listen-address.ensures at (c.run_to_status.ensures.served zero)
