use Rattle.hub_client.proofs.login.message_of.Goals as goal

pub returns-in-Err-clause-refused : goal.returns-in-Err-clause-refused
returns-in-Err-clause-refused c line reads = c.unsayable.ensures.memory (c.in-Err.ensures.only line reads)
