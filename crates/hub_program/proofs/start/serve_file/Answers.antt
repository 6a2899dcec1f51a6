use Rattle.hub_program.proofs.Ending.{ends-server}
use Rattle.hub_program.proofs.start.serve_file.Goals as goal

pub returns-clause-status : goal.returns-clause-status
returns-clause-status g c =
    ends-server g.E.Write.contents c.start-served.result c.start-served.new.errors c.end.new.errors c.end.result c.start-served.ensures.fault c.start-served.ensures.status c.end.ensures.status
    c.end.ensures.tells
