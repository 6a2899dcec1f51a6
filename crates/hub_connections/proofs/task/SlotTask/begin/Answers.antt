use Rattle.std.proofs.Common.{◌∙◌, Some, sym, ap}
use Rattle.hub_connections.proofs.VisitCalls.{visited-left, visited-served}
use Rattle.hub_connections.proofs.task.SlotTask.begin.Goals as goal

-- the session serves the visit of its pass to the end, and by that what is owed to the connection
pub begin-requires : goal.begin-requires
begin-requires g c = record {
  from = c.args.accepted.from;
  ends = λ end stream' left gives.
      let server = c.args.self.now.server.now in
      let accepted = c.args.accepted in
      let served = c.in-Ok.ensures.serves end stream' left gives in (
        accepted.here ∙ ap Some (sym served.home),
        visited-served _ _ _ server.hub.now.setup (g.H.SessionHash.digest_of server.hub.now.hash) accepted.socket accepted.pass end stream' left.visitor served accepted.entered,
        accepted.owes server.hub.now end stream' left.visitor server.here served,
      );
}

-- a connection that there was no memory to serve has quit at once
pub new-requires-clause-visits : goal.new-requires-clause-visits
new-requires-clause-visits g c =
    let server = c.args.self.now.server.now in
    visited-left _ _ _ server.hub.now.setup (g.H.SessionHash.digest_of server.hub.now.hash) c.args.accepted.socket c.args.accepted.pass c.in-Err.left.visitor c.in-Err.ensures.left c.args.accepted.entered
