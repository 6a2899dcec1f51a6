use Rattle.std.proofs.Common.{ap}
use Rattle.hub_shared.specs.Callers.{VisitorState}
use Rattle.hub_connections.proofs.VisitCalls.{visited-left}
use Rattle.hub_connections.proofs.acceptor.Acceptor.hand_over.Goals as goal

-- a connection that nobody could serve has quit at once
pub new-requires-clause-visits : goal.new-requires-clause-visits
new-requires-clause-visits g c =
    let server = c.args.self.now.server.now in
    visited-left _ _ _ server.hub.now.setup (g.H.SessionHash.digest_of server.hub.now.hash) c.in-Some.accepted.socket c.in-Some.accepted.pass c.quit-visitor.result
    (ap (λ (v : VisitorState _). v.home) c.quit-visitor.ensures.visitor, c.quit-visitor.ensures.made) c.in-Some.accepted.entered
