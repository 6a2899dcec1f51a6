use Rattle.hub_connections.proofs.PassSessions.{served-by_hub}
use Rattle.hub_connections.proofs.connection.serve_connection.Goals as goal

-- the promise of the session, told in the words of the hub
pub returns-in-Ok-clause-serves : goal.returns-in-Ok-clause-serves
returns-in-Ok-clause-serves g c = λ end stream' left gives.
    served-by_hub (c.in-Ok.ensures.serves end stream' left gives) g.B.OfHub.may_read (λ port. port.server) (λ server. server.now.hub.now.setup) (λ server. g.H.SessionHash.digest_of server.now.hub.now.hash)
    (λ port. port.pass) (λ left. left.visitor) (λ a b call step. (step.0, step.1)) (λ a left is. is.0) c.args.server c.new-connection.ensures.server c.args.pass c.new-connection.ensures.pass
