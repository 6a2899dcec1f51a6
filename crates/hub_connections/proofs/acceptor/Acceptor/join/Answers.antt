use Rattle.std.proofs.Common.{◌≡◌, rules, subst, sym}
use Rattle.hub_listener.specs.Peers.{octets_of}
use Rattle.hub_connections.proofs.VisitCalls.{entered, visited-refused}
use Rattle.hub_connections.proofs.acceptor.Acceptor.join.Goals as goal

-- a join that was refused since the hub has no place is one more visit
pub new-free-requires-clause-visits : goal.new-free-requires-clause-visits
new-free-requires-clause-visits g c =
    let server = c.args.self.now.server.now in
    let same : octets_of c.args.address ≡ c.octets-peer.result = search rules in
    let told : ∥ g.B.OfHub.may_read c.into_seconds-moment.result ∥₁ = subst (λ now. ∥ g.B.OfHub.may_read now ∥₁) (sym c.into_seconds-moment.ensures) c.moment_of_call.ensures.told in
    visited-refused _ _ _ server.hub.now.setup (g.H.SessionHash.digest_of server.hub.now.hash) c.in-Ok.free.visitor c.in-Err-join.visitor c.octets-peer.result c.args.challenge
    c.into_seconds-moment.result c.args.socket.now c.in-Err-join.field-0-0 (told, subst (λ peer. ∥ g.B.OfHub.arrives peer c.args.challenge c.args.socket.now ∥₁) same c.requires.arrives) c.in-Err-join.ensures.refused c.in-Ok.free.visits

pub returns-in-Ok-join-clause-entered : goal.returns-in-Ok-join-clause-entered
returns-in-Ok-join-clause-entered g c =
    let server = c.args.self.now.server.now in
    let same : octets_of c.args.address ≡ c.octets-peer.result = search rules in
    let told : ∥ g.B.OfHub.may_read c.into_seconds-moment.result ∥₁ = subst (λ now. ∥ g.B.OfHub.may_read now ∥₁) (sym c.into_seconds-moment.ensures) c.moment_of_call.ensures.told in
    entered _ _ _ server.hub.now.setup (g.H.SessionHash.digest_of server.hub.now.hash) c.in-Ok.free.visitor c.in-Ok-join.pass c.octets-peer.result c.args.challenge
    c.into_seconds-moment.result c.args.socket.now (told, subst (λ peer. ∥ g.B.OfHub.arrives peer c.args.challenge c.args.socket.now ∥₁) same c.requires.arrives) c.in-Ok-join.ensures.made c.in-Ok.free.visits
