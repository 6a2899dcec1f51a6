use Rattle.std.proofs.Common.{◌∙◌, Err, ap, refl}
use Rattle.hub_listener.specs.Peers.{octets_of}
use Rattle.hub_connections.specs.Owed.{challenge_of}
use Rattle.hub_connections.proofs.Owed.{owes-of}
use Rattle.hub_connections.proofs.Refusals.{refused-for}
use Rattle.hub_connections.proofs.acceptor.AcceptorStarterNewcomer.start.Goals as goal

pub invariant_of-accepted : goal.invariant_of-accepted
invariant_of-accepted g c = record {
  began = c.args.newcomer.began;
  from = c.args.newcomer.peer;
  here = c.in-Ok.ensures.here;
  challenged = c.in-Ok.ensures.challenged;
  entered = c.in-Ok.ensures.entered;
  owes = owes-of _ _ _ _ _ _ _ _ _ c.args.newcomer.owes c.in-Ok.joined.0 c.in-Ok.ensures.here c.in-Ok.ensures.came c.args.newcomer.peer;
}

-- the join that was refused came from the ticket's address, with the challenge of its number
pub turn_away-requires-clause-refused : goal.turn_away-requires-clause-refused
turn_away-requires-clause-refused g c free full =
    let newcomer = c.args.newcomer in
    let ticket = newcomer.arrived.ticket in
    refused-for (octets_of newcomer.arrived.address) (g.T.Ticket.peer ticket) newcomer.challenge (challenge_of (g.T.Ticket.terms ticket).seed.value (g.T.Ticket.number ticket))
    free.visitor free.visitor newcomer.peer newcomer.challenged refl (c.join.ensures.turned_away free (c.in-Err.is ∙ ap Err full))
