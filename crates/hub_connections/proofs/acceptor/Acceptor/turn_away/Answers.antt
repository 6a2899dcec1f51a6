use Rattle.std.proofs.Common.{refl, sym, subst}
use Rattle.hub_connections.specs.Owed.{WritesFull, challenge_of}
use Rattle.hub_connections.proofs.Refusals.{refused-for}
use Rattle.hub_connections.proofs.acceptor.Acceptor.turn_away.Goals as goal

pub refused-requires : goal.refused-requires
refused-requires g c =
    let ticket = c.args.arrived.ticket in
    let peer = g.T.Ticket.peer ticket in
    let challenge = challenge_of (g.T.Ticket.terms ticket).seed.value (g.T.Ticket.number ticket) in
    record {
      told = subst (λ began. ∥ WritesFull g.S.AsyncWrite.writes began c.say_full-told.new.stream ∥₁) (sym c.requires.began) c.say_full-told.ensures.wrote;
      why = refused-for peer peer challenge challenge c.in-HubFull.free.visitor c.of.result.value refl refl c.of.ensures
          (c.requires.refused c.in-HubFull.free c.in-HubFull.is);
    }

pub refused-requires-in-NoSlot : goal.refused-requires-in-NoSlot
refused-requires-in-NoSlot g c = record {
  told = subst (λ began. ∥ WritesFull g.S.AsyncWrite.writes began c.say_full-told-in-NoSlot.new.stream ∥₁) (sym c.requires.began) c.say_full-told-in-NoSlot.ensures.wrote;
  why = tt;
}
