use Rattle.std.proofs.Common.{◌∙◌, sym}
use Rattle.hub_connections.proofs.VisitCalls.{for-some}
use Rattle.hub_connections.proofs.served_slot.ServedSlot.poll_over.Goals as goal

-- whatever comes out of the session later could have come out of it before
pub invariant_of-self-in-Pending : goal.invariant_of-self-in-Pending
invariant_of-self-in-Pending g c = record {
  has_guest = λ session same. c.args.self.now.has_guest c.in-Some.session c.in-Some.is;
  from = c.args.self.now.from;
  ends = for-some _ c.poll.new.self
      (λ guest is end stream left gives. c.args.self.now.ends c.in-Some.session c.in-Some.is guest is end stream left (c.in-Pending.ensures.same (end, stream, left) gives));
}

pub new-requires-clause-here : goal.new-requires-clause-here
new-requires-clause-here g c =
    let out = c.in-Ready in
    (c.args.self.now.ends c.in-Some.session c.in-Some.is c.in-Some-take.guest (sym c.take.ensures.value ∙ c.in-Some-take.is) out.end out.socket out.left out.ensures.value).0

pub new-requires-clause-visits : goal.new-requires-clause-visits
new-requires-clause-visits g c =
    let out = c.in-Ready in
    (c.args.self.now.ends c.in-Some.session c.in-Some.is c.in-Some-take.guest (sym c.take.ensures.value ∙ c.in-Some-take.is) out.end out.socket out.left out.ensures.value).1

pub invariant_of-result : goal.invariant_of-result
invariant_of-result g c =
    let out = c.in-Ready in
    record {
      from = c.args.self.now.from c.in-Some-take.guest (sym c.take.ensures.value ∙ c.in-Some-take.is);
      owed = (c.args.self.now.ends c.in-Some.session c.in-Some.is c.in-Some-take.guest (sym c.take.ensures.value ∙ c.in-Some-take.is) out.end out.socket out.left out.ensures.value).2;
    }
