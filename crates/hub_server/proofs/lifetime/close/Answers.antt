use Rattle.std.proofs.Common.{ap}
use Rattle.hub_server.proofs.Close.{served-all}
use Rattle.hub_server.proofs.lifetime.close.Goals as goal

pub returns-clause-all : goal.returns-clause-all
returns-clause-all g c =
    served-all _ _ _ _ _ _ g.H.SessionHash.digest_of c.args.plan.now.settings.now.hub c.args.plan.now.hash.now c.args.hub c.args.terms c.args.visitors.items c.of-back.result.value.items
    c.in-Ok.report.joins c.requires.set c.requires.hashed c.requires.terms (ap (λ v. v.items) c.of-back.ensures) c.in-Ok.ensures.settled c.requires.visitors c.requires.visits
