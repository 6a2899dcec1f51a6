use Rattle.std.proofs.Common.{subst}
use Rattle.hub_rules.specs.Configured.{Configured}
use Rattle.hub_stdio.specs.Serving.{Starts}
use Rattle.hub_stdio.proofs.session.StreamSession.open.Goals as goal

pub returns-clause-starts : goal.returns-clause-starts
returns-clause-starts c hash = subst (λ (setup : Configured). Starts setup hash c.join.new.core) c.deref.ensures (c.in_ok-connection.ensures.starts hash)
