use Rattle.std.proofs.Common.{sym, ap, subst}
use Rattle.hub_core.specs.declared.share.Touched.TheVariants.{Nobody}
use Rattle.hub_core.specs.CoreState.{CoreState}
use Rattle.hub_core.specs.Moves.{Moves}
use Rattle.hub_core.proofs.Concerned.{join-touches}
use Rattle.hub_core.proofs.NextHistory.{moves-noted}
use Rattle.hub_core.proofs.hub.Core.join.Goals as goal
use Rattle.hub_rules.specs.declared.history.Call.TheVariants.{Join}
use Rattle.hub_rules.specs.declared.history.Reply.TheVariants.{Joined}

pub returns : goal.returns
returns c = record {
  moves = subst (Moves c.args.self.now (Join c.args.peer c.args.challenge c.args.now) (Joined c.in_ok-connection.connection)) (sym c.note.ensures)
      (moves-noted _ _ _ _ Nobody c.in_ok-connection.ensures);
  touched = (ap (λ (s : CoreState). s.touched) c.note.ensures, join-touches c.args.self.now c.note.new.self c.args.peer c.args.challenge c.args.now);
}
