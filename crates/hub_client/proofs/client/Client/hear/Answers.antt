use Rattle.std.proofs.Common.{[], ◌∷◌, ◌∙◌, arith}
use Rattle.std.proofs.lemmas.Result.{err_from_is_err_and}
use Rattle.hub_client.specs.Talks.{unheard, HearsLines}
use Rattle.hub_client.proofs.Heard.{hears-then, none-then}
use Rattle.hub_client.proofs.client.Client.hear.Goals as goal

pub returns-in_err-line-clause-none : goal.returns-in_err-line-clause-none
returns-in_err-line-clause-none g c =
    let p = err_from_is_err_and c.from_residual.result c.from_residual.ensures.1 in
    rw (p.1, p.2) (none-then g.S.Read.remaining c.args.self.now c.turns.self c.hear_some.new.self _ c.turns.invariant.empty c.in_err-line.ensures.none)

pub returns-in-Some-clause-heard : goal.returns-in-Some-clause-heard
returns-in-Some-clause-heard g c =
    let remaining = g.S.Read.remaining in
    let line : HearsLines (unheard remaining c.turns.self) (unheard remaining c.hear_some.new.self) (c.in-Some.line ∷ []) = rw c.in-Some.is at c.in_ok-line.ensures.heard in
    hears-then (unheard remaining c.args.self.now) (unheard remaining c.turns.self) (unheard remaining c.hear_some.new.self) [] (c.in-Some.line ∷ []) c.turns.invariant.empty line

pub turns-preserved : goal.turns-preserved
turns-preserved g c =
    let remaining = g.S.Read.remaining in
    let line : HearsLines (unheard remaining c.turns.self) (unheard remaining c.hear_some.new.self) [] = rw c.in_default.is at c.in_ok-line.ensures.heard in
    record {
      empty = hears-then (unheard remaining c.args.self.now) (unheard remaining c.turns.self) (unheard remaining c.hear_some.new.self) [] [] c.turns.invariant.empty line;
      users = c.hear_some.ensures.users ∙ c.turns.invariant.users;
      gone = c.hear_some.ensures.gone ∙ c.turns.invariant.gone;
      fewer = omega (arith, c.hear_some.ensures.turns, c.turns.invariant.fewer);
    }
