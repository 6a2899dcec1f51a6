use Rattle.std.proofs.Common.{◌≡◌, ◌∷◌, ◌++◌, [], List, ℕ, sym, subst, rules}
use Rattle.std.specs.Prelude.{IsTrue}
use Rattle.hub_warnings.specs.Queued.{is_line}
use Rattle.hub_warnings.proofs.Bytes.{ended-line}
use Rattle.hub_warnings.proofs.queued_line.OpenLine.end.Goals as goal

pub invariant_of-result : goal.invariant_of-result
invariant_of-result c =
    let is : c.push.new.self.items ≡ c.args.self.bytes.items ++ 10 ∷ [] = search rules in
    record { whole = subst (λ (xs : List ℕ). IsTrue (is_line xs)) (sym is) (ended-line _ c.args.self.open) }
