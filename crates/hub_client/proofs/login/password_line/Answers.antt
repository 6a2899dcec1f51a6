use Rattle.std.proofs.Common.{rules, ◌≡◌, ◌++◌, ℕ, List, length, sym, subst}
use Rattle.std.specs.Prelude.{codes}
use Rattle.adc_line.specs.Grammar.{Reads}
use Rattle.hub_client.proofs.ClientMessages.{password_message, reads-password}
use Rattle.hub_client.proofs.login.password_line.Goals as goal

pub returns-clause-refused : goal.returns-clause-refused
returns-clause-refused g c =
    let word : List ℕ = c.encode24.result in
    let long : length word ≡ 39 = search rules in
    let is : c.deref-2.result.now ≡ codes "HPAS " ++ word = search rules in
    c.message_of.ensures.refused (password_message word)
    (subst (λ (bytes : List ℕ). Reads bytes (password_message word)) (sym is) (reads-password word long c.encode24.ensures.spelt.1))
