use Rattle.std.proofs.Common.{◌≡◌, [], rules, subst, List, ℕ, arith}
use Rattle.std.proofs.lemmas.Bool.Decides.{nat_tests}
use Rattle.hub_client.proofs.Addresses.{without_bytes}
use Rattle.hub_client.specs.Addresses.{IsSplit}
use Rattle.hub_client.proofs.address.HubAddress.parse.Goals as goal

pub returns-then-is_empty : goal.returns-then-is_empty
returns-then-is_empty c =
    let none : c.in_ok-host.host.now ≡ [] = without_bytes c.in_ok-host.host.now (grind (arith, nat_tests)) in
    let split : IsSplit c.bare.result.now c.in_ok-host.host.now c.in_ok-host.digits.now = c.in_ok-host.ensures.parts in (
      search rules,
      (
        c.bare.result.now,
        c.bare.ensures,
        (
          c.in_ok-host.digits.now,
          c.in-Some.port,
          subst (λ (host : List ℕ). IsSplit c.bare.result.now host c.in_ok-host.digits.now) none split,
          c.in-Some.ensures,
        ),
      ),
    )
