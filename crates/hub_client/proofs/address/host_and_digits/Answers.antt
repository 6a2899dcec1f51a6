use Rattle.std.proofs.Common.{◌≡◌, [], inl, inr, subst, arith}
use Rattle.std.proofs.lemmas.Bool.Decides.{nat_tests}
use Rattle.hub_client.specs.Addresses.{IsSplit}
use Rattle.hub_client.proofs.Addresses.{host_has_none, no_colon, split_at, two_colons, without_bytes}
use Rattle.hub_client.proofs.address.host_and_digits.Goals as goal

pub returns-in_default-clause-refused : goal.returns-in_default-clause-refused
returns-in_default-clause-refused c = inl (no_colon c.args.bare.now c.in_default.ensures.cases)

pub returns-then-contains-clause-refused : goal.returns-then-contains-clause-refused
returns-then-contains-clause-refused c =
    let split = split_at c.args.bare.now c.in-Some.host.now c.in-Some.digits.now c.in-Some.ensures.cases in
    two_colons c.args.bare.now c.in-Some.host.now c.in-Some.digits.now split.0 c.if-contains.ensures.cases

pub returns-then-is_empty-clause-refused : goal.returns-then-is_empty-clause-refused
returns-then-is_empty-clause-refused c =
    let split = split_at c.args.bare.now c.in-Some.host.now c.in-Some.digits.now c.in-Some.ensures.cases in
    let none : c.in-Some.digits.now ≡ [] = without_bytes c.in-Some.digits.now (grind (arith, nat_tests)) in
    inr (c.in-Some.host.now, subst (IsSplit c.args.bare.now c.in-Some.host.now) none (split.0, host_has_none c.in-Some.host.now c.if-contains.ensures.cases, split.1))

pub returns-clause-parts : goal.returns-clause-parts
returns-clause-parts c =
    let split = split_at c.args.bare.now c.in-Some.host.now c.in-Some.digits.now c.in-Some.ensures.cases in
    (split.0, host_has_none c.in-Some.host.now c.if-contains.ensures.cases, split.1)
