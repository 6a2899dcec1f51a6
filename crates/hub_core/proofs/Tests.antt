-- Tests on numbers.
use Rattle.std.proofs.Common.{◌≡◌, ℕ, ◌<◌, ◌≤◌, true, false, arith}
use Rattle.std.specs.Prelude.{nat_le, nat_lt}
use Rattle.std.proofs.lemmas.Bool.Decides.{nat_tests}

pub true-le : (a b : ℕ) → a ≤ b → nat_le a b ≡ true
true-le a b h = grind (arith, nat_tests)

pub false-le : (a b : ℕ) → b < a → nat_le a b ≡ false
false-le a b h = grind (arith, nat_tests)

pub lt-true : (a b : ℕ) → a < b → nat_lt a b ≡ true
lt-true a b h = grind (arith, nat_tests)

pub false-lt : (a b : ℕ) → b ≤ a → nat_lt a b ≡ false
false-lt a b h = grind (arith, nat_tests)
