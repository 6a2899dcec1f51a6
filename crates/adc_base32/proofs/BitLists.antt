-- Bits of numbers: a number's bits are those of its parts, one behind the other, and tell its value.
use Rattle.std.proofs.Common.{◌≡◌, ◌∙◌, sym, ap, refl, ℕ, zero, suc, ◌+◌, ◌*◌, ◌-◌, ◌/◌, ◌%◌, ◌^◌, ◌<◌, ◌≤◌, ◌∷◌, [], ◌++◌, List, length, replicate, arith}
use Rattle.std.specs.List.{flat_map, All}
use Rattle.std.proofs.lemmas.List.{length-append, append_cancel_left}
use Rattle.std.proofs.lemmas.Nat.{shr-shr, mod-pow-add, field_of, pow-add}
use Rattle.std.proofs.Math.Pow.{mod-mod-pow}
use Rattle.std.proofs.Math.Nat.{zero-div, zero-mod}
use Rattle.std.proofs.lemmas.Grind.{common_steps, flat_map-append}
use Rattle.adc_base32.specs.Bits.{bits}

pub length-bits : (k n : ℕ) → length (bits k n) ≡ k
unfolding bits
length-bits zero n = refl
length-bits (suc k) n = ap suc (length-bits k n)

-- the high bits and then the low ones
pub bits-add : (j k n : ℕ) → bits (j + k) n ≡ bits j (n / 2 ^ k) ++ bits k n
unfolding bits
bits-add zero k n = let e : zero + k ≡ k = omega arith in rw e refl
bits-add (suc j) k n =
    let e : suc j + k ≡ suc (j + k) = omega arith in
    let f : k + j ≡ j + k = omega arith in
    let head : n / 2 ^ k / 2 ^ j ≡ n / 2 ^ (j + k) = shr-shr n k j ∙ ap (λ i. n / 2 ^ i) f in
    rw (e, head, ← bits-add j k n) refl

-- a bit below a mask is left as it was
bit-mod : (d k n : ℕ) → n % 2 ^ (suc d + k) / 2 ^ k % 2 ≡ n / 2 ^ k % 2
bit-mod d k n =
    let e : suc d ≡ d + 1 = omega arith in
    ap (λ x. x % 2) (field_of n (suc d) k) ∙ ap (λ i. n / 2 ^ k % 2 ^ i % 2) e ∙ mod-mod-pow (n / 2 ^ k) d 1

bits-mod-add : (d k n : ℕ) → bits k (n % 2 ^ (d + k)) ≡ bits k n
unfolding bits
bits-mod-add d zero n = refl
bits-mod-add d (suc k) n =
    let e : d + suc k ≡ suc d + k = omega arith in
    rw e (rw (bit-mod d k n, bits-mod-add (suc d) k n) refl)

-- a mask of at least so many bits changes none of them
pub bits-mod : (k j n : ℕ) → k ≤ j → bits k (n % 2 ^ j) ≡ bits k n
bits-mod k j n h =
    let e : (j - k) + k ≡ j = omega arith in
    ap (λ i. bits k (n % 2 ^ i)) (sym e) ∙ bits-mod-add (j - k) k n

pub bits-zero : (k : ℕ) → bits k 0 ≡ replicate k 0
unfolding bits
bits-zero zero = refl
bits-zero (suc k) = rw (zero-div (2 ^ k), bits-zero k) refl

pub bits-multiple : (k n : ℕ) → n % 2 ^ k ≡ 0 → bits k n ≡ replicate k 0
bits-multiple k n h = sym (bits-mod k k n (omega arith)) ∙ ap (bits k) h ∙ bits-zero k

-- bits tell the number below a mask
pub mod-from_bits : (k a b : ℕ) → bits k a ≡ bits k b → a % 2 ^ k ≡ b % 2 ^ k
unfolding bits
mod-from_bits zero a b h = omega arith
mod-from_bits (suc k) a b h =
    let tails : bits k a ≡ bits k b = grind (arith, common_steps, h) in
    let heads : a / 2 ^ k % 2 ≡ b / 2 ^ k % 2 = grind (arith, common_steps, h) in
    let below = mod-from_bits k a b tails in
    let e : suc k ≡ 1 + k = omega arith in
    rw (e, mod-pow-add a 1 k, mod-pow-add b 1 k, below) (ap (λ x. x * 2 ^ k + b % 2 ^ k) heads)

pub multiple-from_bits : (k n : ℕ) → bits k n ≡ replicate k 0 → n % 2 ^ k ≡ 0
multiple-from_bits k n h = mod-from_bits k n 0 (h ∙ sym (bits-zero k)) ∙ zero-mod (2 ^ k)
