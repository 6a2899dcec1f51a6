-- Challenges one after another.
use Rattle.std.proofs.Common.{◌≡◌, ◌∙◌, ap, refl, ℕ, zero, suc, ◌+◌, arith}
use Rattle.rand_chacha.specs.ChaCha.{ChaCha}
use Rattle.hub_challenges.specs.Dealing.{after_dealt, dealt}

pub after-none : (stream : ChaCha) → stream ≡ after_dealt 0 stream
after-none stream = refl

pub after-one : (stream next : ChaCha) → next ≡ (dealt stream).1 → next ≡ after_dealt 1 stream
after-one stream next is = is

-- so many, and then so many more
more : (n m : ℕ) (stream : ChaCha) → after_dealt m (after_dealt n stream) ≡ after_dealt (n + m) stream
more zero m stream = let e : m ≡ 0 + m = omega arith in ap (λ k. after_dealt k stream) e
more (suc n) m stream =
    let e : suc (n + m) ≡ suc n + m = omega arith in
    more n m (dealt stream).1 ∙ ap (λ k. after_dealt k stream) e

pub after-more : (n m : ℕ) (a b c : ChaCha) → b ≡ after_dealt n a → c ≡ after_dealt m b → c ≡ after_dealt (n + m) a
after-more n m a b c first later = later ∙ ap (after_dealt m) first ∙ more n m a
