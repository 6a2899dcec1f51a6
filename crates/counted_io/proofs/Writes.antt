-- Sums of writes.
use Rattle.std.proofs.Common.{ℕ, ◌+◌, ◌-◌, ◌≤◌, List, length, take, drop, sym, subst, arith, take-add, take-append-drop}
use Rattle.std.specs.Prelude.{Option}
use Rattle.std.specs.Io.KnownBytes.{Appends, Keeps}
use Rattle.std.proofs.KnownBytes.{Appends-trans, Appends-kept}
use Rattle.std.proofs.lemmas.List.{take_rest, length-drop}
use Rattle.counted_io.specs.Parts.{AppendsFront}

-- the rest has no more bytes than that
pub within-rest : (bytes : List ℕ) (k n : ℕ) → k ≤ length bytes → n ≤ length (take (length bytes - k) (drop k bytes)) → k + n ≤ length bytes
within-rest bytes k n h m =
    let most : n ≤ length (drop k bytes) = subst (λ (xs : List ℕ). n ≤ length xs) (take_rest bytes k) m in
    omega (arith, length-drop k bytes)

module _ (a b c : Option (List ℕ)) (bytes : List ℕ) (k n : ℕ) where
  -- the first bytes, and then some of the rest
  pub Appends-rest : Appends a b (take k bytes) → Appends b c (take n (take (length bytes - k) (drop k bytes))) → Appends a c (take (k + n) bytes)
  Appends-rest first second =
      let more : Appends b c (take n (drop k bytes)) = subst (λ (xs : List ℕ). Appends b c (take n xs)) (take_rest bytes k) second in
      subst (λ (xs : List ℕ). Appends a c xs) (sym (take-add k n bytes)) (Appends-trans a b c _ _ first more)

  -- which is a front
  pub front-rest : Appends a b (take k bytes) → Appends b c (take n (take (length bytes - k) (drop k bytes))) → AppendsFront a c bytes
  front-rest first second = (take (k + n) bytes, drop (k + n) bytes, sym (take-append-drop (k + n) bytes), Appends-rest first second)

-- the first bytes, and nothing more, are a front
pub front-kept : (a b c : Option (List ℕ)) (bytes : List ℕ) (k : ℕ) → Appends a b (take k bytes) → Keeps b c → AppendsFront a c bytes
front-kept a b c bytes k first same = (take k bytes, drop k bytes, sym (take-append-drop k bytes), Appends-kept a b c _ first same)
