-- A search for a byte, and the bytes before it.
use Rattle.std.proofs.Common.{◌≡◌, ℕ, ◌+◌, ◌<◌, Bool, false, List, ◌++◌, length, take, drop, All, sym, subst, ◌∙◌, ap, length-take, take-append-drop, arith}
use Rattle.std.proofs.Math.Seq.{take-add}
use Rattle.std.proofs.lemmas.Bool.{false_from_ne_true}
use Rattle.std.proofs.lemmas.List.{get_or-take}
use Rattle.std.proofs.lemmas.List.Elements.{All-from_get_or, All-append}
use Rattle.memchr.specs.Find.{Nowhere, NoneBefore, Passes}

module _ (test : ℕ → Bool) where
  pub All-nowhere : (bytes : List ℕ) → Nowhere (Passes test bytes) 0 (length bytes) → All (λ b. test b ≡ false) bytes
  All-nowhere bytes none =
      All-from_get_or (λ b. test b ≡ false) bytes 0 (λ i h. false_from_ne_true _ (none i (omega arith) h))

  pub All-before : (bytes : List ℕ) (k : ℕ) → NoneBefore (Passes test bytes) 0 (length bytes) k → All (λ b. test b ≡ false) (take k bytes)
  All-before bytes k first =
      All-from_get_or (λ b. test b ≡ false) (take k bytes) 0
      (λ i h. let lt : i < k = omega (arith, length-take k bytes) in ap test (get_or-take k bytes i 0 lt) ∙ false_from_ne_true _ (first.before i (omega arith) lt))

  -- the same, behind bytes that were looked through
  pub All-behind : (bytes : List ℕ) (n : ℕ) → All (λ b. test b ≡ false) (take n bytes) → Nowhere (Passes test (drop n bytes)) 0 (length (drop n bytes)) → All (λ b. test b ≡ false) bytes
  All-behind bytes n seen none =
      let whole : All (λ b. test b ≡ false) (take n bytes ++ drop n bytes) = All-append (λ b. test b ≡ false) (take n bytes) (drop n bytes) seen (All-nowhere (drop n bytes) none) in
      subst (All (λ b. test b ≡ false)) (take-append-drop n bytes) whole

  pub All-behind_before : (bytes : List ℕ) (n k : ℕ) → All (λ b. test b ≡ false) (take n bytes) → NoneBefore (Passes test (drop n bytes)) 0 (length (drop n bytes)) k → All (λ b. test b ≡ false) (take (n + k) bytes)
  All-behind_before bytes n k seen first =
      let whole : All (λ b. test b ≡ false) (take n bytes ++ take k (drop n bytes)) = All-append (λ b. test b ≡ false) (take n bytes) (take k (drop n bytes)) seen (All-before (drop n bytes) k first) in
      subst (All (λ b. test b ≡ false)) (sym (take-add n k bytes)) whole

pub ruleset searches = (All-nowhere, All-before)
