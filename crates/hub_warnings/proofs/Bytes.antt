-- Lines, byte by byte.
use Rattle.std.proofs.Common.{◌≡◌, ◌≢◌, ◌∙◌, ℕ, suc, ◌+◌, ◌<◌, List, [], ◌∷◌, ◌++◌, length, get_or, take, Bool, true, false, sym, ap, refl, arith}
use Rattle.std.specs.Prelude.{IsTrue, ◌==◌, if◌then◌else◌}
use Rattle.std.proofs.lemmas.List.{take_more}
use Rattle.std.proofs.lemmas.Grind.{common_steps}
use Rattle.hub_warnings.specs.Queued.{is_line, IsOpen, open_after}

-- an open line that is ended
pub ended-line : (bytes : List ℕ) → IsOpen bytes → IsTrue (is_line (bytes ++ 10 ∷ []))
ended-line [] before = grind arith
ended-line (byte ∷ bytes) before =
    let rest : IsTrue (is_line (bytes ++ 10 ∷ [])) = ended-line bytes (λ k d h. before (suc k) d (omega arith)) in
    let first : byte ≢ 10 = before 0 byte (omega arith) in
    grind (arith, common_steps)

-- one byte more
pub open_after-push : (bytes line : List ℕ) (byte : ℕ) → open_after line (bytes ++ byte ∷ []) ≡ open_after (open_after line bytes) (byte ∷ [])
open_after-push [] line byte = refl
open_after-push (first ∷ bytes) line byte = open_after-push bytes (if first == 10 then [] else (line ++ first ∷ [])) byte

-- a line feed leaves nothing open
feed : (line : List ℕ) (byte : ℕ) → byte ≡ 10 → open_after line (byte ∷ []) ≡ []
feed line byte same = grind (arith, common_steps)

-- a step of a loop over bytes: what is not lost is what is open
module _ (bytes start old new : List ℕ) (was is : Bool) (i byte : ℕ) where
  pub open_after-step : i < length bytes → byte ≡ get_or bytes i 0 → (was ≡ false → old ≡ open_after start (take i bytes))
      → (was ≡ true → byte ≢ 10 → is ≡ true) → (is ≡ false → new ≡ open_after old (byte ∷ [])) → is ≡ false → new ≡ open_after start (take (i + 1) bytes)
  open_after-step within this before stays step kept =
      let more : open_after start (take (i + 1) bytes) ≡ open_after (open_after start (take i bytes)) (get_or bytes i 0 ∷ []) =
      ap (open_after start) (take_more bytes i 0 within) ∙ open_after-push (take i bytes) start (get_or bytes i 0) in
      let ended : byte ≡ 10 → new ≡ open_after start (take (i + 1) bytes) = λ (e : byte ≡ 10).
      step kept ∙ feed old byte e ∙ sym (more ∙ feed (open_after start (take i bytes)) (get_or bytes i 0) (sym this ∙ e)) in
      let whole : was ≡ false → new ≡ open_after start (take (i + 1) bytes) = λ (e : was ≡ false).
      step kept ∙ ap (λ xs. open_after xs (byte ∷ [])) (before e) ∙ ap (λ b. open_after (open_after start (take i bytes)) (b ∷ [])) this ∙ sym more in
      grind (arith, common_steps)
