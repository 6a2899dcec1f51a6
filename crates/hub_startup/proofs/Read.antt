-- What was read of a reader.
use Rattle.std.proofs.Common.{◌≡◌, ◌∙◌, ℕ, ◌≤◌, List, ◌++◌, length, take, sym, ap, arith, length-append}
use Rattle.std.specs.Prelude.{Option, Some, None, Result, Ok, Err, OnOk, IfOk}
use Rattle.std.specs.Io.KnownBytes.{Consumes}
use Rattle.std.proofs.lemmas.List.{length-take, take_all, take-append-le}
use Rattle.session_hash.specs.Tables.{words_from}
use Rattle.hub_startup.specs.Files.{IsSeed, AreFirstBytes, AreTables}

-- 32 bytes that were taken are the first 32
pub seed-of : (a b : Option (List ℕ)) (seed : List ℕ) → length seed ≡ 32 → Consumes a b seed → IsSeed a seed
seed-of None b seed long taken = tt
seed-of (Some xs) None seed long taken = absurd taken
seed-of (Some xs) (Some ys) seed long taken =
    let most : 32 ≤ length seed = omega arith in
    let first : take 32 (seed ++ ys) ≡ seed = take-append-le 32 seed ys most ∙ take_all 32 seed (omega arith) in
    (omega (arith, ap length taken, length-append seed ys), sym (ap (take 32) taken ∙ first))

-- 8,192 of the first 8,193 are all
pub tables-of : (left : Option (List ℕ)) (bytes tables : List ℕ) → AreFirstBytes 8_193 left bytes → length bytes ≡ 8_192
    → tables ≡ words_from 1024 bytes → AreTables left tables
tables-of None bytes tables first long are = tt
tables-of (Some xs) bytes tables first long are =
    let cut : length (take 8_193 xs) ≡ 8_192 = sym (ap length first) ∙ long in
    let all : length xs ≡ 8_192 = omega (arith, cut, length-take 8_193 xs) in
    (all, are ∙ ap (words_from 1024) (first ∙ take_all 8_193 xs (omega arith)))

-- the same of an answer that may be a fault
pub tables-read : {E : Type 0} (r : Result (List ℕ) E) (left : Option (List ℕ)) (bytes : List ℕ) → AreFirstBytes 8_193 left bytes → OnOk r (length bytes ≡ 8_192)
    → IfOk r (λ tables. tables ≡ words_from 1024 bytes) → IfOk r (λ tables. AreTables left tables)
tables-read (Ok tables) left bytes first long are = tables-of left bytes tables first long are
tables-read (Err fault) left bytes first long are = tt
