-- Blocks of a message that is padded, read as words.
use Rattle.std.proofs.Common.{◌≡◌, ◌∙◌, sym, ap, refl, ℕ, zero, suc, ◌+◌, ◌-◌, ◌*◌, ◌/◌, ◌%◌, ◌^◌, ◌<◌, ◌≤◌, List, [], ◌∷◌, ◌++◌, length, take, drop, replicate, add-one, arith, inl, inr, ◌⊎◌, ⊎_elim, length-append, length-take, length-drop}
use Rattle.std.specs.Int.{w64, from_le_bytes, to_le_bytes}
use Rattle.std.proofs.lemmas.Bool.{cases_lt}
use Rattle.std.proofs.lemmas.List.{append-nil, take-append-le, drop-append-le, take-append-drop, append_assoc, drop-drop, length-replicate}
use Rattle.session_hash.specs.declared.tiger.Registers.{Registers}
use Rattle.session_hash.specs.Padding.{padding, with_padding, block_count, IsTail}
use Rattle.session_hash.specs.Tables.{words_from}
use Rattle.session_hash.specs.Tiger.{block, registers_after, compress}

-- one word more
pub words_from-more : (n i : ℕ) (bytes : List ℕ) → i < n → words_from (n - i) bytes ≡ from_le_bytes w64 (take 8 bytes) ∷ words_from (n - (i + 1)) (drop 8 bytes)
unfolding words_from
words_from-more n i bytes h =
    let e : n - i ≡ suc (n - (i + 1)) = omega arith in
    ap (λ k. words_from k bytes) e

-- what follows the words does not matter
pub words_from-append : (n : ℕ) (xs ys : List ℕ) → 8 * n ≤ length xs → words_from n (xs ++ ys) ≡ words_from n xs
unfolding words_from
words_from-append zero xs ys h = refl
words_from-append (suc n) xs ys h =
    let long : 8 ≤ length xs = omega arith in
    let rest : 8 * n ≤ length (drop 8 xs) = omega (arith, length-drop 8 xs) in
    ap (λ front. from_le_bytes w64 front ∷ words_from n (drop 8 (xs ++ ys))) (take-append-le 8 xs ys long)
    ∙ ap (λ more. from_le_bytes w64 (take 8 xs) ∷ words_from n more) (drop-append-le 8 xs ys long)
    ∙ ap (λ words. from_le_bytes w64 (take 8 xs) ∷ words) (words_from-append n (drop 8 xs) ys rest)

-- the first block of some bytes lies in their first 64
pub first_block : (bytes : List ℕ) → 64 ≤ length bytes → words_from 8 (take 64 bytes) ≡ words_from 8 bytes
first_block bytes long =
    let front : 8 * 8 ≤ length (take 64 bytes) = omega (arith, length-take 64 bytes) in
    sym (words_from-append 8 (take 64 bytes) (drop 64 bytes) front) ∙ ap (words_from 8) (take-append-drop 64 bytes)

-- a whole block of a message is that block of the padded message
pub whole_block : (message : List ℕ) (k : ℕ) → 64 * k + 64 ≤ length message → words_from 8 (take 64 (drop (64 * k) message)) ≡ block (with_padding message) k
whole_block message k h =
    let behind : 64 ≤ length (drop (64 * k) message) = omega (arith, length-drop (64 * k) message) in
    let within : 64 * k ≤ length message = omega arith in
    first_block (drop (64 * k) message) behind
    ∙ sym (words_from-append 8 (drop (64 * k) message) (padding (length message)) behind)
    ∙ ap (words_from 8) (sym (drop-append-le (64 * k) message (padding (length message)) within))

-- behind the whole blocks lie the rest and the padding
pub padded_tail : (message : List ℕ) → drop (64 * (length message / 64)) (with_padding message) ≡ drop (64 * (length message / 64)) message ++ padding (length message)
padded_tail message =
    let within : 64 * (length message / 64) ≤ length message = omega arith in
    drop-append-le (64 * (length message / 64)) message (padding (length message)) within

-- how long the padding is
padding_length : (n : ℕ) → length (padding n) ≡ 1 + (119 - n % 64) % 64 + 8
padding_length n =
    omega (arith, length-append (1 ∷ replicate ((119 - n % 64) % 64) 0) (to_le_bytes w64 (n * 8 % 2 ^ 64)), length-replicate {A = ℕ} ((119 - n % 64) % 64) 0)

pub tail_length : (rest : List ℕ) (n : ℕ) → length rest ≡ n % 64 → length (rest ++ padding n) ≡ n % 64 + 9 + (119 - n % 64) % 64
tail_length rest n e = omega (arith, length-append rest (padding n), padding_length n)

-- one block more
pub absorbed-next : (tables bytes : List ℕ) (k : ℕ) → registers_after tables bytes (k + 1) ≡ compress tables (registers_after tables bytes k) (block bytes k)
unfolding registers_after
absorbed-next tables bytes k = rw add-one refl

pub whole_next : (tables message : List ℕ) (k : ℕ) (registers now : Registers) (words : List ℕ) → k < length message / 64
    → registers ≡ registers_after tables (with_padding message) k
    → words ≡ words_from 8 (take ((64 * k + 64) - 64 * k) (drop (64 * k) message))
    → now ≡ compress tables registers words → now ≡ registers_after tables (with_padding message) (k + 1)
whole_next tables message k registers now words within so_far is_words is_now =
    let size : (64 * k + 64) - 64 * k ≡ 64 = omega arith in
    let fits : 64 * k + 64 ≤ length message = omega arith in
    is_now ∙ ap (λ r. compress tables r words) so_far
    ∙ ap (compress tables (registers_after tables (with_padding message) k)) (is_words ∙ ap (λ n. words_from 8 (take n (drop (64 * k) message))) size ∙ whole_block message k fits)
    ∙ sym (absorbed-next tables (with_padding message) k)

-- what lies behind the whole blocks is one block or two
tail_size : (n r k : ℕ) → r ≡ n % 64 → k ≡ r + 9 + (119 - r) % 64 → (r < 56 × (k ≡ 64)) ⊎ (56 ≤ r × (k ≡ 128))
tail_size n r k e f = ⊎_elim (λ short. inl (short, omega arith)) (λ long. inr (long, omega arith)) (cases_lt r 56)

pub tail_blocks : (message tail : List ℕ) → tail ≡ drop (64 * (length message / 64)) message ++ padding (length message)
    → (length message % 64 < 56 × (length tail ≡ 64)) ⊎ (56 ≤ length message % 64 × (length tail ≡ 128))
tail_blocks message tail is_tail =
    let rest : length (drop (64 * (length message / 64)) message) ≡ length message % 64 = omega (arith, length-drop (64 * (length message / 64)) message) in
    tail_size (length message) (length message % 64) (length tail) refl
    (ap length is_tail ∙ tail_length (drop (64 * (length message / 64)) message) (length message) rest)

pub tail_is_blocks : (message tail : List ℕ) → tail ≡ drop (64 * (length message / 64)) message ++ padding (length message) → IsTail (length tail)
tail_is_blocks message tail is_tail = ⊎_elim (λ one. inl one.1) (λ two. inr two.1) (tail_blocks message tail is_tail)

tail_at : (message tail : List ℕ) → tail ≡ drop (64 * (length message / 64)) message ++ padding (length message)
    → block (with_padding message) (length message / 64) ≡ words_from 8 tail
tail_at message tail is_tail = ap (words_from 8) (padded_tail message ∙ sym is_tail)

second_at : (message tail : List ℕ) → tail ≡ drop (64 * (length message / 64)) message ++ padding (length message)
    → block (with_padding message) (length message / 64 + 1) ≡ words_from 8 (drop 64 tail)
second_at message tail is_tail =
    let size : 64 * (length message / 64 + 1) ≡ 64 * (length message / 64) + 64 = omega arith in
    ap (λ n. words_from 8 (drop n (with_padding message))) size
    ∙ ap (words_from 8) (sym (drop-drop 64 (64 * (length message / 64)) (with_padding message)) ∙ ap (drop 64) (padded_tail message ∙ sym is_tail))

pub absorbed_all : (tables message tail : List ℕ) (registers now : Registers)
    → tail ≡ drop (64 * (length message / 64)) message ++ padding (length message)
    → registers ≡ registers_after tables (with_padding message) (length message / 64)
    → (length tail ≡ 64 → now ≡ compress tables registers (words_from 8 tail))
    → (length tail ≡ 128 → now ≡ compress tables (compress tables registers (words_from 8 (take 64 tail))) (words_from 8 (drop 64 tail)))
    → now ≡ registers_after tables (with_padding message) (block_count (length message))
absorbed_all tables message tail registers now is_tail so_far one two =
    ⊎_elim
    (λ (s : (length message % 64 < 56) × (length tail ≡ 64)).
    let count : block_count (length message) ≡ length message / 64 + 1 = omega (arith, s.0) in
    one s.1 ∙ ap (λ r. compress tables r (words_from 8 tail)) so_far
    ∙ ap (compress tables (registers_after tables (with_padding message) (length message / 64))) (sym (tail_at message tail is_tail))
    ∙ sym (absorbed-next tables (with_padding message) (length message / 64))
    ∙ ap (registers_after tables (with_padding message)) (sym count))
    (λ (s : (56 ≤ length message % 64) × (length tail ≡ 128)).
    let count : block_count (length message) ≡ length message / 64 + 1 + 1 = omega (arith, s.0) in
    let long : 64 ≤ length tail = omega (arith, s.1) in
    two s.1 ∙ ap (λ r. compress tables (compress tables r (words_from 8 (take 64 tail))) (words_from 8 (drop 64 tail))) so_far
    ∙ ap (λ w. compress tables (compress tables (registers_after tables (with_padding message) (length message / 64)) w) (words_from 8 (drop 64 tail)))
    (first_block tail long ∙ sym (tail_at message tail is_tail))
    ∙ ap (λ r. compress tables r (words_from 8 (drop 64 tail))) (sym (absorbed-next tables (with_padding message) (length message / 64)))
    ∙ ap (compress tables (registers_after tables (with_padding message) (length message / 64 + 1))) (sym (second_at message tail is_tail))
    ∙ sym (absorbed-next tables (with_padding message) (length message / 64 + 1))
    ∙ ap (registers_after tables (with_padding message)) (sym count))
    (tail_blocks message tail is_tail)

-- a loop over the words of some bytes, one step on
pub words_next : (n i : ℕ) (bytes rest after words now : List ℕ) (word : ℕ) → i < n
    → words ++ words_from (n - i) rest ≡ words_from n bytes → word ≡ from_le_bytes w64 (take 8 rest) → after ≡ drop 8 rest → now ≡ words ++ word ∷ []
    → now ++ words_from (n - (i + 1)) after ≡ words_from n bytes
words_next n i bytes rest after words now word within so_far is_word is_after is_now =
    ap (λ w. w ++ words_from (n - (i + 1)) after) is_now
    ∙ append_assoc words (word ∷ []) (words_from (n - (i + 1)) after)
    ∙ ap (λ w. words ++ (w ∷ words_from (n - (i + 1)) after)) is_word
    ∙ ap (λ a. words ++ (from_le_bytes w64 (take 8 rest) ∷ words_from (n - (i + 1)) a)) is_after
    ∙ ap (λ more. words ++ more) (sym (words_from-more n i rest within))
    ∙ so_far

pub words_all : (n i : ℕ) (bytes rest words : List ℕ) → n ≤ i → words ++ words_from (n - i) rest ≡ words_from n bytes → words ≡ words_from n bytes
unfolding words_from
words_all n i bytes rest words over so_far =
    let none : n - i ≡ 0 = omega arith in
    sym (append-nil words) ∙ ap (λ k. words ++ words_from k rest) (sym none) ∙ so_far
