-- Base32 as the two codecs make it: bits that wait between bytes and digits, and that a text and its bytes tell one another.
use Rattle.std.proofs.Common.{◌≡◌, ◌≢◌, ◌∙◌, sym, ap, refl, ℕ, zero, suc, ◌+◌, ◌*◌, ◌-◌, ◌/◌, ◌%◌, ◌^◌, ◌<◌, ◌≤◌, ◌∷◌, [], ◌++◌, List, length, replicate, take, drop, get_or, Option, Some, None, IsSome, arith, append_assoc, append-nil, unwrap_or, subst, eqb, set}
use Rattle.std.specs.List.{flat_map, All}
use Rattle.std.proofs.lemmas.List.{length-append, take_more, take_more_set, take_all, length-take-le, take-append-drop, length-set}
use Rattle.std.proofs.lemmas.Bool.Decides.{Decides-eqb}
use Rattle.std.specs.Bool.{Decides}
use Rattle.std.proofs.lemmas.Nat.{mod-mul-add, div-mul-add, shl-shr, one_shl}
use Rattle.std.proofs.Math.Pow.{mod-mod-pow}
use Rattle.std.proofs.lemmas.Grind.{common_steps, flat_map-append}
use Rattle.std.proofs.lemmas.List.Concat.{flat_map-cons}
use Rattle.std.proofs.lemmas.Bool.{false≢true}
use Rattle.std.proofs.Math.Nat.{mul-mod_left}
use Rattle.std.proofs.lemmas.List.Elements.{All-append, All-nil}
use Rattle.std.proofs.Math.Seq.{take-append_seam, drop-append_seam}
use Rattle.adc_base32.specs.Digits.{digit_of, value_at}
use Rattle.adc_base32.specs.Bits.{bits, byte_bits, text_bits, value_of, AreDigits, IsBase32, text_len}
use Rattle.adc_base32.proofs.BitLists.{length-bits, bits-add, bits-mod, bits-multiple, mod-from_bits, multiple-from_bits}
use Rattle.adc_base32.proofs.Spelling.{value_at-digit_of, digit_of-value_at}

pub value_of-digit_of : (v : ℕ) → v < 32 → value_of (digit_of v) ≡ v
unfolding value_of
value_of-digit_of v h = rw (value_at-digit_of v h) refl

IsSome-digit_of : (v : ℕ) → v < 32 → IsSome (value_at (digit_of v))
IsSome-digit_of v h = rw (value_at-digit_of v h) refl

-- the bits of a digit
abbrev pub digit_bits : ℕ → List ℕ
digit_bits c = bits 5 (value_of c)

-- the bits of a digit that was made from a number are the number's lowest five
digit_bits-digit_of : (v : ℕ) → digit_bits (digit_of (v % 32)) ≡ bits 5 v
digit_bits-digit_of v = ap (bits 5) (value_of-digit_of (v % 32) (omega arith)) ∙ bits-mod 5 5 v (omega arith)

-- one more element's bits
flat_map-push : (f : ℕ → List ℕ) (xs : List ℕ) (x : ℕ) → flat_map f (xs ++ x ∷ []) ≡ flat_map f xs ++ f x
flat_map-push f xs x = flat_map-append f xs (x ∷ []) ∙ ap (λ ys. flat_map f xs ++ ys) (grind (arith, common_steps))

-- a register that takes up another number: what it held, and then that number
pub bits-join : (p k w held x : ℕ) → p ≤ w → x < 2 ^ k → bits (p + k) (held % 2 ^ w * 2 ^ k + x) ≡ bits p held ++ bits k x
bits-join p k w held x h below =
    let high : (held % 2 ^ w * 2 ^ k + x) / 2 ^ k ≡ held % 2 ^ w = div-mul-add (held % 2 ^ w) (2 ^ k) x below in
    let low : (held % 2 ^ w * 2 ^ k + x) % 2 ^ k ≡ x = mod-mul-add (held % 2 ^ w) (2 ^ k) x below in
    bits-add p k (held % 2 ^ w * 2 ^ k + x)
    ∙ ap (λ y. bits p y ++ bits k (held % 2 ^ w * 2 ^ k + x)) high
    ∙ ap (λ ys. ys ++ bits k (held % 2 ^ w * 2 ^ k + x)) (bits-mod p w held h)
    ∙ ap (λ ys. bits p held ++ ys) (sym (bits-mod k k (held % 2 ^ w * 2 ^ k + x) (omega arith)) ∙ ap (bits k) low)

-- the digits spell the bytes but for the bits that wait
abbrev pub Spells : List ℕ → List ℕ → ℕ → ℕ → Type 0
Spells text bytes held pending =
    AreDigits text × (text_bits text ++ bits pending held ≡ byte_bits bytes) × (5 * length text + pending ≡ 8 * length bytes)

pub Spells-none : Spells [] [] 0 0
unfolding bits
Spells-none = (All-nil _, refl, omega arith)

pub Spells-byte : (text bytes : List ℕ) (held p b : ℕ) → Spells text bytes held p → p < 5 → b < 256 → Spells text (bytes ++ b ∷ []) (held % 16 * 256 + b) (p + 8)
Spells-byte text bytes held p b s below byte = (
  s.0,
  ap (λ ys. text_bits text ++ ys) (bits-join p 8 4 held b (omega arith) byte)
      ∙ sym (append_assoc (text_bits text) (bits p held) (bits 8 b))
      ∙ ap (λ ys. ys ++ bits 8 b) s.1
      ∙ sym (flat_map-push (bits 8) bytes b),
  omega (arith, s.2, length-append bytes (b ∷ [])),
)

AreDigits-push : (text : List ℕ) (v : ℕ) → AreDigits text → AreDigits (text ++ digit_of (v % 32) ∷ [])
AreDigits-push text v h =
    All-append (λ c. IsSome (value_at c)) text (digit_of (v % 32) ∷ []) h (λ k d below. let e : k ≡ 0 = omega arith in rw e (IsSome-digit_of (v % 32) (omega arith)))

pub Spells-digit : (text bytes : List ℕ) (held p q : ℕ) → q ≡ p + 5 → Spells text bytes held q → Spells (text ++ digit_of (held / 2 ^ p % 32) ∷ []) bytes held p
Spells-digit text bytes held p q is s =
    let e : q ≡ 5 + p = omega arith in (
      AreDigits-push text (held / 2 ^ p) s.0,
      ap (λ ys. ys ++ bits p held) (flat_map-push digit_bits text (digit_of (held / 2 ^ p % 32)) ∙ ap (λ ys. text_bits text ++ ys) (digit_bits-digit_of (held / 2 ^ p)))
          ∙ append_assoc (text_bits text) (bits 5 (held / 2 ^ p)) (bits p held)
          ∙ ap (λ ys. text_bits text ++ ys) (sym (ap (λ k. bits k held) e ∙ bits-add 5 p held))
          ∙ s.1,
      omega (arith, s.2, length-append text (digit_of (held / 2 ^ p % 32) ∷ [])),
    )

-- nothing waits: the text stands
pub IsBase32-whole : (text bytes : List ℕ) (held : ℕ) → Spells text bytes held 0 → IsBase32 text bytes
unfolding bits
IsBase32-whole text bytes held s =
    let none : 5 * length text - 8 * length bytes ≡ 0 = omega (arith, s.2) in (
      omega (arith, s.2),
      s.0,
      sym (append-nil (text_bits text)) ∙ s.1 ∙ sym (append-nil (byte_bits bytes)) ∙ ap (λ k. byte_bits bytes ++ replicate k 0) (sym none),
    )

-- some wait: they make one more digit, filled with zeros
filled-bits : (p q held : ℕ) → p + q ≡ 5 → bits 5 (held * 2 ^ q % 2 ^ 32) ≡ bits p held ++ replicate q 0
filled-bits p q held five =
    bits-mod 5 32 (held * 2 ^ q) (omega arith)
    ∙ ap (λ k. bits k (held * 2 ^ q)) (sym five)
    ∙ bits-add p q (held * 2 ^ q)
    ∙ ap (λ x. bits p x ++ bits q (held * 2 ^ q)) (shl-shr held q)
    ∙ ap (λ ys. bits p held ++ ys) (bits-multiple q (held * 2 ^ q) (mul-mod_left held (2 ^ q)))

pub IsBase32-filled : (text bytes : List ℕ) (held p : ℕ) → Spells text bytes held p → 0 < p → p < 5 → IsBase32 (text ++ digit_of (held * 2 ^ (5 - p) % 2 ^ 32 % 32) ∷ []) bytes
IsBase32-filled text bytes held p s some below =
    let v : ℕ = held * 2 ^ (5 - p) % 2 ^ 32 in
    let long : length (text ++ digit_of (v % 32) ∷ []) ≡ length text + 1 = length-append text (digit_of (v % 32) ∷ []) in
    let rest : 5 * length (text ++ digit_of (v % 32) ∷ []) - 8 * length bytes ≡ 5 - p = omega (arith, s.2, long) in (
      omega (arith, s.2, long),
      AreDigits-push text v s.0,
      flat_map-push digit_bits text (digit_of (v % 32))
          ∙ ap (λ ys. text_bits text ++ ys) (digit_bits-digit_of v ∙ filled-bits p (5 - p) held (omega arith))
          ∙ sym (append_assoc (text_bits text) (bits p held) (replicate (5 - p) 0))
          ∙ ap (λ ys. ys ++ replicate (5 - p) 0) s.1
          ∙ ap (λ k. byte_bits bytes ++ replicate k 0) (sym rest),
    )

-- two fronts of one length, and what is behind them
pub append-same : (a b c d : List ℕ) → length a ≡ length b → a ++ c ≡ b ++ d → (a ≡ b) × (c ≡ d)
append-same a b c d long same = (
  sym (take-append_seam a c) ∙ ap (λ xs. take (length a) xs) same ∙ ap (λ k. take k (b ++ d)) long ∙ take-append_seam b d,
  sym (drop-append_seam a c) ∙ ap (λ xs. drop (length a) xs) same ∙ ap (λ k. drop k (b ++ d)) long ∙ drop-append_seam b d,
)

-- pieces of one length tell the elements that they were made of
flat_map-same : (f : ℕ → List ℕ) (w : ℕ) (P : ℕ → Type 0) → ((x : ℕ) → length (f x) ≡ w) → ((x y : ℕ) → P x → P y → f x ≡ f y → x ≡ y)
    → (xs ys : List ℕ) → length xs ≡ length ys → All P xs → All P ys → flat_map f xs ≡ flat_map f ys → xs ≡ ys
flat_map-same f w P wide one [] [] long p q same = refl
flat_map-same f w P wide one [] (y ∷ ys) long p q same = absurd (omega (arith, long))
flat_map-same f w P wide one (x ∷ xs) [] long p q same = absurd (omega (arith, long))
flat_map-same f w P wide one (x ∷ xs) (y ∷ ys) long p q same =
    let parts = append-same (f x) (f y) (flat_map f xs) (flat_map f ys) (wide x ∙ sym (wide y)) (sym (flat_map-cons f x xs) ∙ same ∙ flat_map-cons f y ys) in
    let head : x ≡ y = one x y (p zero 0 (omega arith)) (q zero 0 (omega arith)) parts.0 in
    let tail : xs ≡ ys = flat_map-same f w P wide one xs ys (omega (arith, long)) (λ k d h. p (suc k) d (omega arith)) (λ k d h. q (suc k) d (omega arith)) parts.1 in
    ap (λ z. z ∷ xs) head ∙ ap (λ zs. y ∷ zs) tail

length-pieces : (f : ℕ → List ℕ) (w : ℕ) → ((x : ℕ) → length (f x) ≡ w) → (xs : List ℕ) → length (flat_map f xs) ≡ w * length xs
length-pieces f w wide [] = omega arith
length-pieces f w wide (x ∷ xs) =
    ap length (flat_map-cons f x xs) ∙ length-append (f x) (flat_map f xs) ∙ omega (arith, wide x, length-pieces f w wide xs)

pub length-byte_bits : (bytes : List ℕ) → length (byte_bits bytes) ≡ 8 * length bytes
length-byte_bits bytes = length-pieces (bits 8) 8 (length-bits 8) bytes

pub length-text_bits : (text : List ℕ) → length (text_bits text) ≡ 5 * length text
length-text_bits text = length-pieces digit_bits 5 (λ c. length-bits 5 (value_of c)) text

same-byte : (x y : ℕ) → x < 256 → y < 256 → bits 8 x ≡ bits 8 y → x ≡ y
same-byte x y p q same = let e = mod-from_bits 8 x y same in omega (arith, e)

some_of : {Q : Type 0} (o : Option ℕ) → IsSome o → ((v : ℕ) → o ≡ Some v → Q) → Q
some_of (Some v) p k = k v refl
some_of None p k = absurd (false≢true p)

same-digit : (x y : ℕ) → IsSome (value_at x) → IsSome (value_at y) → digit_bits x ≡ digit_bits y → x ≡ y
unfolding value_of
same-digit x y p q same =
    let e = mod-from_bits 5 (value_of x) (value_of y) same in
    some_of (value_at x) p (λ v vx. some_of (value_at y) q (λ w wy.
    let a = digit_of-value_at x v vx in
    let b = digit_of-value_at y w wy in
    let f : v % 2 ^ 5 ≡ w % 2 ^ 5 = sym (ap (λ o. unwrap_or o 0 % 2 ^ 5) vx) ∙ e ∙ ap (λ o. unwrap_or o 0 % 2 ^ 5) wy in
    let g : v ≡ w = omega (arith, f, a.1, b.1) in
    sym a.0 ∙ ap digit_of g ∙ b.0))

-- one text for bytes
pub text-one : (text other bytes : List ℕ) → IsBase32 text bytes → IsBase32 other bytes → other ≡ text
text-one text other bytes s t =
    let long : length other ≡ length text = t.0 ∙ sym s.0 in
    flat_map-same digit_bits 5 (λ c. IsSome (value_at c)) (λ c. length-bits 5 (value_of c)) same-digit other text long t.1 s.1
    (t.2 ∙ ap (λ k. byte_bits bytes ++ replicate (5 * k - 8 * length bytes) 0) long ∙ sym s.2)

-- so many bytes for a text
pub bytes-one : (text bytes other : List ℕ) → length other ≡ length bytes → All (λ b. b < 256) bytes → All (λ b. b < 256) other
    → IsBase32 text bytes → IsBase32 text other → other ≡ bytes
bytes-one text bytes other long p q s t =
    let fronts = append-same (byte_bits other) (byte_bits bytes) _ _ (length-byte_bits other ∙ ap (λ k. 8 * k) long ∙ sym (length-byte_bits bytes)) (sym t.2 ∙ s.2) in
    flat_map-same (bits 8) 8 (λ b. b < 256) (length-bits 8) same-byte other bytes long q p fronts.0

-- the bytes hold the bits of the digits seen but for those that wait
abbrev pub Drains : List ℕ → List ℕ → ℕ → ℕ → Type 0
Drains front seen held pending =
    (byte_bits front ++ bits pending held ≡ text_bits seen) × (8 * length front + pending ≡ 5 * length seen) × All (λ b. b < 256) front

pub Drains-none : Drains [] [] 0 0
unfolding bits
Drains-none = (refl, omega arith, All-nil (λ b. b < 256))

pub Drains-digit : (front seen : List ℕ) (held p c : ℕ) → Drains front seen held p → p < 8 → value_of c < 32 → Drains front (seen ++ c ∷ []) (held % 128 * 32 + value_of c) (p + 5)
Drains-digit front seen held p c d below small = (
  ap (λ ys. byte_bits front ++ ys) (bits-join p 5 7 held (value_of c) (omega arith) small)
      ∙ sym (append_assoc (byte_bits front) (bits p held) (digit_bits c))
      ∙ ap (λ ys. ys ++ digit_bits c) d.0
      ∙ sym (flat_map-push digit_bits seen c),
  omega (arith, d.1, length-append seen (c ∷ [])),
  d.2,
)

pub Drains-byte : (front seen : List ℕ) (held p q : ℕ) → q ≡ p + 8 → Drains front seen held q → Drains (front ++ held / 2 ^ p % 256 ∷ []) seen held p
Drains-byte front seen held p q is d =
    let e : q ≡ 8 + p = omega arith in (
      ap (λ ys. ys ++ bits p held) (flat_map-push (bits 8) front (held / 2 ^ p % 256) ∙ ap (λ ys. byte_bits front ++ ys) (bits-mod 8 8 (held / 2 ^ p) (omega arith)))
          ∙ append_assoc (byte_bits front) (bits 8 (held / 2 ^ p)) (bits p held)
          ∙ ap (λ ys. byte_bits front ++ ys) (sym (ap (λ k. bits k held) e ∙ bits-add 8 p held))
          ∙ d.0,
      omega (arith, d.1, length-append front (held / 2 ^ p % 256 ∷ [])),
      All-append (λ b. b < 256) front (held / 2 ^ p % 256 ∷ []) d.2 (λ k x below. let e : k ≡ 0 = omega arith in rw e (omega arith)),
    )

pub Drains-all : (front text : List ℕ) (held p : ℕ) → Drains front text held p → byte_bits front ≡ take (8 * length front) (text_bits text)
Drains-all front text held p d =
    sym (take-append_seam (byte_bits front) (bits p held)) ∙ ap (λ k. take k (byte_bits front ++ bits p held)) (length-byte_bits front)
    ∙ ap (λ ys. take (8 * length front) ys) d.0

pub Spells-next : (text bytes : List ℕ) (held p i x : ℕ) → i < length bytes → x ≡ get_or bytes i 0 → x < 256 → p < 5 → Spells text (take i bytes) held p → Spells text (take (i + 1) bytes) (held % 16 * 256 + x) (p + 8)
Spells-next text bytes held p i x within is byte few s =
    let e : take (i + 1) bytes ≡ take i bytes ++ x ∷ [] = take_more bytes i 0 within ∙ ap (λ y. take i bytes ++ y ∷ []) (sym is) in
    rw e (Spells-byte text (take i bytes) held p x s few byte)

pub Drains-next : (front text : List ℕ) (held p i v : ℕ) → i < length text → v ≡ value_of (get_or text i 0) → v < 32 → p < 8 → Drains front (take i text) held p → Drains front (take (i + 1) text) (held % 128 * 32 + v) (p + 5)
Drains-next front text held p i v within value small few d =
    let c : ℕ = get_or text i 0 in
    let e : take (i + 1) text ≡ take i text ++ c ∷ [] = take_more text i 0 within in
    let below : value_of c < 32 = omega (arith, value, small) in
    rw (e, value) (Drains-digit front (take i text) held p c d few below)

pub Drains-store : (bytes seen : List ℕ) (held p q at : ℕ) → at < length bytes → q ≡ p + 8 → Drains (take at bytes) seen held q → Drains (take (at + 1) (set bytes at (held / 2 ^ p % 256))) seen held p
Drains-store bytes seen held p q at within is d =
    rw (take_more_set bytes at (held / 2 ^ p % 256) within) (Drains-byte (take at bytes) seen held p q is d)

-- the bits behind those of n bytes are the last digit's lowest
pub low-bits : (text : List ℕ) (n m c u : ℕ) → length text ≡ m + 1 → c ≡ get_or text m c → 8 * n + u ≡ 5 * length text → u ≤ 5 → drop (8 * n) (text_bits text) ≡ bits u (value_of c)
low-bits text n m c u long is rest few =
    let v : ℕ = value_of c in
    let front : List ℕ = text_bits (take m text) ++ bits (5 - u) (v / 2 ^ u) in
    let whole : text ≡ take m text ++ c ∷ [] =
    sym (take_all (m + 1) text (omega (arith, long))) ∙ take_more text m c (omega (arith, long)) ∙ ap (λ y. take m text ++ y ∷ []) (sym is) in
    let five : (5 - u) + u ≡ 5 = omega (arith, few) in
    let parts : text_bits text ≡ front ++ bits u v =
    ap text_bits whole ∙ flat_map-push digit_bits (take m text) c
    ∙ ap (λ ys. text_bits (take m text) ++ ys) (ap (λ k. bits k v) (sym five) ∙ bits-add (5 - u) u v)
    ∙ sym (append_assoc (text_bits (take m text)) (bits (5 - u) (v / 2 ^ u)) (bits u v)) in
    let size : length front ≡ 8 * n =
    length-append (text_bits (take m text)) (bits (5 - u) (v / 2 ^ u)) ∙ omega (arith, length-text_bits (take m text), length-take-le m text (omega (arith, long)), length-bits (5 - u) (v / 2 ^ u), long, rest, few) in
    ap (λ ys. drop (8 * n) ys) parts ∙ ap (λ k. drop k (front ++ bits u v)) (sym size) ∙ drop-append_seam front (bits u v)

pub low-bits-Decides : (text : List ℕ) (n m c u k : ℕ) → length text ≡ m + 1 → c ≡ get_or text m c → length text ≡ text_len n → u ≡ 4 - (n % 5 * 3 + 4) % 5
    → Decides (eqb (value_of c % (1 * 2 ^ u % 2 ^ 8)) 0) (drop (8 * n) (text_bits text) ≡ replicate (5 * length text - 8 * n) 0)
low-bits-Decides text n m c u k long is fits unused =
    let rest : 8 * n + u ≡ 5 * length text = omega (arith, fits, unused) in
    let few : u ≤ 5 = omega (arith, unused) in
    let zeros : 5 * length text - 8 * n ≡ u = omega (arith, rest) in
    let tail = low-bits text n m c u long is rest few in
    let mask : 1 * 2 ^ u % 2 ^ 8 ≡ 2 ^ u = one_shl u 8 (omega (arith, few)) in
    let test = Decides-eqb (value_of c % 2 ^ u) 0 in
    rw (mask, tail, zeros) (
      (λ yes. bits-multiple u (value_of c) (test.0 yes)),
      (λ same. test.1 (multiple-from_bits u (value_of c) same)),
    )

-- what the first bits make, where the others are zero
pub bits-spell : (text bytes : List ℕ) (n : ℕ) → length bytes ≡ n → length text ≡ text_len n → AreDigits text → byte_bits bytes ≡ take (8 * length bytes) (text_bits text)
    → drop (8 * n) (text_bits text) ≡ replicate (5 * length text - 8 * n) 0 → IsBase32 text bytes
bits-spell text bytes n long fits digits first rest = (
  fits ∙ ap text_len (sym long),
  digits,
  sym (take-append-drop (8 * n) (text_bits text))
      ∙ ap (λ ys. ys ++ drop (8 * n) (text_bits text)) (ap (λ k. take (8 * k) (text_bits text)) (sym long) ∙ sym first)
      ∙ ap (λ ys. byte_bits bytes ++ ys) (rest ∙ ap (λ k. replicate (5 * length text - 8 * k) 0) (sym long)),
)

-- low bits that are not zero
pub no-bytes : (text : List ℕ) (n : ℕ) → (drop (8 * n) (text_bits text) ≡ replicate (5 * length text - 8 * n) 0 → ⊥) → (bytes : List ℕ) → length bytes ≡ n → IsBase32 text bytes → ⊥
no-bytes text n not_zero bytes long s =
    let size : length (byte_bits bytes) ≡ 8 * n = length-byte_bits bytes ∙ ap (λ k. 8 * k) long in
    not_zero
    (ap (λ k. drop k (text_bits text)) (sym size)
    ∙ ap (λ ys. drop (length (byte_bits bytes)) ys) s.2
    ∙ drop-append_seam (byte_bits bytes) (replicate (5 * length text - 8 * length bytes) 0)
    ∙ ap (λ k. replicate (5 * length text - 8 * k) 0) long)

pub Spells-store : (text bytes : List ℕ) (held p q at d : ℕ) → at < length text → q ≡ p + 5 → d ≡ digit_of (held / 2 ^ p % 32)
    → Spells (take at text) bytes held q → Spells (take (at + 1) (set text at d)) bytes held p
Spells-store text bytes held p q at d within is digit s =
    rw (take_more_set text at d within, digit) (Spells-digit (take at text) bytes held p q is s)

-- the text is full where all bytes are written
pub IsBase32-full : (text bytes : List ℕ) (held at index : ℕ) → length bytes ≤ index → at ≤ length text → length text ≡ text_len (length bytes)
    → Spells (take at text) (take index bytes) held 0 → IsBase32 text bytes
IsBase32-full text bytes held at index over within fits s =
    let all : take index bytes ≡ bytes = take_all index bytes over in
    let t = subst (λ xs. Spells (take at text) xs held 0) all s in
    let front = length-take-le at text within in
    let full : length text ≤ at = omega (arith, t.2, front, fits) in
    subst (λ xs. IsBase32 xs bytes) (take_all at text full) (IsBase32-whole (take at text) bytes held t)

pub IsBase32-stored : (text bytes : List ℕ) (held p at index d : ℕ) → length bytes ≤ index → at ≤ length text → length text ≡ text_len (length bytes)
    → 0 < p → p < 5 → d ≡ digit_of (held * 2 ^ (5 - p) % 2 ^ 32 % 32) → Spells (take at text) (take index bytes) held p
    → (at < length text) × IsBase32 (set text at d) bytes
IsBase32-stored text bytes held p at index d over within fits some few digit s =
    let all : take index bytes ≡ bytes = take_all index bytes over in
    let t = subst (λ xs. Spells (take at text) xs held p) all s in
    let front = length-take-le at text within in
    let room : at < length text = omega (arith, t.2, front, fits, some, few) in
    let full : length (set text at d) ≤ at + 1 = omega (arith, length-set text at d, t.2, front, fits, some, few) in
    let whole : take at text ++ digit_of (held * 2 ^ (5 - p) % 2 ^ 32 % 32) ∷ [] ≡ set text at d =
    ap (λ y. take at text ++ y ∷ []) (sym digit) ∙ sym (take_more_set text at d room) ∙ take_all (at + 1) (set text at d) full in
    (room, subst (λ xs. IsBase32 xs bytes) whole (IsBase32-filled (take at text) bytes held p t some few))
