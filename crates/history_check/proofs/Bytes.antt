-- Bytes as a line has them: `%` and two hexadecimal digits stand for one.
use Rattle.std.proofs.Common.{◌≡◌, ◌∙◌, ap, refl, sym, subst, ℕ, ◌+◌, ◌*◌, ◌/◌, ◌%◌, ◌≤◌, ◌<◌, Bool, true, false, cond, eqb, List, [], ◌∷◌, ◌++◌, inl, inr, length, get_or, drop, Option, Some, None, append_assoc, arith}
use Rattle.std.proofs.lemmas.Bool.{eqb-true, eqb-false, ne_eqb}
use Rattle.std.proofs.lemmas.Bool.Decides.{nat_tests}
use Rattle.std.proofs.lemmas.List.{append-nil}
use Rattle.std.proofs.lemmas.Option.{none-some, option_and_then_some, same_Some}
use Rattle.std.specs.Option.{option_map}
use Rattle.history_check.specs.Reading.{onto, read_byte, read_bytes, read_digit, ◌>>=◌}
use Rattle.history_check.specs.Text.{WritesByte, WritesBytes, hex_digit}

-- ---- digits

digit-takes : (c value : ℕ) → read_digit c ≡ Some value → (c ≡ hex_digit value) × (value < 16)
unfolding read_digit
digit-takes c value e = grind (arith, nat_tests)

digit-again : (value : ℕ) → value < 16 → read_digit (hex_digit value) ≡ Some value
unfolding read_digit
digit-again value small = grind (arith, nat_tests)

byte-takes : (high low byte : ℕ) → read_byte high low ≡ Some byte → (high ≡ hex_digit (byte / 16)) × (low ≡ hex_digit (byte % 16)) × (byte < 256)
unfolding read_byte
byte-takes high low byte e =
    option_and_then_some _ (read_digit high) byte e λ h is-high e₁.
    option_and_then_some _ (read_digit low) byte e₁ λ l is-low e₂.
    let first = digit-takes high h is-high in
    let second = digit-takes low l is-low in
    let is : h * 16 + l ≡ byte = same_Some _ _ e₂ in
    let quotient : h ≡ byte / 16 = omega (arith, first.1, second.1, is) in
    let remainder : l ≡ byte % 16 = omega (arith, first.1, second.1, is) in
    (first.0 ∙ ap hex_digit quotient, second.0 ∙ ap hex_digit remainder, omega (arith, first.1, second.1, is))

byte-again : (byte : ℕ) → byte < 256 → read_byte (hex_digit (byte / 16)) (hex_digit (byte % 16)) ≡ Some byte
unfolding read_byte
byte-again byte small =
    let high : byte / 16 < 16 = omega (arith, small) in
    let low : byte % 16 < 16 = omega arith in
    let whole : byte / 16 * 16 + byte % 16 ≡ byte = omega arith in
    rw (digit-again (byte / 16) high, digit-again (byte % 16) low) (ap Some whole)

-- ---- one byte more

pub onto-some : (c : ℕ) (o : Option (List ℕ)) (bytes : List ℕ) → onto c o ≡ Some bytes → (rest : List ℕ) × (o ≡ Some rest) × (c ∷ rest ≡ bytes)
onto-some c (Some rest) bytes e = (rest, refl, same_Some _ _ e)
onto-some c None bytes e = absurd (none-some bytes e)

pub plain : (c : ℕ) (text : List ℕ) → eqb c 37 ≡ false → read_bytes (c ∷ text) ≡ onto c (read_bytes text)
unfolding read_bytes
plain c [] is = rw is refl
plain c (high ∷ []) is = rw is refl
plain c (high ∷ low ∷ text) is = rw is refl

pub escaped : (high low : ℕ) (text : List ℕ) → read_bytes (37 ∷ high ∷ low ∷ text) ≡ (read_byte high low >>= λ byte. onto byte (read_bytes text))
unfolding read_bytes
escaped high low text = refl

-- ---- what is read is written so

pub nothing : (bytes : List ℕ) → read_bytes [] ≡ Some bytes → [] ≡ bytes
unfolding read_bytes
nothing bytes e = same_Some _ _ e

plain-takes : (c : ℕ) (text bytes : List ℕ) → (c ≡ 37 → ⊥) → ((rest : List ℕ) → read_bytes text ≡ Some rest → WritesBytes text rest)
    → onto c (read_bytes text) ≡ Some bytes → WritesBytes (c ∷ text) bytes
plain-takes c text bytes other takes e =
    let (rest, is, made) = onto-some c (read_bytes text) bytes e in
    subst (λ (bs : List ℕ). WritesBytes (c ∷ text) bs) made (c ∷ [], text, refl, inl (refl, other), takes rest is)

escaped-takes : (high low : ℕ) (text bytes : List ℕ) → ((rest : List ℕ) → read_bytes text ≡ Some rest → WritesBytes text rest)
    → (read_byte high low >>= λ byte. onto byte (read_bytes text)) ≡ Some bytes → WritesBytes (37 ∷ high ∷ low ∷ text) bytes
escaped-takes high low text bytes takes e =
    option_and_then_some _ (read_byte high low) bytes e λ byte is-byte e₁.
    let (rest, is, made) = onto-some byte (read_bytes text) bytes e₁ in
    let digits = byte-takes high low byte is-byte in
    let shown : 37 ∷ high ∷ low ∷ [] ≡ 37 ∷ hex_digit (byte / 16) ∷ hex_digit (byte % 16) ∷ [] =
    ap (λ (x : ℕ). 37 ∷ x ∷ low ∷ []) digits.0 ∙ ap (λ (x : ℕ). 37 ∷ hex_digit (byte / 16) ∷ x ∷ []) digits.1 in
    subst (λ (bs : List ℕ). WritesBytes (37 ∷ high ∷ low ∷ text) bs) made
    (37 ∷ high ∷ low ∷ [], text, refl, inr (shown, digits.2), takes rest is)

percent : (c : ℕ) (text bytes : List ℕ) → eqb c 37 ≡ true → WritesBytes (37 ∷ text) bytes → WritesBytes (c ∷ text) bytes
percent c text bytes is = subst (λ (x : ℕ). WritesBytes (x ∷ text) bytes) (sym (eqb-true c 37 is))

alone-takes : (c : ℕ) (b : Bool) (bytes : List ℕ) → eqb c 37 ≡ b → cond b None (Some (c ∷ [])) ≡ Some bytes → WritesBytes (c ∷ []) bytes
alone-takes c true bytes is e = absurd (none-some bytes e)
alone-takes c false bytes is e =
    subst (λ (bs : List ℕ). WritesBytes (c ∷ []) bs) (same_Some _ _ e) (c ∷ [], [], refl, inl (refl, eqb-false c 37 is), refl)

pair-takes : (c : ℕ) (b : Bool) (text bytes : List ℕ) → eqb c 37 ≡ b → ((rest : List ℕ) → read_bytes text ≡ Some rest → WritesBytes text rest)
    → cond b None (onto c (read_bytes text)) ≡ Some bytes → WritesBytes (c ∷ text) bytes
pair-takes c true text bytes is takes e = absurd (none-some bytes e)
pair-takes c false text bytes is takes e = plain-takes c text bytes (eqb-false c 37 is) takes e

more-takes : (c : ℕ) (b : Bool) (high low : ℕ) (text bytes : List ℕ) → eqb c 37 ≡ b
    → ((rest : List ℕ) → read_bytes text ≡ Some rest → WritesBytes text rest)
    → ((rest : List ℕ) → read_bytes (high ∷ low ∷ text) ≡ Some rest → WritesBytes (high ∷ low ∷ text) rest)
    → cond b (read_byte high low >>= λ byte. onto byte (read_bytes text)) (onto c (read_bytes (high ∷ low ∷ text))) ≡ Some bytes
    → WritesBytes (c ∷ high ∷ low ∷ text) bytes
more-takes c true high low text bytes is takes next e = percent c (high ∷ low ∷ text) bytes is (escaped-takes high low text bytes takes e)
more-takes c false high low text bytes is takes next e = plain-takes c (high ∷ low ∷ text) bytes (eqb-false c 37 is) next e

pub bytes-take : (text bytes : List ℕ) → read_bytes text ≡ Some bytes → WritesBytes text bytes
unfolding read_bytes
bytes-take [] bytes e = subst (λ (bs : List ℕ). WritesBytes [] bs) (same_Some _ _ e) refl
bytes-take (c ∷ []) bytes e = alone-takes c (eqb c 37) bytes refl e
bytes-take (c ∷ high ∷ []) bytes e = pair-takes c (eqb c 37) (high ∷ []) bytes refl (bytes-take (high ∷ [])) e
bytes-take (c ∷ high ∷ low ∷ text) bytes e =
    more-takes c (eqb c 37) high low text bytes refl (bytes-take text) (bytes-take (high ∷ low ∷ text)) e

-- ---- what is written is read so

byte-again-at : (piece rest : List ℕ) (byte : ℕ) (bytes : List ℕ) → WritesByte piece byte → read_bytes rest ≡ Some bytes
    → read_bytes (piece ++ rest) ≡ Some (byte ∷ bytes)
byte-again-at piece rest byte bytes (inl is) so =
    ap (λ (p : List ℕ). read_bytes (p ++ rest)) is.0 ∙ plain byte rest (ne_eqb byte 37 is.1) ∙ ap (onto byte) so
byte-again-at piece rest byte bytes (inr is) so =
    ap (λ (p : List ℕ). read_bytes (p ++ rest)) is.0 ∙ escaped (hex_digit (byte / 16)) (hex_digit (byte % 16)) rest
    ∙ rw (byte-again byte is.1, so) refl

none-read : read_bytes [] ≡ Some []
unfolding read_bytes
none-read = refl

pub bytes-again : (text bytes : List ℕ) → WritesBytes text bytes → read_bytes text ≡ Some bytes
bytes-again text [] is = ap read_bytes is ∙ none-read
bytes-again text (byte ∷ bytes) (piece, rest, is, one, more) = ap read_bytes is ∙ byte-again-at piece rest byte bytes one (bytes-again rest bytes more)

-- ---- as a loop reads them, a byte at a time

-- these bytes were read, and the rest of the text is still to be read
abbrev pub Reads : List ℕ → List ℕ → Option (List ℕ) → Type 0
Reads items rest whole = option_map (λ (bytes : List ℕ). items ++ bytes) (read_bytes rest) ≡ whole

regroup : (items : List ℕ) (byte : ℕ) (o : Option (List ℕ)) → option_map (λ (bytes : List ℕ). items ++ bytes) (onto byte o) ≡ option_map (λ (bytes : List ℕ). (items ++ byte ∷ []) ++ bytes) o
regroup items byte (Some bytes) = ap Some (sym (append_assoc items (byte ∷ []) bytes))
regroup items byte None = refl

pub plain-step : (items more text behind : List ℕ) (whole : Option (List ℕ)) → more ≡ items ++ get_or text 0 0 ∷ [] → behind ≡ drop 1 text → 1 ≤ length text
    → (get_or text 0 0 ≡ 37 → ⊥) → Reads items text whole → Reads more behind whole
plain-step items more [] behind whole made cut some other so = absurd (omega (arith, some))
plain-step items more (c ∷ text) behind whole made cut some other so =
    subst (λ (xs : List ℕ). Reads xs behind whole) (sym made)
    (subst (λ (xs : List ℕ). Reads (items ++ c ∷ []) xs whole) (sym cut)
    (sym (ap (option_map (λ (bytes : List ℕ). items ++ bytes)) (plain c text (ne_eqb c 37 other)) ∙ regroup items c (read_bytes text)) ∙ so))

at-escape : (items text behind : List ℕ) (whole : Option (List ℕ)) → behind ≡ drop 1 text → 1 ≤ length text → get_or text 0 0 ≡ 37 → Reads items text whole → Reads items (37 ∷ behind) whole
at-escape items [] behind whole cut some is so = absurd (omega (arith, some))
at-escape items (c ∷ text) behind whole cut some is so =
    subst (λ (xs : List ℕ). Reads items (37 ∷ xs) whole) (sym cut) (subst (λ (x : ℕ). Reads items (x ∷ text) whole) is so)

escaped-step : (items behind : List ℕ) (byte : ℕ) (whole : Option (List ℕ)) → 2 ≤ length behind → read_byte (get_or behind 0 0) (get_or behind 1 0) ≡ Some byte
    → Reads items (37 ∷ behind) whole → Reads (items ++ byte ∷ []) (drop 2 behind) whole
escaped-step items [] byte whole some is so = absurd (omega (arith, some))
escaped-step items (high ∷ []) byte whole some is so = absurd (omega (arith, some))
escaped-step items (high ∷ low ∷ text) byte whole some is so =
    let one : read_bytes (37 ∷ high ∷ low ∷ text) ≡ onto byte (read_bytes text) = escaped high low text ∙ rw is refl in
    sym (ap (option_map (λ (bytes : List ℕ). items ++ bytes)) one ∙ regroup items byte (read_bytes text)) ∙ so

pub escape-step : (items more text behind after : List ℕ) (byte : ℕ) (whole : Option (List ℕ)) → more ≡ items ++ byte ∷ [] → behind ≡ drop 1 text → after ≡ drop 2 behind
    → 1 ≤ length text → get_or text 0 0 ≡ 37 → 2 ≤ length behind → read_byte (get_or behind 0 0) (get_or behind 1 0) ≡ Some byte → Reads items text whole → Reads more after whole
escape-step items more text behind after byte whole made cut last some is two read so =
    subst (λ (xs : List ℕ). Reads xs after whole) (sym made)
    (subst (λ (xs : List ℕ). Reads (items ++ byte ∷ []) xs whole) (sym last)
    (escaped-step items behind byte whole two read (at-escape items text behind whole cut some is so)))

escaped-none : (items behind : List ℕ) (whole : Option (List ℕ)) → 2 ≤ length behind → read_byte (get_or behind 0 0) (get_or behind 1 0) ≡ None
    → Reads items (37 ∷ behind) whole → None ≡ whole
escaped-none items [] whole some is so = absurd (omega (arith, some))
escaped-none items (high ∷ []) whole some is so = absurd (omega (arith, some))
escaped-none items (high ∷ low ∷ text) whole some is so =
    let none : read_bytes (37 ∷ high ∷ low ∷ text) ≡ None = escaped high low text ∙ rw is refl in
    sym (ap (option_map (λ (bytes : List ℕ). items ++ bytes)) none) ∙ so

pub escape-none : (items text behind : List ℕ) (whole : Option (List ℕ)) → behind ≡ drop 1 text → 1 ≤ length text → get_or text 0 0 ≡ 37 → 2 ≤ length behind
    → read_byte (get_or behind 0 0) (get_or behind 1 0) ≡ None → Reads items text whole → None ≡ whole
escape-none items text behind whole cut some is two none so = escaped-none items behind whole two none (at-escape items text behind whole cut some is so)

cut-short : (items behind : List ℕ) (whole : Option (List ℕ)) → length behind < 2 → Reads items (37 ∷ behind) whole → None ≡ whole
unfolding read_bytes
cut-short items [] whole few so = so
cut-short items (high ∷ []) whole few so = so
cut-short items (high ∷ low ∷ text) whole few so = absurd (omega (arith, few))

pub short-none : (items text behind : List ℕ) (whole : Option (List ℕ)) → behind ≡ drop 1 text → 1 ≤ length text → get_or text 0 0 ≡ 37 → length behind < 2
    → Reads items text whole → None ≡ whole
short-none items text behind whole cut some is few so = cut-short items behind whole few (at-escape items text behind whole cut some is so)

pub all-read : (items text : List ℕ) (whole : Option (List ℕ)) → length text < 1 → Reads items text whole → Some items ≡ whole
unfolding read_bytes
all-read items [] whole few so = ap Some (sym (append-nil items)) ∙ so
all-read items (c ∷ text) whole few so = absurd (omega (arith, few))
