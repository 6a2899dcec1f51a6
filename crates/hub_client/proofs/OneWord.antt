-- A client identifier and a nick have no blank.
use Rattle.std.proofs.Common.{◌≡◌, refl, ℕ, ◌<◌, ◌&&◌, nat_lt, true, false, not, List, [], ◌∷◌, get_or, Some, Bool, arith}
use Rattle.std.specs.Prelude.{chars}
use Rattle.std.specs.List.{list_all}
use Rattle.std.specs.Str.{IsUtf8, NoCharPasses, NonePass}
use Rattle.std.proofs.lemmas.Bool.{false≢true, and_from}
use Rattle.std.proofs.lemmas.Bool.Decides.{nat_tests}
use Rattle.std.proofs.lemmas.List.{get_or_default}
use Rattle.std.proofs.lemmas.List.Sums.{list_all-from_AllPass}
use Rattle.std.proofs.lemmas.Option.{cond_some}
use Rattle.std.proofs.lemmas.Str.{NoCharPasses-byte, encodes-chars}
use Rattle.adc_base32.specs.Digits.{value_at}
use Rattle.adc_base32.specs.Spelled.{is_digit, spells, spelled_bytes}
use Rattle.adc_ids.specs.Nicks.{is_nick}
use Rattle.operator_acts.specs.Acts.{is_blank}

both : (a b : Bool) → (a && b) ≡ true → (a ≡ true) × (b ≡ true)
both true b e = (refl, e)
both false b e = absurd (false≢true e)

digit-no-blank : (b : ℕ) → is_digit b ≡ true → not (is_blank b) ≡ true
unfolding value_at
digit-no-blank b e = grind (arith, nat_tests)

digits-no-blank : (text : List ℕ) → list_all is_digit text ≡ true → list_all (λ b. not (is_blank b)) text ≡ true
digits-no-blank [] e = refl
digits-no-blank (b ∷ bs) e =
    let tests = both (is_digit b) (list_all is_digit bs) e in
    and_from _ _ (digit-no-blank b tests.0) (digits-no-blank bs tests.1)

pub cid_is_one_word : (text bytes : List ℕ) → spelled_bytes 24 text ≡ Some bytes → list_all (λ b. not (is_blank b)) text ≡ true
unfolding spelled_bytes
cid_is_one_word text bytes e =
    let spelt = (cond_some (spells 24 text) _ bytes e).0 in
    digits-no-blank text (both _ _ (both _ _ spelt).0).1

above-blank : (points : List ℕ) → list_all (nat_lt 32) points ≡ true → NonePass is_blank points
above-blank [] e = tt
above-blank (p ∷ ps) e =
    let tests = both (nat_lt 32 p) (list_all (nat_lt 32) ps) e in
    let first : nat_lt 32 p ≡ true = tests.0 in
    let here : is_blank p ≡ false = grind (arith, nat_tests) in
    (here, above-blank ps tests.1)

byte-no-blank : (b : ℕ) → (b < 128 → is_blank b ≡ false) → not (is_blank b) ≡ true
byte-no-blank b low = grind (arith, nat_tests)

pub nick_is_one_word : (text : List ℕ) → IsUtf8 text → is_nick (chars text) ≡ true → list_all (λ b. not (is_blank b)) text ≡ true
unfolding is_nick
nick_is_one_word text utf8 e =
    let none : NoCharPasses is_blank text = (chars text, encodes-chars text utf8, above-blank (chars text) (both _ _ e).1) in
    list_all-from_AllPass _ text (λ k d within. rw (get_or_default text k d 0 within) (byte-no-blank (get_or text k 0) (λ low. NoCharPasses-byte is_blank text k none within low)))
