-- A number of seconds, as the digits write it.
use Rattle.std.proofs.Common.{◌≡◌, ◌∙◌, sym, ap, refl, ℕ, ◌<◌, ◌≤◌, true, false, cond, ◌&&◌, List, [], ◌∷◌, length, inl, inr}
use Rattle.std.specs.List.{list_all}
use Rattle.std.specs.Str.{all_ascii_digits}
use Rattle.std.specs.Prelude.{nat_lt, Some, None, Result, Ok, Err}
use Rattle.std.specs.Str.Parse.{digits_value, ParsesUnsigned}
use Rattle.std.specs.Result.{result_ok}
use Rattle.std.proofs.lemmas.Bool.{le-leb, lt-ltb, le-ltb, cases_lt, and_from, and_right}
use Rattle.std.proofs.lemmas.Str.Parse.{IsNumeralModel, numerals_by_value, tells_all_ascii_digits, parse_digits}
use Rattle.operator_acts.specs.Acts.{is_seconds, seconds_at}
use Rattle.std.specs.Char.{is_ascii_digit}

pub all-digits : (word : List ℕ) → list_all is_ascii_digit word ≡ all_ascii_digits word
all-digits [] = refl
all-digits (c ∷ cs) = ap (λ b. is_ascii_digit c && b) (all-digits cs)

own : IsNumeralModel (λ digits. all_ascii_digits digits ≡ true) (digits_value 10)
own = numerals_by_value _ tells_all_ascii_digits

not-below : (a b : ℕ) → (a < b → ⊥) → b ≤ a
not-below a b not = elim (cases_lt a b) [ inl below ↦ absurd (not below) | inr above ↦ above ]

-- digits that are not too many are parsed as their value, where it is not too large
pub seconds-parsed : {E : Type 0} (word : List ℕ) (parsed : Result ℕ E) → 0 < length word → length word ≤ 10 → all_ascii_digits word ≡ true → ParsesUnsigned 32 10 word parsed → result_ok parsed ≡ seconds_at word
unfolding seconds_at
seconds-parsed {E} word (Ok x) some few digits parses =
    let f = parse_digits own {E = E} 32 word (Ok x) parses digits in
    let test : is_seconds word ≡ true =
    and_from _ _ (and_from _ _ (and_from _ _ (le-leb 1 (length word) some) (le-leb (length word) 10 few)) digits) (lt-ltb (digits_value 10 word) 4_294_967_296 f.0.1) in
    ap Some f.1 ∙ sym (ap (λ b. cond b (Some (digits_value 10 word)) None) test)
seconds-parsed {E} word (Err e) some few digits parses =
    let f = parse_digits own {E = E} 32 word (Err e) parses digits in
    let large : nat_lt (digits_value 10 word) 4_294_967_296 ≡ false =
    le-ltb (digits_value 10 word) 4_294_967_296 (not-below (digits_value 10 word) 4_294_967_296 (λ below. f (some, below))) in
    let test : is_seconds word ≡ false = and_right _ _ large in
    sym (ap (λ b. cond b (Some (digits_value 10 word)) None) test)
