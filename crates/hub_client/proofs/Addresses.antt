-- What the methods of a text say of an address.
use Rattle.std.proofs.Common.{◌≡◌, ◌∙◌, refl, sym, ap, subst, ℕ, inl, inr, List, [], ◌∷◌, ◌++◌, length, take, drop, Option, Some, None, arith, append_assoc}
use Rattle.std.specs.Prelude.{unwrap_or}
use Rattle.std.specs.Option.{MatchOption}
use Rattle.std.specs.Str.Pattern.{FindsChar, FindsTextPrefix, FindsTextSuffix, HasMatch, RFindsChar, SplitsAroundMatch, StripsPrefix, StripsSuffix}
use Rattle.std.proofs.lemmas.List.{take-append-drop}
use Rattle.std.proofs.lemmas.Str.Pattern.{NoCharPasses-char, drop_at_char}
use denote.Ref.{Bor}
use Rattle.hub_client.specs.Addresses.{HasNoColon, HasTwoColons, IsBefore, IsRestBehind, colon}

pub behind_front : (front text : List ℕ) (r : Option (Bor (List ℕ))) (whole : Bor (List ℕ)) → MatchOption r (FindsTextPrefix front text None) (λ x. StripsPrefix (FindsTextPrefix front) text x.now)
    → whole.now ≡ text → IsRestBehind front text (unwrap_or r whole).now
behind_front front text None whole lacks is = inr (lacks, is)
behind_front front text (Some x) whole strips is = inl (strips.1.1 ∙ ap (λ t. front ++ t) (sym strips.2))

pub before_end : (end text : List ℕ) (r : Option (Bor (List ℕ))) (whole : Bor (List ℕ)) → MatchOption r (FindsTextSuffix end text None) (λ x. StripsSuffix (FindsTextSuffix end) text x.now)
    → whole.now ≡ text → IsBefore end text (unwrap_or r whole).now
before_end end text None whole lacks is = inr (lacks, is)
before_end end text (Some x) whole strips is = inl (strips.1.1 ∙ ap (λ t. t ++ end) (sym strips.2))

-- the parts round the last colon of a text
pub split_at : (bare host digits : List ℕ) → SplitsAroundMatch (RFindsChar colon) bare host digits → (bare ≡ host ++ colon ∷ digits) × HasNoColon digits
split_at bare host digits (i, j, finds, front, back, within, front-length, back-length) =
    let at : drop i bare ≡ colon ∷ drop j bare = drop_at_char colon bare i j finds.1 (omega arith) in
    let whole : bare ≡ take i bare ++ drop i bare = sym (take-append-drop i bare) in (
      whole ∙ ap (λ t. take i bare ++ t) at ∙ ap (λ t. t ++ colon ∷ drop j bare) (sym front) ∙ ap (λ t. host ++ colon ∷ t) (sym back),
      subst HasNoColon (sym back) (λ k within. NoCharPasses-char colon (drop j bare) k finds.0 (omega arith) within),
    )

-- a text with no colon
pub no_colon : (bare : List ℕ) → RFindsChar colon bare None → HasNoColon bare
no_colon bare none = λ k within. NoCharPasses-char colon bare k none (omega arith) within

pub host_has_none : (host : List ℕ) → FindsChar colon host None → HasNoColon host
host_has_none host none = λ k within. NoCharPasses-char colon host k none (omega arith) within

-- a text that has another colon before the last one
pub two_colons : (bare host digits : List ℕ) → bare ≡ host ++ colon ∷ digits → HasMatch (FindsChar colon) host → HasTwoColons bare
two_colons bare host digits is (i, j, finds, within, fits) =
    let at : drop i host ≡ colon ∷ drop j host = drop_at_char colon host i j finds.1 (omega arith) in
    let split : host ≡ take i host ++ colon ∷ drop j host = sym (take-append-drop i host) ∙ ap (λ t. take i host ++ t) at in
    (take i host, drop j host, digits, is ∙ ap (λ t. t ++ colon ∷ digits) split ∙ append_assoc (take i host) (colon ∷ drop j host) (colon ∷ digits))

pub without_bytes : (text : List ℕ) → length text ≡ 0 → text ≡ []
without_bytes [] none = refl
without_bytes (b ∷ bs) none = absurd (omega (arith, none))
