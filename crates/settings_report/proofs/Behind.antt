-- The place behind a text, byte by byte.
use Rattle.std.proofs.Common.{◌≡◌, refl, ap, ◌∙◌, cond, ℕ, ◌+◌, Bool, true, false, List, [], ◌∷◌, ◌++◌, append_assoc, count_by, inr, arith}
use Rattle.std.proofs.lemmas.Bool.Decides.{nat_tests}
use Rattle.std.proofs.lemmas.List.Sums.{sum_by-append, sum_by-cons}
use Rattle.std.specs.Fmt.{is_char_start}
use Rattle.settings_report.specs.declared.places.TextPlace.{TextPlace}
use Rattle.settings_report.specs.Places.{IsBehind, after, is_line_feed}

count_by-push : (test : ℕ → Bool) (bytes : List ℕ) (byte : ℕ) (passes : Bool) → test byte ≡ passes
    → count_by test (bytes ++ byte ∷ []) ≡ count_by test bytes + cond passes 1 0
count_by-push test bytes byte passes is =
    let alone : count_by test (byte ∷ []) ≡ cond (test byte) 1 0 = sum_by-cons (λ b. cond (test b) 1 0) byte [] ∙ omega arith in
    sum_by-append (λ b. cond (test b) 1 0) bytes (byte ∷ []) ∙ ap (λ n. count_by test bytes + n) (alone ∙ ap (λ b. cond b 1 0) is)

nothing_more : (text : List ℕ) → text ≡ text ++ []
nothing_more [] = refl
nothing_more (byte ∷ text) = ap (λ rest. byte ∷ rest) (nothing_more text)

no_line_feed : (byte : ℕ) → (byte ≡ 10 → ⊥) → is_line_feed byte ≡ false
no_line_feed byte other = grind (arith, nat_tests)

pub behind_line_feed : (text more : List ℕ) (byte : ℕ) (place next : TextPlace) → more ≡ text ++ byte ∷ [] → byte ≡ 10
    → next.line ≡ after place.line → next.column ≡ 1 → IsBehind text place → IsBehind more next
behind_line_feed text more byte place next grown is line column (lines, last, whole, ended, none, lines_are, column_is) =
    let feeds : count_by is_line_feed more ≡ count_by is_line_feed text + 1 = rw grown (count_by-push is_line_feed text byte true (rw is)) in
    let parts : count_by is_line_feed text ≡ count_by is_line_feed lines + count_by is_line_feed last = rw whole (sum_by-append _ lines last) in
    (more, [], nothing_more more, inr (text, grown ∙ rw is), refl, omega arith, column)

module _ (text more : List ℕ) (byte : ℕ) (place next : TextPlace) (grown : more ≡ text ++ byte ∷ []) (other : byte ≡ 10 → ⊥) where
  pub behind_character : is_char_start byte ≡ true → next.line ≡ place.line → next.column ≡ after place.column → IsBehind text place → IsBehind more next
  behind_character starts line column (lines, last, whole, ended, none, lines_are, column_is) =
      let feeds = count_by-push is_line_feed last byte false (no_line_feed byte other) in
      let characters = count_by-push is_char_start last byte true starts in
      (lines, last ++ byte ∷ [], grown ∙ ap (λ t. t ++ byte ∷ []) whole ∙ append_assoc lines last (byte ∷ []), ended, omega arith, line ∙ lines_are, omega arith)

  pub behind_part : is_char_start byte ≡ false → next ≡ place → IsBehind text place → IsBehind more next
  behind_part part same (lines, last, whole, ended, none, lines_are, column_is) =
      let feeds = count_by-push is_line_feed last byte false (no_line_feed byte other) in
      let characters = count_by-push is_char_start last byte false part in (
        lines,
        last ++ byte ∷ [],
        grown ∙ ap (λ t. t ++ byte ∷ []) whole ∙ append_assoc lines last (byte ∷ []),
        ended,
        omega arith,
        ap (λ (p : TextPlace). p.line) same ∙ lines_are,
        ap (λ (p : TextPlace). p.column) same ∙ column_is ∙ omega arith,
      )
