-- The spelling of a text, run by run.
use Rattle.std.proofs.Common.{◌≡◌, ℕ, ◌<◌, Bool, true, false, ◌||◌, List, [], ◌∷◌, ◌++◌, length, get_or, drop, All, refl, sym, ap, subst, ◌∙◌, append_assoc, append-nil, length-append, ◌+◌, arith}
use Rattle.std.specs.Prelude.{if◌then◌else◌, ◌==◌}
use Rattle.std.specs.Prelude.{◌≢◌, Option, Some, None}
use Rattle.std.specs.Option.{option_map, option_and_then}
use Rattle.std.proofs.lemmas.Bool.{cond-true, cond-false, ne_eqb}
use Rattle.std.proofs.Math.Seq.{get_or-append_seam, drop-append-add}
use Rattle.std.specs.Str.{IsUtf8}
use Rattle.std.proofs.lemmas.Str.{IsUtf8-drop, IsCharBoundary-after_ascii}
use Rattle.std.proofs.lemmas.Bool.Decides.{nat_tests}
use Rattle.std.proofs.lemmas.List.Elements.{All-head, All-tail}
use Rattle.adc_line.specs.Escapes.{escaped_text, escaped_byte, is_special, backslash, escape_means, unescaped_text}

-- a byte that is not special stands for itself
pub escaped_byte-plain : (b : ℕ) → is_special b ≡ false → escaped_byte b ≡ b ∷ []
escaped_byte-plain b plain = by_tests (b == 32) (b == 10) (b == 92) plain
  where
    by_tests : (x y z : Bool) → (x || y || z) ≡ false
        → (if x then 92 ∷ 115 ∷ [] else if y then 92 ∷ 110 ∷ [] else if z then 92 ∷ 92 ∷ [] else b ∷ []) ≡ b ∷ []
    by_tests true y z e = cc
    by_tests false true z e = cc
    by_tests false false true e = cc
    by_tests false false false e = refl

-- a run of such bytes stands for itself
pub escaped-plain : (run more : List ℕ) → All (λ b. is_special b ≡ false) run → escaped_text (run ++ more) ≡ run ++ escaped_text more
unfolding escaped_text
escaped-plain [] more plain = refl
escaped-plain (b ∷ run) more plain =
    ap (λ first. first ++ escaped_text (run ++ more)) (escaped_byte-plain b (All-head (λ x. is_special x ≡ false) b run plain))
    ∙ ap (λ rest. b ∷ rest) (escaped-plain run more (All-tail (λ x. is_special x ≡ false) b run plain))

pub escaped-cons : (b : ℕ) (more : List ℕ) → escaped_text (b ∷ more) ≡ escaped_byte b ++ escaped_text more
unfolding escaped_text
escaped-cons b more = refl

pub escaped-nil : escaped_text [] ≡ []
unfolding escaped_text
escaped-nil = refl

pub special_is_ascii : (b : ℕ) → is_special b ≡ true → b < 128
special_is_ascii b h = grind (arith, nat_tests)

-- what follows an ASCII byte of a text is a text
pub utf8_behind : (text run after : List ℕ) (b : ℕ) → IsUtf8 text → text ≡ run ++ b ∷ after → b < 128 → IsUtf8 after
utf8_behind text run after b utf8 cut ascii =
    let long : length text ≡ length run + (length after + 1) = ap length cut ∙ length-append run (b ∷ after) ∙ (omega arith) in
    let there : get_or text (length run) 0 ≡ b = ap (λ xs. get_or xs (length run) 0) cut ∙ get_or-append_seam run b after 0 in
    let boundary = IsCharBoundary-after_ascii text (length run) utf8 (omega arith) (omega arith) in
    let behind : drop (length run + 1) text ≡ after = ap (drop (length run + 1)) cut ∙ drop-append-add run (b ∷ after) 1 in
    subst IsUtf8 behind (IsUtf8-drop text (length run + 1) utf8 boundary)

-- the step of a spelling: a run, then a special byte
pub escaped-step : (word rest run after : List ℕ) (b : ℕ) (text : List ℕ) → word ++ escaped_text rest ≡ escaped_text text → rest ≡ run ++ b ∷ after → All (λ x. is_special x ≡ false) run
    → ((word ++ run) ++ escaped_byte b) ++ escaped_text after ≡ escaped_text text
escaped-step word rest run after b text so_far cut plain =
    append_assoc (word ++ run) (escaped_byte b) (escaped_text after) ∙ append_assoc word run (escaped_byte b ++ escaped_text after)
    ∙ ap (λ xs. word ++ (run ++ xs)) (sym (escaped-cons b after)) ∙ ap (λ xs. word ++ xs) (sym (escaped-plain run (b ∷ after) plain))
    ∙ ap (λ xs. word ++ escaped_text xs) (sym cut) ∙ so_far

-- the last run
pub escaped-end : (word rest run text : List ℕ) → word ++ escaped_text rest ≡ escaped_text text → rest ≡ run → All (λ x. is_special x ≡ false) run → word ++ run ≡ escaped_text text
escaped-end word rest run text so_far same plain =
    ap (λ xs. word ++ xs) (sym (append-nil run) ∙ ap (λ xs. run ++ xs) (sym escaped-nil) ∙ sym (escaped-plain run [] plain) ∙ ap escaped_text (append-nil run) ∙ ap escaped_text (sym same)) ∙ so_far

option_map_same : (o : Option (List ℕ)) → option_map (λ (text : List ℕ). text) o ≡ o
option_map_same None = refl
option_map_same (Some text) = refl

option_map_twice : (f g : List ℕ → List ℕ) (o : Option (List ℕ)) → option_map g (option_map f o) ≡ option_map (λ text. g (f text)) o
option_map_twice f g None = refl
option_map_twice f g (Some text) = refl

pub plain_is_no_backslash : (b : ℕ) → is_special b ≡ false → (b == backslash) ≡ false
plain_is_no_backslash b plain = grind (arith, nat_tests)

-- a byte that is not special, and what follows it
pub unescaped-plain_byte : (b : ℕ) (more : List ℕ) → is_special b ≡ false → unescaped_text (b ∷ more) ≡ option_map (λ (text : List ℕ). b ∷ text) (unescaped_text more)
unfolding unescaped_text
unescaped-plain_byte b [] plain = cond-false _ _ _ plain
unescaped-plain_byte b (c ∷ more) plain = cond-false _ _ _ (plain_is_no_backslash b plain) ∙ cond-false _ _ _ plain

pub unescaped-plain : (run more : List ℕ) → All (λ b. is_special b ≡ false) run → unescaped_text (run ++ more) ≡ option_map (λ (text : List ℕ). run ++ text) (unescaped_text more)
unescaped-plain [] more plain = sym (option_map_same (unescaped_text more))
unescaped-plain (b ∷ run) more plain =
    unescaped-plain_byte b (run ++ more) (All-head (λ x. is_special x ≡ false) b run plain)
    ∙ ap (option_map (λ (text : List ℕ). b ∷ text)) (unescaped-plain run more (All-tail (λ x. is_special x ≡ false) b run plain))
    ∙ option_map_twice (λ (text : List ℕ). run ++ text) (λ (text : List ℕ). b ∷ text) (unescaped_text more)

-- a blank or a line feed stands for nothing
pub unescaped-bare : (b : ℕ) (more : List ℕ) → is_special b ≡ true → b ≢ backslash → unescaped_text (b ∷ more) ≡ None
unfolding unescaped_text
unescaped-bare b [] special other = cond-true _ _ _ special
unescaped-bare b (c ∷ more) special other = cond-false _ _ _ (ne_eqb b 92 other) ∙ cond-true _ _ _ special

-- an escape, by what stands behind its backslash
pub unescaped-escape : (xs : List ℕ) (meant : ℕ) → 0 < length xs → escape_means (get_or xs 0 0) ≡ Some meant → unescaped_text (backslash ∷ xs) ≡ option_map (λ (text : List ℕ). meant ∷ text) (unescaped_text (drop 1 xs))
unfolding unescaped_text
unescaped-escape [] meant some e = absurd (omega arith)
unescaped-escape (c ∷ more) meant some e = ap (option_and_then (λ (x : ℕ). option_map (λ (text : List ℕ). x ∷ text) (unescaped_text more))) e

pub unescaped-stray : (xs : List ℕ) → 0 < length xs → escape_means (get_or xs 0 0) ≡ None → unescaped_text (backslash ∷ xs) ≡ None
unfolding unescaped_text
unescaped-stray [] some e = absurd (omega arith)
unescaped-stray (c ∷ more) some e = ap (option_and_then (λ (x : ℕ). option_map (λ (text : List ℕ). x ∷ text) (unescaped_text more))) e

pub unescaped-cut : (xs : List ℕ) → length xs < 1 → unescaped_text (backslash ∷ xs) ≡ None
unfolding unescaped_text
unescaped-cut [] h = refl
unescaped-cut (c ∷ more) h = absurd (omega arith)

pub unescaped-nil : unescaped_text [] ≡ Some []
unfolding unescaped_text
unescaped-nil = refl

-- the last run, a run before what spells nothing, and a run before an escape
module _ (text word rest run : List ℕ) (so_far : option_map (λ (more : List ℕ). text ++ more) (unescaped_text rest) ≡ unescaped_text word) (plain : All (λ b. is_special b ≡ false) run) where
  pub unescaped-end : rest ≡ run → unescaped_text word ≡ Some (text ++ run)
  unescaped-end same =
      sym so_far ∙ ap (λ xs. option_map (λ (more : List ℕ). text ++ more) (unescaped_text xs)) (same ∙ sym (append-nil run))
      ∙ ap (option_map (λ (more : List ℕ). text ++ more)) (unescaped-plain run [] plain ∙ ap (option_map (λ (more : List ℕ). run ++ more)) unescaped-nil)
      ∙ ap (λ xs. Some (text ++ xs)) (append-nil run)

  pub unescaped-bad : (tail : List ℕ) → rest ≡ run ++ tail → unescaped_text tail ≡ None → unescaped_text word ≡ None
  unescaped-bad tail cut bad =
      sym so_far ∙ ap (λ xs. option_map (λ (more : List ℕ). text ++ more) (unescaped_text xs)) cut
      ∙ ap (option_map (λ (more : List ℕ). text ++ more)) (unescaped-plain run tail plain ∙ ap (option_map (λ (more : List ℕ). run ++ more)) bad)

  pub unescaped-step : (tail left : List ℕ) (meant : ℕ) → rest ≡ run ++ tail → unescaped_text tail ≡ option_map (λ (more : List ℕ). meant ∷ more) (unescaped_text left)
      → option_map (λ (more : List ℕ). ((text ++ run) ++ meant ∷ []) ++ more) (unescaped_text left) ≡ unescaped_text word
  unescaped-step tail left meant cut good =
      regroup (unescaped_text left)
      ∙ ap (option_map (λ (more : List ℕ). text ++ more)) (ap (option_map (λ (more : List ℕ). run ++ more)) (sym good) ∙ sym (unescaped-plain run tail plain))
      ∙ ap (λ xs. option_map (λ (more : List ℕ). text ++ more) (unescaped_text xs)) (sym cut) ∙ so_far
    where
      regroup : (o : Option (List ℕ)) → option_map (λ (more : List ℕ). ((text ++ run) ++ meant ∷ []) ++ more) o
          ≡ option_map (λ (more : List ℕ). text ++ more) (option_map (λ (more : List ℕ). run ++ more) (option_map (λ (more : List ℕ). meant ∷ more) o))
      regroup None = refl
      regroup (Some more) = ap Some (append_assoc (text ++ run) (meant ∷ []) more ∙ append_assoc text run (meant ∷ more))
