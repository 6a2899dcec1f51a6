-- What the search for a carriage return before a line feed finds.
use Rattle.std.proofs.Common.{◌≡◌, refl, sym, ap, ◌∙◌, ◌≤◌, ℕ, Bool, true, false, List, [], ◌∷◌, ◌++◌, length, length-append, take, drop, None, IsTrue, MatchBool, arith}
use Rattle.std.proofs.lemmas.Bool.{false≢true}
use Rattle.std.proofs.lemmas.List.{take-append-drop}
use Rattle.std.proofs.Math.Seq.{drop-append_seam}
use Rattle.std.specs.Str.Pattern.{FindsText, HasMatch}
use Rattle.settings_report.specs.MenuTexts.{HasCarriageReturn}

pub contained : (text : List ℕ) (found : Bool) → MatchBool found (HasMatch (FindsText (13 ∷ 10 ∷ [])) text) (FindsText (13 ∷ 10 ∷ []) text None)
    → (IsTrue found → HasCarriageReturn text) × (HasCarriageReturn text → IsTrue found)
contained text true (i, j, finds, order, within) =
    let cut : text ≡ take i text ++ drop i text = sym (take-append-drop i text) in
    ((λ _. (take i text, drop j text, cut ∙ ap (λ rest. take i text ++ rest) finds.1.split)), λ _. refl)
contained text false lacks = (
  (λ yes. absurd (false≢true yes)),
  λ has. let (before, behind, is) = has in
      let within : length before ≤ length text = rw (is, length-append) (omega arith) in
      let rest : drop (length before) text ≡ 13 ∷ 10 ∷ behind = ap (drop (length before)) is ∙ drop-append_seam before (13 ∷ 10 ∷ behind) in
      absurd (lacks (length before) within behind rest),
)
