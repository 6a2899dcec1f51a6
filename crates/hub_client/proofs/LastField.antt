-- The last field of messages, one message on.
use Rattle.std.proofs.Common.{◌≡◌, ◌∙◌, ap, sym, refl, ℕ, ◌+◌, ◌<◌, List, [], ◌∷◌, ◌++◌, append_assoc, length, get_or, take, drop, Option, Some, None, add-one}
use Rattle.std.proofs.lemmas.List.{take-append-drop, take_more}
use Rattle.std.proofs.lemmas.List.Elements.{All-append, All-cons, All-nil}
use Rattle.std.proofs.Math.Seq.{drop-cons}
use Rattle.adc_line.specs.Lines.{Reading}
use Rattle.hub_client.specs.Fields.{IsField}
use Rattle.hub_client.specs.Users.{IsLastField, IsSilentOn}

pub last-stays : (name : List ℕ) (sid : ℕ) (lines : List Reading) (line : Reading) (last : Option (List ℕ)) → IsLastField name sid lines last → IsSilentOn name sid line
    → IsLastField name sid (lines ++ line ∷ []) last
last-stays name sid lines line None none silent = All-append (IsSilentOn name sid) lines (line ∷ []) none (All-cons (IsSilentOn name sid) line [] silent (All-nil (IsSilentOn name sid)))
last-stays name sid lines line (Some value) (front, at, behind, is, of, has, none) silent = (
  front,
  at,
  behind ++ line ∷ [],
  ap (λ t. t ++ line ∷ []) is ∙ append_assoc front (at ∷ behind) (line ∷ []),
  of,
  has,
  All-append (IsSilentOn name sid) behind (line ∷ []) none (All-cons (IsSilentOn name sid) line [] silent (All-nil (IsSilentOn name sid))),
)

pub last-changes : (name : List ℕ) (sid : ℕ) (lines : List Reading) (line : Reading) (value : List ℕ) → line.from ≡ Some sid → IsField name line.params (Some value)
    → IsLastField name sid (lines ++ line ∷ []) (Some value)
last-changes name sid lines line value of has = (lines, line, [], refl, of, has, All-nil (IsSilentOn name sid))

-- one line on
pub one-more : (lines : List Reading) (i : ℕ) (line : Reading) → i < length lines → line ≡ get_or lines i line → take (i + 1) lines ≡ take i lines ++ line ∷ []
one-more lines i line within is = take_more lines i line within ∙ ap (λ l. take i lines ++ l ∷ []) (sym is)

pub parted : (lines : List Reading) (i : ℕ) (line : Reading) → i < length lines → line ≡ get_or lines i line → lines ≡ take i lines ++ line ∷ drop (i + 1) lines
parted lines i line within is =
    sym (take-append-drop i lines) ∙ ap (λ t. take i lines ++ t) (rw add-one (drop-cons lines i line within)) ∙ ap (λ l. take i lines ++ l ∷ drop (i + 1) lines) (sym is)
