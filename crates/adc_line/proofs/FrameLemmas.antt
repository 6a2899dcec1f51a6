-- The lines of a stream, from its front.
use Rattle.std.proofs.Common.{◌≡◌, ℕ, ◌+◌, ◌<◌, ◌≤◌, Bool, true, false, not, List, [], ◌∷◌, ◌++◌, length, take, get_or, refl, sym, ap, subst, ◌∙◌, inl, inr, true≢false, one-add, length-take, arith}
use Rattle.std.specs.List.{slice_split, take_while, position_or_len, before_first, after_first}
use Rattle.std.proofs.lemmas.Bool.{le-leb, lt-leb, cases_lt}
use Rattle.std.proofs.lemmas.List.{take-take, get_or-take}
use Rattle.std.proofs.lemmas.List.Elements.{All-take}
use Rattle.std.proofs.lemmas.List.Splits.{slice_split_none, slice_split_at, slice_split_first, length-slice_split}
use Rattle.std.proofs.lemmas.List.Sums.{prefix_len_passes, prefix_len_stops, prefix_len-le-length}
use Rattle.adc_line.specs.Frames.{lf, max_line, is_lf, HasNoLf}
use Rattle.std.specs.Prelude.{Result, Ok, Err, IfOk}
use Rattle.adc_line.specs.declared.fault.FrameFault.{FrameFault}
use Rattle.adc_line.specs.NextLine.{IsNext, IsFirstLine}
use Rattle.adc_line.specs.declared.framer.Next.{Next}
use Rattle.adc_line.specs.declared.framer.Next.TheVariants.{Line, More, TooLong}
use Rattle.adc_line.specs.Stream.{all_but_last, frames, is_short, lines}

pub HasNoLf-take : (n m : ℕ) (bytes : List ℕ) → n ≤ m → HasNoLf (take m bytes) → HasNoLf (take n bytes)
HasNoLf-take n m bytes h none =
    let front : HasNoLf (take n (take m bytes)) = All-take (λ (b : ℕ). is_lf b ≡ false) n (take m bytes) none in
    subst HasNoLf (take-take n m bytes h) front

pub not_true : (b : Bool) → not b ≡ true → b ≡ false
not_true true e = sym e
not_true false e = refl

false_not : (b : Bool) → not b ≡ false → b ≡ true
false_not true e = refl
false_not false e = sym e

-- a line feed is not among the first bytes that hold none
not_within : (bytes : List ℕ) (at : ℕ) → at < length bytes → is_lf (get_or bytes at 0) ≡ true → HasNoLf (take (max_line + 1) bytes) → max_line < at
not_within bytes at lt e none =
    elim (cases_lt max_line at) [
      | inl far ↦ far
      | inr near ↦
          let inside : at < length (take (max_line + 1) bytes) = simp length-take (omega arith) in
          absurd (true≢false (sym e ∙ ap is_lf (sym (get_or-take (max_line + 1) bytes at 0 (omega arith))) ∙ none at 0 inside))
    ]

-- where no element passes, the list is the one piece
pub slice_split-whole : (p : ℕ → Bool) (xs : List ℕ) → position_or_len p xs ≡ length xs → slice_split p xs ≡ xs ∷ []
slice_split-whole p xs e =
    slice_split_none p xs (λ k d h. not_true _ (prefix_len_passes (λ x. not (p x)) xs k d (omega arith)))

all_but_last-cons : (piece : List ℕ) (pieces : List (List ℕ)) → 0 < length pieces → all_but_last (piece ∷ pieces) ≡ piece ∷ all_but_last pieces
all_but_last-cons piece [] h = absurd (omega arith)
all_but_last-cons piece (next ∷ more) h = refl

frames-cons : (piece bytes rest : List ℕ) → slice_split is_lf bytes ≡ piece ∷ slice_split is_lf rest → frames bytes ≡ piece ∷ frames rest
frames-cons piece bytes rest e =
    ap all_but_last e ∙ all_but_last-cons piece _ (omega (arith, length-slice_split is_lf rest))

take_while-yes : (piece : List ℕ) (pieces : List (List ℕ)) → is_short piece ≡ true → take_while is_short (piece ∷ pieces) ≡ piece ∷ take_while is_short pieces
take_while-yes piece pieces e = rw (e, one-add)

take_while-no : (piece : List ℕ) (pieces : List (List ℕ)) → is_short piece ≡ false → take_while is_short (piece ∷ pieces) ≡ []
take_while-no piece pieces e = rw e

-- a line feed ends the first line
pub lines-line : (line rest : List ℕ) → HasNoLf line → length line ≤ max_line → lines (line ++ lf ∷ rest) ≡ line ∷ lines rest
unfolding lines
lines-line line rest none short =
    ap (take_while is_short) (frames-cons line (line ++ lf ∷ rest) rest (slice_split_at is_lf line lf rest none refl))
    ∙ take_while-yes line (frames rest) (le-leb _ _ short)

lines-none : (bytes : List ℕ) → slice_split is_lf bytes ≡ bytes ∷ [] → lines bytes ≡ []
unfolding lines
lines-none bytes e = ap (λ pieces. take_while is_short (all_but_last pieces)) e

-- bytes with no line feed have no line
pub lines-more : (bytes : List ℕ) → HasNoLf bytes → lines bytes ≡ []
lines-more bytes none = lines-none bytes (slice_split_none is_lf bytes none)

-- a first frame that is too long hides all lines
pub lines-too_long : (bytes : List ℕ) → max_line < length bytes → HasNoLf (take (max_line + 1) bytes) → lines bytes ≡ []
unfolding lines
lines-too_long bytes long none =
    let at = position_or_len is_lf bytes in
    let within : at ≤ length bytes = prefix_len-le-length (λ x. not (is_lf x)) bytes in
    elim (cases_lt at (length bytes)) [
      | inl lt ↦
          let stops = prefix_len_stops (λ x. not (is_lf x)) bytes 0 lt in
          let far : max_line < at = not_within bytes at lt (false_not _ stops) none in
          ap (take_while is_short) (frames-cons (before_first is_lf bytes) bytes (after_first is_lf bytes) (slice_split_first is_lf bytes 0 lt))
          ∙ take_while-no (before_first is_lf bytes) (frames (after_first is_lf bytes)) (lt-leb _ _ (omega (arith, length-take at bytes)))
      | inr ge ↦ lines-none bytes (slice_split-whole is_lf bytes (omega arith))
    ]

-- where a line feed is too far behind, the first bytes hold none
pub too_long : (unread bytes : List ℕ) (at : ℕ) → bytes ≡ unread → at ≤ length bytes → HasNoLf (take at bytes) → max_line < at → (max_line < length unread) × HasNoLf (take (max_line + 1) unread)
too_long unread bytes at same within none far =
    subst (λ (xs : List ℕ). (max_line < length xs) × HasNoLf (take (max_line + 1) xs)) same
    (omega arith, HasNoLf-take (max_line + 1) at bytes (omega arith) none)

-- what an answer says of the bytes makes a line the first of the stream
pub IsFirstLine-from : (unread held : List ℕ) (said : Next) (left out : List ℕ) → IsNext unread held said left out → IsFirstLine unread said left out
IsFirstLine-from unread held Line left out h = ap lines h.0 ∙ lines-line out left h.1 h.2
IsFirstLine-from unread held More left out h = lines-more unread h.2
IsFirstLine-from unread held TooLong left out h = lines-too_long unread h.2 h.3

pub first_from_next : (answer : Result Next FrameFault) (unread held left out : List ℕ) → IfOk answer (λ said. IsNext unread held said left out) → IfOk answer (λ said. IsFirstLine unread said left out)
first_from_next (Ok said) unread held left out h = IsFirstLine-from unread held said left out h
first_from_next (Err fault) unread held left out h = h
