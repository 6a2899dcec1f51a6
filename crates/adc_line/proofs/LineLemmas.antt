-- From the tests that the code makes to what a definition says.
use Rattle.std.proofs.Common.{◌≡◌, ◌≢◌, ℕ, ◌≤◌, List, length, not, sym, ap, ◌∙◌, refl, subst}
use Rattle.std.specs.Prelude.{Option, Some, None, Result, Ok, Err, IsErrAnd}
use Rattle.std.specs.Option.{option_map_or}
use Rattle.std.specs.Str.{IsUtf8}
use Rattle.std.proofs.lemmas.Str.{is_utf8-from_IsUtf8, IsUtf8-from_is_utf8}
use Rattle.std.proofs.lemmas.Bool.{cond-true, cond-false, le-ltb, false_from_ne_true}
use Rattle.adc_line.specs.declared.fault.LineFault.{LineFault}
use Rattle.adc_line.specs.declared.fault.LineFault.TheVariants as faults
use Rattle.adc_line.specs.Frames.{max_line}
use Rattle.adc_line.specs.Gives.{Gives}
use Rattle.adc_line.specs.declared.header.Header.{Header}
use Rattle.adc_line.specs.Header.{header_at}
use Rattle.adc_line.specs.Lines.{Reading, reading, with_header, message, params_of}
use Rattle.adc_line.specs.Parameters.{params_fault}
use Rattle.adc_line.specs.Words.{words}

pub text_read : (bytes text : List ℕ) → length bytes ≤ max_line → text ≡ bytes → IsUtf8 bytes → reading bytes ≡ with_header text (header_at (words text))
unfolding reading
text_read bytes text short same utf8 =
    cond-false _ _ _ (le-ltb max_line (length bytes) short) ∙ cond-false _ _ _ (ap not (is_utf8-from_IsUtf8 bytes utf8)) ∙ ap (λ xs. with_header xs (header_at (words xs))) (sym same)

pub not_utf8 : (bytes : List ℕ) → length bytes ≤ max_line → (IsUtf8 bytes → ⊥) → reading bytes ≡ Err faults.NotUtf8
unfolding reading
not_utf8 bytes short bad =
    cond-false _ _ _ (le-ltb max_line (length bytes) short) ∙ cond-true _ _ _ (ap not (false_from_ne_true _ (λ e. bad (IsUtf8-from_is_utf8 bytes e))))

-- a fault that takes no memory to find, passed on by `?`
Gives-fault : {X Y : Type 0} (view : X → Y) (fault : LineFault) (wanted : Result Y LineFault) → fault ≢ faults.Memory → wanted ≡ Err fault → Gives view (Err fault) wanted
Gives-fault view faults.Memory wanted other e = absurd (other refl)
Gives-fault view faults.TooLong wanted other e = e
Gives-fault view faults.NotUtf8 wanted other e = e
Gives-fault view faults.Header wanted other e = e
Gives-fault view faults.Parameter wanted other e = e
Gives-fault view faults.Escape wanted other e = e

pub passed-on : {X Y : Type 0} (view : X → Y) (answer : Result X LineFault) (fault : LineFault) (wanted : Result Y LineFault)
    → IsErrAnd answer (λ made. made ≡ fault) → fault ≢ faults.Memory → wanted ≡ Err fault → Gives view answer wanted
passed-on view (Ok x) fault wanted made other e = absurd made
passed-on view (Err made) fault wanted is other e = subst (λ (found : LineFault). Gives view (Err found) wanted) (sym is) (Gives-fault view fault wanted other e)

-- the message, unless its parameters have a fault
abbrev pub unless_faulty : Reading → Option LineFault → Result Reading LineFault
unless_faulty line fault = option_map_or (λ (f : LineFault). Err f) fault (Ok line)

pub parameters-faulty : (bytes text : List ℕ) (header : Header) (fault : LineFault) → reading bytes ≡ with_header text (header_at (words text)) → header_at (words text) ≡ Some header
    → params_fault (params_of header.head.kind (words text)) ≡ Some fault → reading bytes ≡ Err fault
parameters-faulty bytes text header fault whole head params =
    whole ∙ ap (with_header text) head ∙ ap (unless_faulty (message text header)) params

-- what passes each test is read, and so is a copy of it
pub reading-passes : (bytes text copy : List ℕ) (header : Header) → text ≡ bytes → reading bytes ≡ with_header text (header_at (words text)) → header_at (words text) ≡ Some header
    → params_fault (params_of header.head.kind (words text)) ≡ None → copy ≡ text → reading copy ≡ Ok (message copy header)
reading-passes bytes text copy header same whole head params copied =
    ap reading (copied ∙ same) ∙ whole ∙ ap (with_header text) head ∙ ap (unless_faulty (message text header)) params
    ∙ ap (λ xs. Ok (message xs header)) (sym copied)
