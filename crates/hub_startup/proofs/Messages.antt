-- The front of a message that is written in parts.
use Rattle.std.proofs.Common.{◌∙◌, sym, ap, List, [], ◌++◌, ℕ, append_assoc}
use Rattle.std.specs.Prelude.{Option, Result, Ok, Err, OnOk, OnErr}
use Rattle.std.specs.Io.KnownBytes.{Appends}
use Rattle.std.proofs.KnownBytes.{Appends-trans}
use Rattle.std.proofs.lemmas.List.{append-nil}
use Rattle.counted_io.specs.Parts.{AppendsFront}

-- the front of a part is one of what begins with it
pub front-before : (a b : Option (List ℕ)) (part rest : List ℕ) → AppendsFront a b part → AppendsFront a b (part ++ rest)
front-before a b part rest front = (front.0, front.1 ++ rest, ap (λ xs. xs ++ rest) front.2 ∙ append_assoc front.0 front.1 rest, front.3)

-- a part, and a front of what stands behind it
pub front-behind : (a b c : Option (List ℕ)) (part rest : List ℕ) → Appends a b part → AppendsFront b c rest → AppendsFront a c (part ++ rest)
front-behind a b c part rest whole front =
    (part ++ front.0, front.1, ap (λ xs. part ++ xs) front.2 ∙ sym (append_assoc part front.0 front.1), Appends-trans a b c _ _ whole front.3)

-- a part, or its front where it could not be written
pub front-of : {T E : Type 0} (r : Result T E) (a b : Option (List ℕ)) (part : List ℕ) → OnOk r (Appends a b part)
    → OnErr r (AppendsFront a b part) → AppendsFront a b part
front-of (Ok x) a b part whole front = (part, [], sym (append-nil part), whole)
front-of (Err e) a b part whole front = front
