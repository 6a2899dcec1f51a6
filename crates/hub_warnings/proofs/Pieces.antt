-- What was written, piece by piece.
use Rattle.std.proofs.Common.{ℕ, List, [], ◌∷◌, ◌++◌, Bool, sym, subst, inl, inr, refl, arith}
use Rattle.std.specs.Prelude.{Option, Some, None, IsTrue, Result, Ok, Err, OnOk, IsOk}
use Rattle.std.specs.List.{concat}
use Rattle.std.specs.Io.KnownBytes.{Appends}
use Rattle.std.specs.declared.time.Duration.{Duration}
use Rattle.std.proofs.KnownBytes.{Appends-trans}
use Rattle.std.proofs.lemmas.List.{append-nil}
use Rattle.std.proofs.lemmas.List.Elements.{All-push, All-append}
use Rattle.std.proofs.lemmas.List.Folds.{concat-append}
use Rattle.std.proofs.lemmas.Grind.{common_steps}
use Rattle.hub_warnings.specs.Queued.{is_line, IsPiece, AppendsPieces, AppendsLine, TellsDropped}

-- what holds at an answer that is no error
pub on-ok : {T E P : Type 0} (r : Result T E) → IsOk r → OnOk r P → P
on-ok (Ok x) ok holds = holds
on-ok (Err e) ok holds = cc ok

-- one piece
pub one-piece : (p : Bool) (a b : Option (List ℕ)) (piece : List ℕ) → IsPiece p piece → Appends a b piece → AppendsPieces p a b
one-piece p a b piece is more =
    (piece ∷ [], All-push (IsPiece p) [] piece (grind (arith, common_steps)) is, subst (λ (xs : List ℕ). Appends a b xs) (sym (append-nil piece)) more)

-- some pieces and then some
pub more-pieces : (p : Bool) (a b c : Option (List ℕ)) → AppendsPieces p a b → AppendsPieces p b c → AppendsPieces p a c
more-pieces p a b c before after =
    let all : Appends a c (concat before.0 ++ concat after.0) = Appends-trans a b c _ _ before.2 after.2 in
    let same : Appends a c (concat (before.0 ++ after.0)) = subst (λ (xs : List ℕ). Appends a c xs) (sym (concat-append before.0 after.0)) all in
    (before.0 ++ after.0, All-append (IsPiece p) before.0 after.0 before.1 after.1, same)

-- a line
pub line-piece : (p : Bool) (a b : Option (List ℕ)) (line : List ℕ) → IsTrue (is_line line) → Appends a b line → AppendsPieces p a b
line-piece p a b line is more = one-piece p a b line (inl is) more

-- what is said of those that were dropped
pub dropped-piece : {C : Type 0} (reads : C → Option Duration → Type 0) (clock : C) (p : Bool) (a b : Option (List ℕ))
    → TellsDropped reads clock p a b → AppendsPieces p a b
dropped-piece reads clock p a b tells = one-piece p a b _ (inr (tells.0, refl)) tells.2

-- nothing
pub no-pieces : (p : Bool) (a : Option (List ℕ)) → AppendsPieces p a a
no-pieces p None = ([], grind (arith, common_steps), tt)
no-pieces p (Some xs) = ([], grind (arith, common_steps), sym (append-nil xs))

-- a line and some pieces
pub line-pieces : (p : Bool) (a b : Option (List ℕ)) (line : List ℕ) → IsTrue (is_line line) → AppendsLine p line a b → AppendsPieces p a b
line-pieces p a b line is more = more-pieces p a more.0 b (line-piece p a more.0 line is more.1) more.2
