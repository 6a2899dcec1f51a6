-- An outbox after lines went in.
use Rattle.std.proofs.Common.{◌≡◌, ℕ, ◌+◌, ◌≤◌, false, List, [], ◌∷◌, ◌++◌, length, map, refl, ap, ◌∙◌, arith, Global}
use Rattle.std.specs.declared.sync.Arc.{Arc}
use Rattle.std.proofs.lemmas.Grind.{common_steps}
use Rattle.std.proofs.lemmas.List.{map-append}
use Rattle.bytes.specs.declared.shared.Bytes.{Bytes}
use Rattle.outboxes.specs.Backlogs.{Backlog, backlog_after, size_of, with_lines}
use Rattle.outboxes.specs.Places.{line_of}
use Rattle.outboxes.specs.declared.outbox.Place.{Place}
use Rattle.outboxes.specs.declared.outbox.Place.TheVariants.{Line}

lines-of : (lines : List (Arc (Bytes Global) Global)) → map line_of (map Line lines) ≡ map (λ line. line.value) lines
lines-of [] = refl
lines-of (line ∷ lines) = ap (λ all. line.value ∷ all) (lines-of lines)

pub lines-added : (places : List Place) (lines : List (Arc (Bytes Global) Global)) → map line_of (places ++ map Line lines) ≡ map line_of places ++ map (λ line. line.value) lines
lines-added places lines = map-append line_of places (map Line lines) ∙ ap (λ all. map line_of places ++ all) (lines-of lines)

pub given-whole : (o : Backlog) (share : List (List ℕ)) → o.lags ≡ false → length o.lines + length share ≤ o.cap → size_of o.lines + size_of share ≤ o.bytes → backlog_after o share ≡ with_lines o (o.lines ++ share)
unfolding backlog_after
given-whole o share l n b = grind (arith, common_steps)
