-- Runs of a framer, and the lines of what was fed.
use Rattle.std.proofs.Common.{◌≡◌, ℕ, List, [], ◌∷◌, ◌++◌, All, refl, sym, ap, ◌∙◌, append_assoc, append-nil}
use Rattle.std.proofs.lemmas.List.Elements.{All-head, All-tail, All-cons, All-nil}
use Rattle.adc_line.specs.Frames.{lf}
use Rattle.adc_line.specs.declared.framer.Next.TheVariants.{Line, More, TooLong}
use Rattle.adc_line.specs.Runs.{FramerCall, fed, told, Follows, all_fed, all_out}
use Rattle.adc_line.specs.Stream.{lines, joined_lines, IsLine}
use Rattle.adc_line.proofs.FrameLemmas.{lines-line}

pub lines-joined : (ended : List (List ℕ)) (rest : List ℕ) → All IsLine ended → lines (joined_lines ended ++ rest) ≡ ended ++ lines rest
lines-joined [] rest h = refl
lines-joined (line ∷ more) rest h =
    let first = All-head IsLine line more h in
    ap lines (append_assoc (line ++ lf ∷ []) (joined_lines more) rest ∙ append_assoc line (lf ∷ []) (joined_lines more ++ rest)) ∙ lines-line line (joined_lines more ++ rest) first.0 first.1
    ∙ ap (λ xs. line ∷ xs) (lines-joined more rest (All-tail IsLine line more h))

-- from any unread bytes on: those and what was fed are what came out and what is left
pub run_conserves : (unread : List ℕ) (deeds : List FramerCall) (left : List ℕ) → Follows unread deeds left → unread ++ all_fed deeds ≡ joined_lines (all_out deeds) ++ left
run_conserves unread [] left h = append-nil unread ∙ sym h
run_conserves unread (fed piece ∷ deeds) left h = sym (append_assoc unread piece (all_fed deeds)) ∙ run_conserves (unread ++ piece) deeds left h
run_conserves unread (told Line held out ∷ deeds) left h =
    ap (λ xs. xs ++ all_fed deeds) h.1.0 ∙ append_assoc out (lf ∷ h.0) (all_fed deeds) ∙ ap (λ xs. out ++ lf ∷ xs) (run_conserves h.0 deeds left h.2)
    ∙ sym (append_assoc out (lf ∷ []) (joined_lines (all_out deeds) ++ left)) ∙ sym (append_assoc (out ++ lf ∷ []) (joined_lines (all_out deeds)) left)
run_conserves unread (told More held out ∷ deeds) left h = ap (λ xs. xs ++ all_fed deeds) (sym h.1.0) ∙ run_conserves h.0 deeds left h.2
run_conserves unread (told TooLong held out ∷ deeds) left h = ap (λ xs. xs ++ all_fed deeds) (sym h.1.0) ∙ run_conserves h.0 deeds left h.2

-- what came out may stand in a stream
pub run_gives_lines : (unread : List ℕ) (deeds : List FramerCall) (left : List ℕ) → Follows unread deeds left → All IsLine (all_out deeds)
run_gives_lines unread [] left h = All-nil IsLine
run_gives_lines unread (fed piece ∷ deeds) left h = run_gives_lines (unread ++ piece) deeds left h
run_gives_lines unread (told Line held out ∷ deeds) left h = All-cons IsLine out (all_out deeds) (h.1.1, h.1.2) (run_gives_lines h.0 deeds left h.2)
run_gives_lines unread (told More held out ∷ deeds) left h = run_gives_lines h.0 deeds left h.2
run_gives_lines unread (told TooLong held out ∷ deeds) left h = run_gives_lines h.0 deeds left h.2

pub run_gives_prefix : (deeds : List FramerCall) (left : List ℕ) → Follows [] deeds left → lines (all_fed deeds) ≡ all_out deeds ++ lines left
run_gives_prefix deeds left h = ap lines (run_conserves [] deeds left h) ∙ lines-joined (all_out deeds) left (run_gives_lines [] deeds left h)
