use Rattle.std.proofs.Common.{ap, ◌∙◌, sym}
use Rattle.std.proofs.lemmas.List.{take_more}
use Rattle.settings_report.specs.declared.places.TextPlace.{TextPlace}
use Rattle.settings_report.proofs.Behind.{behind_character, behind_line_feed, behind_part}
use Rattle.settings_report.proofs.places.TextPlace.behind.Goals as goal
use Rattle.settings_report.proofs.places.TextPlace.behind.Goals.{then-byte-eq10, else-byte-eq10+then-begins_character, else-byte-eq10+else-begins_character}

pub loop-byte-preserved : goal.loop-byte-preserved
loop-byte-preserved c =
    let grown = take_more c.args.bytes.now c.loop-byte.byte-index 0 c.loop-byte-test.true in
    let before = c.loop-byte.invariant in
    elim c.if-byte-eq10.branch [
      | then-byte-eq10 w ↦
          behind_line_feed _ _ _ c.loop-byte.place c.if-byte-eq10.place grown w.if-byte-eq10.true
          (ap (λ (p : TextPlace). p.line) w.place-is ∙ w.saturating_add.ensures) (ap (λ (p : TextPlace). p.column) w.place-is) before
      | else-byte-eq10+then-begins_character w ↦
          behind_character _ _ _ c.loop-byte.place c.if-byte-eq10.place grown w.if-byte-eq10.false (sym w.begins_character.ensures ∙ w.if-begins_character.true)
          (ap (λ (p : TextPlace). p.line) w.place-is) (ap (λ (p : TextPlace). p.column) w.place-is ∙ w.saturating_add-then-begins_character.ensures) before
      | else-byte-eq10+else-begins_character w ↦
          behind_part _ _ _ c.loop-byte.place c.if-byte-eq10.place grown w.if-byte-eq10.false (sym w.begins_character.ensures ∙ w.if-begins_character.false)
          w.place-is before
    ]
