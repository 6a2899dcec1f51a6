use Rattle.std.proofs.Common.{take}
use Rattle.adc_line.specs.WordsLeft.{words_left}
use Rattle.hub_client.proofs.FirstField.{HasNone, seen}
use Rattle.hub_client.proofs.status.first_field.Given as goal

-- the words have none of the fields so far
abbrev pub invariant-loop-name : goal.invariant-loop-name
invariant-loop-name l = HasNone (words_left l.words) (seen (take l.name-index l.names))
