use Rattle.std.proofs.Common.{rules}
use Rattle.adc_line.specs.WordsLeft.{words_left}
use Rattle.hub_client.proofs.FirstField.{found-at, none-left, none-more}
use Rattle.hub_client.proofs.status.first_field.Goals as goal

pub returns-in-Some : goal.returns-in-Some
returns-in-Some c = found-at c.args.names.now c.loop-name.name-index _ (words_left c.args.words) c.in-Some.value.now (search rules) c.loop-name.invariant c.in-Some.ensures

pub loop-name-preserved : goal.loop-name-preserved
loop-name-preserved c = none-more c.args.names.now c.loop-name.name-index _ (words_left c.args.words) (search rules) c.loop-name.invariant c.in_default.ensures

pub returns : goal.returns
returns c = none-left c.args.names.now c.loop-name.name-index (words_left c.args.words) (search rules) c.loop-name.invariant
