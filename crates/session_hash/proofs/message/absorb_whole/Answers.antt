use Rattle.std.proofs.Common.{refl}
use Rattle.session_hash.specs.Tiger.{registers_after}
use Rattle.session_hash.proofs.Blocks.{whole_next}
use Rattle.session_hash.proofs.message.absorb_whole.Goals as goal

pub loop-place-init : goal.loop-place-init
unfolding registers_after
loop-place-init c = refl

pub loop-place-preserved : goal.loop-place-preserved
loop-place-preserved c =
    whole_next c.args.tables.now c.args.message.now c.loop-place.place c.loop-place.registers c.compress-registers.result c.block_words.result
    c.loop-place-test.true c.loop-place.invariant c.block_words.ensures c.compress-registers.ensures
