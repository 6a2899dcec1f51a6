use Rattle.std.proofs.Common.{◌∙◌, ap, ◌*◌, ◌/◌, ◌++◌, length}
use Rattle.std.proofs.lemmas.List.{take_rest}
use Rattle.session_hash.specs.Padding.{padding}
use Rattle.session_hash.proofs.Blocks.{tail_is_blocks, absorbed_all}
use Rattle.session_hash.proofs.message.absorb.Goals as goal

pub absorb_tail-requires-clause-blocks : goal.absorb_tail-requires-clause-blocks
absorb_tail-requires-clause-blocks c =
    tail_is_blocks c.args.message.now c.as_slice.result.now (c.as_slice.ensures.value ∙ c.tail-tail.ensures ∙ ap (λ rest. rest ++ padding (length c.args.message.now)) (take_rest c.args.message.now (64 * (length c.args.message.now / 64))))

pub returns : goal.returns
returns c =
    absorbed_all c.args.tables.now c.args.message.now c.as_slice.result.now c.absorb_whole-registers.result c.absorb_tail.result
    (c.as_slice.ensures.value ∙ c.tail-tail.ensures ∙ ap (λ rest. rest ++ padding (length c.args.message.now)) (take_rest c.args.message.now (64 * (length c.args.message.now / 64)))) c.absorb_whole-registers.ensures c.absorb_tail.ensures.one c.absorb_tail.ensures.two
