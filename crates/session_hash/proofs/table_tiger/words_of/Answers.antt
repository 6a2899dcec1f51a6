use Rattle.std.proofs.Common.{ap, ◌∷◌, [], length, length-append, arith}
use Rattle.session_hash.proofs.Blocks.{words_next, words_all}
use Rattle.session_hash.proofs.table_tiger.words_of.Goals as goal

pub loop-place-preserved : goal.loop-place-preserved
loop-place-preserved c = record {
  words = words_next 1024 c.loop-place.place c.args.bytes.now c.loop-place.rest.now c.first_word-word.result.1.now c.loop-place.words.items c.push.new.self.items c.first_word-word.result.0
      (omega arith) c.loop-place.invariant.words c.first_word-word.ensures.word c.first_word-word.ensures.rest c.in_ok-push.ensures.items;
  made = omega (arith, ap length c.in_ok-push.ensures.items, length-append c.loop-place.words.items (c.first_word-word.result.0 ∷ []), c.loop-place.invariant.made);
  left = omega (arith, c.first_word-word.ensures.left, c.loop-place.invariant.left);
}

pub returns-clause-words : goal.returns-clause-words
returns-clause-words c = words_all 1024 c.loop-place.place c.args.bytes.now c.loop-place.rest.now c.loop-place.words.items (omega arith) c.loop-place.invariant.words
