use Rattle.std.proofs.Common.{◌≡◌, ◌+◌, ◌-◌, ◌*◌, ◌++◌, length}
use Rattle.session_hash.specs.Tables.{words_from}
use Rattle.session_hash.proofs.table_tiger.words_of.Given as goal

abbrev pub invariant-loop-place : goal.invariant-loop-place
invariant-loop-place l = record {
  words : l.words.items ++ words_from (1024 - l.place) l.rest ≡ words_from 1024 l.bytes;
  made : length l.words.items ≡ l.place;
  left : length l.rest + 8 * l.place ≡ 8192;
}
