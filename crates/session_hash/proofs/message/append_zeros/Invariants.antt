use Rattle.std.proofs.Common.{◌≡◌, ◌+◌, ◌++◌, replicate}
use Rattle.arrayvec.specs.ArrayVec.{array_vec_len}
use Rattle.session_hash.proofs.message.append_zeros.Given as goal

abbrev pub invariant-loop-place : goal.invariant-loop-place
invariant-loop-place l = record {
  items : l.tail.items ≡ l.fn.tail.items ++ replicate l.place 0;
  len : array_vec_len l.tail ≡ array_vec_len l.fn.tail + l.place;
}
