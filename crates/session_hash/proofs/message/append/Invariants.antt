use Rattle.std.proofs.Common.{◌≡◌, ◌+◌, ◌++◌, take}
use Rattle.arrayvec.specs.ArrayVec.{array_vec_len}
use Rattle.session_hash.proofs.message.append.Given as goal

abbrev pub invariant-loop-byte : goal.invariant-loop-byte
invariant-loop-byte l = record {
  items : l.tail.items ≡ l.fn.tail.items ++ take l.byte-index l.bytes;
  len : array_vec_len l.tail ≡ array_vec_len l.fn.tail + l.byte-index;
}
