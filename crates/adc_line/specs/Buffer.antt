-- The bytes of a framer's buffer that are unread.
use Rattle.std.specs.Prelude.{ℕ, ◌+◌, ◌≤◌, List, length, take, drop}
use Rattle.adc_line.specs.Frames.{HasNoLf}
use Rattle.adc_line.specs.declared.framer.Framer.TheInside.{Inside}

abbrev pub unread : Inside → List ℕ
unread f = drop f.start f.buffer.items

-- the unread bytes that were looked through hold no line feed
abbrev pub IsSearched : Inside → Type 0
IsSearched f = (f.start + f.searched ≤ length f.buffer.items) × HasNoLf (take f.searched (drop f.start f.buffer.items))
