use Rattle.std.specs.Prelude.{[]}
use Rattle.std.proofs.Common.{take}
use Rattle.history_check.specs.Following.{FollowsHistory}
use Rattle.history_check.specs.Written.{history_of}
use Rattle.history_check.proofs.check.play.Given as goal

abbrev pub invariant-loop-place : goal.invariant-loop-place
invariant-loop-place g l = FollowsHistory l.setup (g.H.SessionHash.digest_of l.hash) (history_of (take l.place l.entries) []) l.core l.joined.items
