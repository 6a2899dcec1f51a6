use Rattle.std.proofs.Common.{ℕ, take}
use Rattle.std.specs.List.{All}
use Rattle.hub_client.specs.Entries.{IsSentAway}
use Rattle.hub_client.specs.Talks.{gone_of}
use Rattle.hub_client.proofs.client.Client.sent_away.Given as goal

-- none of the departures so far is one by this operator
abbrev pub invariant-loop-line : goal.invariant-loop-line
invariant-loop-line g l = All (λ line. (sid : ℕ) → IsSentAway line sid l.operator → ⊥) (take l.line-index (gone_of l.self))
