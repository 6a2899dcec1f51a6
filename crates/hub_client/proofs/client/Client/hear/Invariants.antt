use Rattle.std.proofs.Common.{◌≡◌, ◌≤◌, []}
use Rattle.hub_client.specs.Talks.{HearsLines, gone_of, turns_of, unheard, users_of}
use Rattle.hub_client.proofs.client.Client.hear.Given as goal

-- only empty lines were heard
abbrev pub invariant-turns : goal.invariant-turns
invariant-turns g l = record {
  empty : HearsLines (unheard g.S.Read.remaining l.fn.self) (unheard g.S.Read.remaining l.self) [];
  users : users_of l.self ≡ users_of l.fn.self;
  gone : gone_of l.self ≡ gone_of l.fn.self;
  fewer : turns_of l.self ≤ turns_of l.fn.self;
}

abbrev pub decreases-turns : goal.decreases-turns
decreases-turns g l = turns_of l.self
