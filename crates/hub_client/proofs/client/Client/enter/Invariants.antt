use Rattle.std.proofs.Common.{◌≡◌, ◌++◌, List, None}
use Rattle.std.specs.List.{All, filter}
use Rattle.adc_line.specs.Lines.{Reading}
use Rattle.hub_client.specs.Conversations.{Waits}
use Rattle.hub_client.specs.Entries.{IsLoginStep, is_user_line}
use Rattle.hub_client.specs.Talks.{gone_of, turns_of, unheard, users_of}
use Rattle.hub_client.proofs.client.Client.enter.Given as goal

-- the lines that were heard say nothing of how far the client came
abbrev pub invariant-lines : goal.invariant-lines
invariant-lines g l = record {
  heard : (heard : List Reading) × Waits g.S.Read.remaining g.S.Write.contents l.fn.self l.login.text heard (unheard g.S.Read.remaining l.self)
      × All (λ line. IsLoginStep line l.sid None) heard × (users_of l.self ≡ users_of l.fn.self ++ filter is_user_line heard);
  gone : gone_of l.self ≡ gone_of l.fn.self;
}

abbrev pub decreases-lines : goal.decreases-lines
decreases-lines g l = turns_of l.self
