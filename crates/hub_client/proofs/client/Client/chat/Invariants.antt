use Rattle.std.proofs.Common.{◌≡◌, List, None}
use Rattle.std.specs.List.{All}
use Rattle.adc_line.specs.Lines.{Reading}
use Rattle.hub_client.specs.Conversations.{IsEcho, Waits}
use Rattle.hub_client.specs.Talks.{gone_of, turns_of, unheard, users_of}
use Rattle.hub_client.proofs.client.Client.chat.Given as goal

-- the lines that were heard are others
abbrev pub invariant-lines : goal.invariant-lines
invariant-lines g l =
    (heard : List Reading) × Waits g.S.Read.remaining g.S.Write.contents l.fn.self l.line.text heard (unheard g.S.Read.remaining l.self)
    × All (λ heard. IsEcho l.line.text heard None) heard × (users_of l.self ≡ users_of l.fn.self) × (gone_of l.self ≡ gone_of l.fn.self)

abbrev pub decreases-lines : goal.decreases-lines
decreases-lines g l = turns_of l.self
