-- What a connection is told for which the hub has no room.
use Rattle.std.specs.Prelude.{ℕ, List, codes}
use Rattle.hub_rules.specs.Texts.{with_line_feed}

-- the hub is full
unfoldable pub hub_full : List ℕ
hub_full = with_line_feed (codes "ISTA 211 Hub\\sfull")
