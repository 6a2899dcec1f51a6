-- A hub's fields as contracts see them.
use Rattle.std.specs.Prelude.{◌<◌, ◌≤◌}
use Rattle.std.specs.Arc.{arc_value}
use Rattle.hub_core.specs.declared.hub.Core.TheInside.{Inside}
use Rattle.hub_core.specs.CoreState.{CoreState}
use Rattle.hub_core.specs.Index.{AreIndexedBySid, keys}
use Rattle.hub_core.specs.Numbers.{Ordered}
use Rattle.hub_core.specs.Told.{AreTold}
use Rattle.hub_core.specs.Backlogs.{AreBeside, backlogs_of}
use Rattle.hub_rules.specs.Configured.{most_users}

abbrev pub core_view : Inside → CoreState
core_view c = record {
  setup = arc_value c.setup;
  joins = c.joins;
  last = c.last;
  seats = c.seats.items;
  backlogs = backlogs_of c.backlogs.rows;
  users = c.commons.present.users;
  bans = c.commons.bans;
  topic = c.commons.topic;
  touched = c.touched;
}

-- no more connections are admitted than a hub may have, each identifier is one, and the seats stand in the order of their joins
-- and are found by their session identifiers; what waits stands beside them; the lines that are kept are those of the users who are present
abbrev pub IsCore : Inside → Type 0
IsCore c =
    ((arc_value c.setup).plain.max_users ≤ most_users) × (c.last < 1_048_576) × Ordered c.joins c.seats.items × AreIndexedBySid c.index (keys c.seats.items)
    × AreTold (arc_value c.setup) c.commons.present × AreBeside c.backlogs c.seats.items
