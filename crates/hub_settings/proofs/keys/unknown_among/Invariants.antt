use Rattle.std.proofs.Common.{◌≡◌, map}
use Rattle.toml.specs.View.{members_view}
use Rattle.hub_settings.specs.Kinds.{key_seen, names}
use Rattle.hub_settings.specs.Unknown.{first_unknown}
use Rattle.hub_settings.proofs.keys.unknown_among.Given as goal

abbrev pub invariant-loop-key : goal.invariant-loop-key
invariant-loop-key l =
    (goal.iterator-loop-key).can_next l.key-iterator × (goal.iterator-loop-key).is_finite l.key-iterator
    × (first_unknown (names (map key_seen l.keys)) (members_view l.fn.table.entries) ≡ first_unknown (names (map key_seen l.keys)) (members_view l.key-iterator))
