use Rattle.std.proofs.Common.{◌≡◌, map}
use Rattle.toml.specs.View.{members_view}
use Rattle.hub_settings.specs.Unknown.{first_unknown}
use Rattle.settings_report.proofs.entries.unknown_key.Given as goal

abbrev pub invariant-loop-key : goal.invariant-loop-key
invariant-loop-key l =
    (goal.iterator-loop-key).can_next l.key-iterator × (goal.iterator-loop-key).is_finite l.key-iterator
    × (first_unknown (map (λ word. word.now) l.known) (members_view l.fn.table.entries) ≡ first_unknown (map (λ word. word.now) l.known) (members_view l.key-iterator))
