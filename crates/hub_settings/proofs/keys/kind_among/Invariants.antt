use Rattle.std.proofs.Common.{◌≡◌, map, drop}
use Rattle.hub_settings.specs.Kinds.{key_seen, kind_among}
use Rattle.hub_settings.proofs.keys.kind_among.Given as goal

abbrev pub invariant-keys : goal.invariant-keys
invariant-keys l = kind_among (map key_seen l.keys) l.name ≡ kind_among (map key_seen (drop l.key-index l.keys)) l.name
