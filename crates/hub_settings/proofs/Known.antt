-- The keys that have a kind are those that are known.
use Rattle.std.proofs.Common.{◌≡◌, refl, ℕ, Bool, true, false, ◌||◌, List, [], ◌∷◌, Option, Some, is_some, if◌then◌else◌}
use Rattle.std.specs.Str.{bytes_eq}
use Rattle.hub_settings.specs.Kinds.{Key, SettingKind, kind_among, names}
use Rattle.hub_settings.specs.Unknown.{is_among}

here-or-later : (here later : Bool) (kind : SettingKind) (found : Option SettingKind) → later ≡ is_some found → (here || later) ≡ is_some (if here then Some kind else found)
here-or-later true later kind found same = refl
here-or-later false later kind found same = same

pub known : (keys : List Key) (name : List ℕ) → is_among (names keys) name ≡ is_some (kind_among keys name)
known [] name = refl
known (key ∷ keys) name = here-or-later (bytes_eq name key.name) (is_among (names keys) name) key.kind (kind_among keys name) (known keys name)
