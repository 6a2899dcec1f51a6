-- The answer of a reader: a value, as contracts see it, or the key that is at fault.
use Rattle.std.specs.Prelude.{◌≡◌, ℕ, List, Result, Ok, Err}
use Rattle.std.specs.Borrow.{Bor}
use Rattle.hub_settings.specs.declared.fault.SettingRefusal.{SettingRefusal}
use Rattle.hub_settings.specs.declared.fault.SettingRefusal.TheVariants.{Memory, Key}

abbrev pub ReadsText : {X Y : Type 0} → (X → Y) → Result X (Bor (List ℕ)) → Result Y (List ℕ) → Type 0
ReadsText view (Ok x) wanted = wanted ≡ Ok (view x)
ReadsText view (Err key) wanted = wanted ≡ Err key.now

-- the same, where want of memory says nothing
abbrev pub ReadsUnlessMemory : {X : Type 0} → Result X SettingRefusal → Result X (List ℕ) → Type 0
ReadsUnlessMemory (Ok x) wanted = wanted ≡ Ok x
ReadsUnlessMemory (Err Memory) wanted = Unit {0}
ReadsUnlessMemory (Err (Key key)) wanted = wanted ≡ Err key.now
