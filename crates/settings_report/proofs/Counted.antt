-- A list has as many entries as are seen of it.
use Rattle.std.proofs.Common.{◌≡◌, refl, ap, suc, List, [], ◌∷◌, length}
use Rattle.toml.specs.View.{items_view}
use Rattle.toml.specs.declared.value.Value.{Value}
use Rattle.settings_report.specs.Reports.{items_len}

pub items_len_view : (items : List Value) → items_len (items_view items) ≡ length items
items_len_view [] = refl
items_len_view (item ∷ items) = ap suc (items_len_view items)
