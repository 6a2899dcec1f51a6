-- In which order a user's fields stand (ADC 1.0, "INF").
use Rattle.std.specs.Prelude.{ℕ, ◌==◌, ◌&&◌, suc, List, [], ◌∷◌, drop, filter, length, slice_index_or, if◌then◌else◌}
use Rattle.std.specs.List.{flat_map, range_with_len}
use Rattle.inf_fields.specs.Field.{Field, has_name}
use Rattle.inf_fields.specs.Merging.{leave, settled_fields}

-- how many updates stand before the first one that names a name after the last one that emptied it
abbrev pub start : List ℕ → List (List Field) → ℕ
start name [] = 0
start name (u ∷ later) = if has_name name u && leave (u ∷ later) name then 0 else suc (start name later)

-- the fields that are there since the update behind so many others, in its order, with their last values
abbrev pub since : List (List Field) → ℕ → List Field
since updates i = settled_fields (drop i updates) (filter (λ f. start f.name updates == i) (slice_index_or updates i []))

-- the fields by the updates since which they are there
abbrev pub in_order : List (List Field) → List Field
in_order updates = flat_map (since updates) (range_with_len 0 (length updates))
