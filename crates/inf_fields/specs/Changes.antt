-- Fields changed by one field at a time.
use Rattle.std.specs.Prelude.{ℕ, List, [], ◌∷◌, if◌then◌else◌}
use Rattle.inf_fields.specs.Field.{Field, field, is_called}

-- fields without the first of a name
abbrev pub without_first : List ℕ → List Field → List Field
without_first name [] = []
without_first name (x ∷ xs) = if is_called name x then xs else x ∷ without_first name xs

-- fields with a value under a name: in place of the first, or else behind them
abbrev pub put : Field → List Field → List Field
put f [] = f ∷ []
put f (x ∷ xs) = if is_called f.name x then field x.name f.value ∷ xs else x ∷ put f xs

-- an empty value removes, and another one is put
abbrev pub changed_to : List ℕ → Field → List Field → List Field
changed_to [] f xs = without_first f.name xs
changed_to (b ∷ more) f xs = put f xs

abbrev pub changed_fields : Field → List Field → List Field
changed_fields f xs = changed_to f.value f xs

abbrev pub all_changed : List Field → List Field → List Field
all_changed [] xs = xs
all_changed (f ∷ more) xs = all_changed more (changed_fields f xs)
