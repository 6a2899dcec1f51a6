-- What reading a written history returns.
use Rattle.std.specs.Prelude.{◌≡◌, ℕ, List, map}
use Rattle.history_check.specs.declared.reading.ReadFault.{ReadFault}
use Rattle.history_check.specs.declared.reading.ReadFault.TheVariants as faults
use Rattle.history_check.specs.declared.reading.Written.{Written}
use Rattle.history_check.specs.Text.{IsFirstFault, IsHistory, entry_lines}
use Rattle.history_check.specs.Written.{entries_of}

-- the number of each line that has an entry
abbrev pub line_numbers : List ℕ → List ℕ
line_numbers text = map (λ numbered. numbered.0) (entry_lines text)

-- the text writes just these entries, on lines of these numbers
abbrev pub IsReadAs : List ℕ → Written → Type 0
IsReadAs text written = IsHistory text (entries_of written.entries.items) × (written.lines.items ≡ line_numbers text)

abbrev pub IsReadFault : List ℕ → ReadFault → Type 0
IsReadFault text (faults.Line number) = IsFirstFault text number
IsReadFault text faults.Memory = Unit {0}
