-- The endings of the program.
use Rattle.std.specs.Prelude.{ℕ, List, [], ◌∷◌, ◌++◌, codes}
use Rattle.hub_endings.specs.declared.ending.Ending.{Ending}
use Rattle.hub_endings.specs.declared.ending.Ending.TheVariants as endings

abbrev pub status_of : Ending → ℕ
status_of endings.Served = 0
status_of endings.Usage = 1
status_of endings.Tables = 2
status_of endings.Address = 3
status_of endings.Memory = 4
status_of endings.Transfer = 5

-- a message is one line
abbrev pub said_line : List ℕ → List ℕ
said_line text = text ++ 10 ∷ []

unfoldable pub message_of : Ending → List ℕ
message_of endings.Served = []
message_of endings.Usage = said_line (codes "adc_hub: usage: adc_hub stdin | adc_hub serve SETTINGS")
message_of endings.Tables = said_line (codes "adc_hub: tables")
message_of endings.Address = said_line (codes "adc_hub: address")
message_of endings.Memory = said_line (codes "adc_hub: memory")
message_of endings.Transfer = said_line (codes "adc_hub: input or output")
