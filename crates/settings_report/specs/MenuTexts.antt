-- The texts of menu entries.
use Rattle.std.specs.Prelude.{◌≡◌, ◌↔◌, ℕ, Bool, true, false, IsTrue, IsFalse, List, ◌∷◌, ◌++◌, codes, Result, Ok, Err}
use Rattle.adc_line.specs.Lines.{Reading}
use Rattle.adc_line.specs.declared.fault.LineFault.{LineFault}
use Rattle.adc_line.specs.declared.header.Kind.{Kind}
use Rattle.adc_line.specs.declared.header.Kind.TheVariants as kinds
use Rattle.settings_report.specs.Places.{EndsWithLineFeed}
use Rattle.settings_report.specs.declared.menu_texts.TextFlaw.{TextFlaw}
use Rattle.settings_report.specs.declared.menu_texts.TextFlaw.TheVariants as flaws

-- a carriage return stands before a line feed
abbrev pub HasCarriageReturn : List ℕ → Type 0
HasCarriageReturn text = (before : List ℕ) × (behind : List ℕ) × (text ≡ before ++ 13 ∷ 10 ∷ behind)

-- whether the text has this flaw; of its messages nothing is told
abbrev pub TellsFlaw : TextFlaw → List ℕ → Bool → Type 0
TellsFlaw flaws.Unended text told = IsFalse told ↔ EndsWithLineFeed text
TellsFlaw flaws.CarriageReturn text told = IsTrue told ↔ HasCarriageReturn text
TellsFlaw flaws.NoMessage text told = Unit {0}

-- a client sends messages of these types to a hub: B, D, E, F and H
abbrev pub goes_to_hub : Kind → Bool
goes_to_hub kinds.Broadcast = true
goes_to_hub kinds.Direct = true
goes_to_hub kinds.Echo = true
goes_to_hub kinds.Feature = true
goes_to_hub kinds.Hub = true
goes_to_hub kinds.Client = false
goes_to_hub kinds.Info = false
goes_to_hub kinds.Udp = false

-- a client sends this message to a hub
abbrev pub is_sent : Result Reading LineFault → Bool
is_sent (Ok line) = goes_to_hub line.kind
is_sent (Err fault) = false

-- a flaw in words
abbrev pub flaw_words : TextFlaw → List ℕ
flaw_words flaws.Unended = codes "it does not end with \\n, so it swallows what the client sends next"
flaw_words flaws.CarriageReturn = codes "it has \\r\\n, and \\r becomes part of the message"
flaw_words flaws.NoMessage = codes "it is no message that a client can send to a hub"
