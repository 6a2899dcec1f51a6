-- The answer to a client that asks about the hub, to the byte.
use Rattle.std.specs.Prelude.{◌≡◌, ℕ, List, [], ◌∷◌, codes}
use Rattle.hub_rules.specs.declared.history.Entry.{Entry}
use Rattle.hub_rules.specs.declared.history.Verdict.TheVariants.{Kept}
use Rattle.hub_rules.specs.History.{lines_owed}
use Rattle.hub_rules.specs.Legal.{Legal}
use Rattle.hub_rules.specs.Texts.{with_line_feed}
use Rattle.hub_examples.specs.Conversations.{plain, zeros}
use Rattle.hub_examples.specs.Messages.{ana_entered}
use Rattle.hub_examples.specs.Steps.{joins, says}

-- ana is present, who shares 10 bytes in 2 files, and 90 seconds after the hub opened a client asks
abbrev pub hub_asked : List Entry
hub_asked = says 2 (codes "HSUP ADBASE ADTIGR ADPING") 90 Kept (joins 2 90 ana_entered)

-- it is told how many users are present and what they share, how many may come, and how long the hub is open
abbrev pub PingTellsOfTheHub : Type 0
PingTellsOfTheHub =
    (hash : List ℕ → List ℕ) → hash zeros ≡ zeros
    → Legal plain hash hub_asked
    × (lines_owed plain hash hub_asked 2 ≡ with_line_feed (codes "ISUP ADBASE ADTIGR ADPING ADUCMD") ∷ with_line_feed (codes "ISID AAAC")
    ∷ with_line_feed (codes "IINF CT32 NIHub VEadc-hub\\s1.0 UC1 SS10 SF2 MC512 UP90") ∷ [])
