-- Two searches of a connection that went out are at least the interval apart, and a search is refused only within the interval of the last.
use Rattle.std.specs.Prelude.{◌≡◌, ℕ, ◌-◌, ◌≤◌, true, List, ◌∷◌, ◌++◌, Some, None, if◌then◌else◌}
use Rattle.adc_line.specs.Lines.{Reading}
use Rattle.hub_rules.specs.declared.history.Entry.{Entry}
use Rattle.hub_rules.specs.Configured.{Configured}
use Rattle.hub_rules.specs.Denied.{is_search_due}
use Rattle.hub_rules.specs.Facts.{facts}
use Rattle.hub_laws.specs.Messages.{IsToUsers, is_search_command}
use Rattle.hub_laws.specs.Refusals.{accepted}
use Rattle.hub_laws.specs.Searched.{last_search, search_in}

-- the entry e is a search of connection c that went out at this moment
abbrev pub GoesOutAt : Configured → (List ℕ → List ℕ) → List Entry → Entry → ℕ → ℕ → Type 0
GoesOutAt setup hash h e c moment = search_in setup hash (facts setup hash h) c e.call ≡ Some moment

-- from one to each later one the interval passes
abbrev pub SearchesAreApart : Type 0
SearchesAreApart =
    (setup : Configured) (hash : List ℕ → List ℕ) (between h : List Entry) (first second : Entry) (c moment later : ℕ) → GoesOutAt setup hash h first c moment
    → GoesOutAt setup hash (between ++ (first ∷ h)) second c later → setup.plain.search_interval ≤ later - moment

-- a search of a user who is present goes out where it is due after the last that did
abbrev pub SearchesAreAccepted : Type 0
SearchesAreAccepted =
    (setup : Configured) (hash : List ℕ → List ℕ) (h : List Entry) (c : ℕ) (bytes : List ℕ) (now : ℕ) (line : Reading) → IsToUsers setup hash h c bytes line
    → is_search_command line.command ≡ true
    → accepted setup hash h c bytes now ≡ (if is_search_due setup.plain (last_search setup hash h c) now then Some line else None)
