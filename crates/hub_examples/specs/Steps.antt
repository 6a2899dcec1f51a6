-- The words of worked conversations: each step is an entry more, and each connection is its own caller.
use Rattle.std.specs.Prelude.{ℕ, Bool, List, ◌∷◌, length}
use Rattle.std.specs.List.{concat}
use Rattle.hub_rules.specs.declared.history.Call.TheVariants.{Join, Line, Quit, Take}
use Rattle.hub_rules.specs.declared.history.Entry.{Entry}
use Rattle.hub_rules.specs.declared.history.Reply.TheVariants.{Joined, Left, Said, Took}
use Rattle.hub_rules.specs.declared.history.Verdict.{Verdict}
use Rattle.hub_examples.specs.Conversations.{peer, zeros}

-- connection c joins, with a challenge of zeros
abbrev pub joins : ℕ → ℕ → List Entry → List Entry
joins c now h = record { caller = c; call = Join peer zeros now; reply = Joined c } ∷ h

-- connection c sends a line
abbrev pub says : ℕ → List ℕ → ℕ → Verdict → List Entry → List Entry
says c text now verdict h = record { caller = c; call = Line c text now; reply = Said verdict } ∷ h

-- connection c leaves
abbrev pub quits : ℕ → List Entry → List Entry
quits c h = record { caller = c; call = Quit c; reply = Left } ∷ h

-- connection c asks for at most so many lines, and is given these, and told whether no more will ever come
abbrev pub takes : ℕ → ℕ → List (List ℕ) → Bool → List Entry → List Entry
takes c count lines ended h = record { caller = c; call = Take c count; reply = Took (concat lines) (length lines) ended } ∷ h
