-- The lines of the users who are present, as they are kept for those who enter.
use Rattle.std.specs.Prelude.{◌≡◌, ℕ, List, [], ◌∷◌, length, map, take}
use Rattle.user_table.specs.Listed.{Listed}
use Rattle.hub_rules.specs.Accounts.{account_with}
use Rattle.hub_rules.specs.Configured.{Configured}
use Rattle.hub_rules.specs.Texts.{user_line}
use Rattle.hub_decisions.specs.declared.lines.PresentLine.{PresentLine}

-- the line by which others are told of a user
abbrev pub line_by : Configured → Listed → List ℕ
line_by setup user = user_line user.sid user.fields (account_with user.key setup.accounts)

abbrev pub kept_line : Configured → Listed → PresentLine
kept_line setup user = record { sid = user.sid; line = line_by setup user ∷ [] }

-- they are the lines of the first users, in order
abbrev pub AreFirst : Configured → List Listed → List PresentLine → Type 0
AreFirst setup users lines = lines ≡ map (kept_line setup) (take (length lines) users)
