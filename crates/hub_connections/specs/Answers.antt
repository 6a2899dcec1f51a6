-- The calls of the hub that the calls of a session's port are.
use Rattle.std.specs.Prelude.{◌≡◌, ℕ, List, [], ◌∷◌}
use Rattle.adc_sessions.specs.Events.{PortCall, handed, took, refused}
use Rattle.hub_core.specs.Moves.{entry}
use Rattle.hub_rules.specs.declared.history.Call.TheVariants.{Line, Take}
use Rattle.hub_rules.specs.declared.history.Entry.{Entry}
use Rattle.hub_rules.specs.declared.history.Reply.TheVariants.{Said, Took}

-- These calls of a port, oldest first, are these calls of the hub for the connection of this caller. A line that is handed over is a call with
-- that line, at a moment that the clock told; a take is a take of as many lines, and gives the bytes that the hub answered; where a call is
-- refused, the hub has answered none.
abbrev pub AreAnswered : (ℕ → Type 0) → ℕ → ℕ → List PortCall → List Entry → Type 0
AreAnswered may_read caller connection [] entries = entries ≡ []
AreAnswered may_read caller connection (handed line verdict ∷ calls) entries =
    (now : ℕ) × (later : List Entry) × ∥ may_read now ∥₁ × (entries ≡ entry caller (Line connection line now) (Said verdict) ∷ later) × AreAnswered may_read caller connection calls later
AreAnswered may_read caller connection (took count bytes taken ∷ calls) entries =
    (later : List Entry) × (entries ≡ entry caller (Take connection count) (Took bytes taken.lines taken.ended) ∷ later) × AreAnswered may_read caller connection calls later
AreAnswered may_read caller connection (refused ∷ calls) entries = AreAnswered may_read caller connection calls entries
