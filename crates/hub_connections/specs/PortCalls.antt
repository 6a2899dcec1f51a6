-- The calls of the hub that the calls of a session on its port are.
use Rattle.std.specs.Prelude.{◌≡◌, ◌⊎◌, ℕ, List}
use Rattle.adc_sessions.specs.Events.{PortCall, handed, took, refused}
use Rattle.hub_rules.specs.Configured.{Configured}
use Rattle.hub_rules.specs.declared.history.Call.TheVariants.{Line, Take, Quit}
use Rattle.hub_rules.specs.declared.history.Reply.TheVariants.{Said, Took, Left}
use Rattle.hub_shared.specs.Callers.{PassState, VisitorState}
use Rattle.hub_shared.specs.Calls.{Made, Saw}

-- the hub: its setup, and what its hash means
module _ {H : Type 0} (setup : Configured) (hash : List ℕ → List ℕ) where
  -- the pass of the same connection, whose caller may have made and seen more, and may have concerned others
  abbrev pub IsSamePass : PassState H → PassState H → Type 0
  IsSamePass a b = b ≡ record a { caller = b.caller; touched = b.touched }

  -- A line that is handed over is one call of the hub with exactly that line, at a moment that was told, and what is said of it is the hub's
  -- answer. A take is one take of the hub of as many lines, and gives exactly the bytes that the hub answered. Where a call is refused, the hub
  -- has answered no call.
  abbrev pub Calls : (ℕ → Type 0) → PassState H → PortCall → PassState H → Type 0
  Calls may_read a (handed line verdict) b = IsSamePass a b × ((now : ℕ) × ∥ may_read now ∥₁ × Made setup hash a.caller (Line a.connection line now) (Said verdict) b.caller)
  Calls may_read a (took count bytes taken) b = IsSamePass a b × Made setup hash a.caller (Take a.connection count) (Took bytes taken.lines taken.ended) b.caller
  Calls may_read a refused b = IsSamePass a b × ((b.caller ≡ a.caller) ⊎ Saw setup hash a.caller b.caller)

  -- to leave is to quit the hub
  abbrev pub Leaves : PassState H → VisitorState H → Type 0
  Leaves a visitor = (visitor.home ≡ a.home) × Made setup hash a.caller (Quit a.connection) Left visitor.caller
