-- When a written history is legal, and what is said of one that is not.
use Rattle.std.specs.Prelude.{◌≡◌, ◌<◌, ℕ, List, [], get_or, length, take}
use Rattle.history_check.specs.declared.check.Demand.{Demand}
use Rattle.history_check.specs.declared.check.Demand.TheVariants.{NoCall, Gives}
use Rattle.history_check.specs.declared.check.Judgement.{Judgement}
use Rattle.history_check.specs.declared.check.Judgement.TheVariants.{Legal, Fault}
use Rattle.history_check.specs.declared.written.WrittenEntry as written
use Rattle.history_check.specs.Written.{call_of, history_of, reply_of}
use Rattle.hub_rules.specs.declared.history.Entry.{Entry}
use Rattle.hub_rules.specs.Configured.{Configured}
use Rattle.hub_rules.specs.Facts.{facts}
use Rattle.hub_rules.specs.Legal as rules

-- what the rules say where a legal history goes on by an entry that is not: its call may not be made there, or is to be
-- answered otherwise
abbrev pub Demands : Configured → (List ℕ → List ℕ) → List Entry → written.WrittenEntry → Demand → Type 0
Demands setup hash h e NoCall = rules.MayCall (facts setup hash h) e.caller (call_of e.call) → ⊥
Demands setup hash h e (Gives reply) =
    rules.MayCall (facts setup hash h) e.caller (call_of e.call)
    × (reply_of reply ≡ rules.reply setup hash (facts setup hash h) e.caller (call_of e.call))
    × (reply_of e.reply ≡ reply_of reply → ⊥)

-- the entry at this place is the first that is not legal
abbrev pub IsFaultAt : Configured → (List ℕ → List ℕ) → List written.WrittenEntry → ℕ → Demand → Type 0
IsFaultAt setup hash entries place demand =
    (place < length entries)
    × rules.Legal setup hash (history_of (take place entries) [])
    × ((e : written.WrittenEntry) → e ≡ get_or entries place e → Demands setup hash (history_of (take place entries) []) e demand)

abbrev pub IsJudged : Configured → (List ℕ → List ℕ) → List written.WrittenEntry → Judgement → Type 0
IsJudged setup hash entries Legal = rules.Legal setup hash (history_of entries [])
IsJudged setup hash entries (Fault place demand) = IsFaultAt setup hash entries place demand
