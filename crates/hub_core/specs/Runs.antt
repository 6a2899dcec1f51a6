-- Calls that are made one after another on a new hub.
use Rattle.std.specs.Prelude.{◌≡◌, ◌⊎◌, ◌≤◌, ℕ, Bool, true, false, List, [], ◌∷◌, Option, Some, None}
use Rattle.hub_core.specs.CoreState.{CoreState}
use Rattle.hub_core.specs.Moves.{StandsAt, entry}
use Rattle.hub_core.specs.declared.calls.Answer.{Answer}
use Rattle.hub_core.specs.declared.calls.Answer.TheVariants as answers
use Rattle.hub_core.specs.declared.calls.Ask.{Ask}
use Rattle.hub_core.specs.declared.calls.Ask.TheVariants as asks
use Rattle.hub_core.specs.declared.calls.Asked.{Asked}
use Rattle.hub_rules.specs.declared.history.Call.{Call}
use Rattle.hub_rules.specs.declared.history.Call.TheVariants as calls
use Rattle.hub_rules.specs.declared.history.Entry.{Entry}
use Rattle.hub_rules.specs.declared.history.Reply.{Reply}
use Rattle.hub_rules.specs.declared.history.Reply.TheVariants as replies
use Rattle.hub_rules.specs.Configured.{Configured}
use Rattle.hub_rules.specs.Facts.{facts}
use Rattle.hub_rules.specs.Legal.{MayCall}
use Rattle.hub_rules.specs.Prepared.{prepared_line}

-- what is asked, as the history has it
abbrev pub call_of : Ask → Call
call_of (asks.Join peer challenge now) = calls.Join peer challenge now
call_of (asks.Line connection line now) = calls.Line connection line.now.bytes now
call_of (asks.Quit connection) = calls.Quit connection
call_of (asks.Take connection count) = calls.Take connection count

-- what is answered, as the history has it, where the call was made
abbrev pub reply_of : Answer → Option Reply
reply_of (answers.Joined connection) = Some (replies.Joined connection)
reply_of answers.Full = Some replies.Full
reply_of answers.JoinsSpent = Some replies.JoinsSpent
reply_of (answers.Said verdict) = Some (replies.Said verdict)
reply_of answers.Left = Some replies.Left
reply_of (answers.Took bytes taken) = Some (replies.Took bytes.items taken.lines taken.ended)
reply_of answers.Memory = None
reply_of answers.Skipped = None

abbrev pub is_skipped : Answer → Bool
is_skipped answers.Skipped = true
is_skipped answer = false

-- the history goes on by a call that was made
abbrev pub with_reply : ℕ → Ask → Option Reply → List Entry → List Entry
with_reply caller ask (Some reply) h = entry caller (call_of ask) reply ∷ h
with_reply caller ask None h = h

abbrev pub with_answer : ℕ → Ask → Answer → List Entry → List Entry
with_answer caller ask answer h = with_reply caller ask (reply_of answer) h

-- a line was made ready for its connection, and a take asks for some lines and not for too many
abbrev pub IsReady : Configured → (List ℕ → List ℕ) → List Entry → Ask → Type 0
IsReady setup hash h (asks.Join peer challenge now) = Unit {0}
IsReady setup hash h (asks.Line connection line now) = line.now ≡ prepared_line setup hash ((facts setup hash h).about connection).sender.challenge line.now.bytes
IsReady setup hash h (asks.Quit connection) = Unit {0}
IsReady setup hash h (asks.Take connection count) = (1 ≤ count) × (count ≤ 256)

-- it names a connection that is open there and that its caller joined
abbrev pub MayAsk : Configured → (List ℕ → List ℕ) → List Entry → ℕ → Ask → Type 0
MayAsk setup hash h caller ask = MayCall (facts setup hash h) caller (call_of ask) × IsReady setup hash h ask

-- whatever legal history the hub stood at: a call that may be made is made, and the hub stands at the history with it
abbrev pub Answers : ℕ → Ask → Answer → CoreState → CoreState → Type 0
Answers caller ask answer old new =
    (setup : Configured) (hash : List ℕ → List ℕ) (h : List Entry) → StandsAt setup hash h old → MayAsk setup hash h caller ask
    → (is_skipped answer ≡ false) × StandsAt setup hash (with_answer caller ask answer h) new

-- from a history on, call by call: each that may be made at its turn is made; after each that was made so, or skipped, which leaves
-- everything as it was, those behind it go on; at last the hub stands at the history of all that were made
unfoldable pub RunsTo : Configured → (List ℕ → List ℕ) → List Entry → List Asked → List Answer → CoreState → Type 0
RunsTo setup hash h [] [] core = StandsAt setup hash h core
RunsTo setup hash h [] (answer ∷ answers) core = ⊥
RunsTo setup hash h (asked ∷ calls) [] core = ⊥
RunsTo setup hash h (asked ∷ calls) (answer ∷ answers) core =
    (MayAsk setup hash h asked.caller asked.ask → is_skipped answer ≡ false)
    × (MayAsk setup hash h asked.caller asked.ask ⊎ (is_skipped answer ≡ true) → RunsTo setup hash (with_answer asked.caller asked.ask answer h) calls answers core)
