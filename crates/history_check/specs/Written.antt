-- A written history, as the rules have it.
use Rattle.std.specs.Prelude.{List, [], ◌∷◌, map}
use Rattle.history_check.specs.declared.written.WrittenCall as written_call
use Rattle.history_check.specs.declared.written.WrittenCall.TheVariants as calls
use Rattle.history_check.specs.declared.written.WrittenReply as written_reply
use Rattle.history_check.specs.declared.written.WrittenReply.TheVariants as replies
use Rattle.history_check.specs.declared.written.WrittenEntry as written
use Rattle.hub_rules.specs.declared.history.Call.{Call}
use Rattle.hub_rules.specs.declared.history.Call.TheVariants.{Join, Line, Quit, Take}
use Rattle.hub_rules.specs.declared.history.Entry.{Entry}
use Rattle.hub_rules.specs.declared.history.Reply.{Reply}
use Rattle.hub_rules.specs.declared.history.Reply.TheVariants.{Joined, Full, JoinsSpent, Said, Left, Took}

abbrev pub call_of : written_call.WrittenCall → Call
call_of (calls.Join peer challenge now) = Join peer challenge now
call_of (calls.Line connection bytes now) = Line connection bytes.items now
call_of (calls.Quit connection) = Quit connection
call_of (calls.Take connection count) = Take connection count

abbrev pub reply_of : written_reply.WrittenReply → Reply
reply_of (replies.Joined connection) = Joined connection
reply_of replies.Full = Full
reply_of replies.JoinsSpent = JoinsSpent
reply_of (replies.Said verdict) = Said verdict
reply_of replies.Left = Left
reply_of (replies.Took bytes lines ended) = Took bytes.items lines ended

abbrev pub entry_of : written.WrittenEntry → Entry
entry_of e = record { caller = e.caller; call = call_of e.call; reply = reply_of e.reply }

-- the entries, oldest first
abbrev pub entries_of : List written.WrittenEntry → List Entry
entries_of es = map entry_of es

-- the history, newest first, that entries make which are written one after another behind another history
unfoldable pub history_of : List written.WrittenEntry → List Entry → List Entry
history_of [] h = h
history_of (e ∷ es) h = history_of es (entry_of e ∷ h)
