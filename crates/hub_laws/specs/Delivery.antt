-- Takes deliver the first lines that a connection was owed, byte for byte.
use Rattle.std.specs.Prelude.{◌≡◌, ℕ, ◌==◌, Bool, true, List, [], ◌∷◌, ◌++◌, take}
use Rattle.std.specs.List.{concat}
use Rattle.hub_rules.specs.declared.history.Call.{Call}
use Rattle.hub_rules.specs.declared.history.Call.TheVariants as calls
use Rattle.hub_rules.specs.declared.history.Entry.{Entry}
use Rattle.hub_rules.specs.declared.history.Reply.{Reply}
use Rattle.hub_rules.specs.declared.history.Reply.TheVariants as replies
use Rattle.hub_rules.specs.Configured.{Configured}
use Rattle.hub_rules.specs.History.{lines_owed, count_taken}
use Rattle.hub_rules.specs.Legal.{Legal}

-- the bytes in the reply to a take of this connection
abbrev pub bytes_of_take : Bool → Reply → List ℕ
bytes_of_take true (replies.Took bytes lines ended) = bytes
bytes_of_take same reply = []

abbrev pub bytes_taken : ℕ → Call → Reply → List ℕ
bytes_taken c (calls.Take d count) reply = bytes_of_take (d == c) reply
bytes_taken c call reply = []

-- the bytes of the replies to all takes of a connection, in order
unfoldable pub bytes_delivered : ℕ → List Entry → List ℕ
bytes_delivered c [] = []
bytes_delivered c (e ∷ h) = bytes_delivered c h ++ bytes_taken c e.call e.reply

-- they are those of the first lines that it was owed, of as many as it took
abbrev pub DeliveredAreTheFirst : Type 0
DeliveredAreTheFirst =
    (setup : Configured) (hash : List ℕ → List ℕ) (h : List Entry) → Legal setup hash h → (c : ℕ)
    → bytes_delivered c h ≡ concat (take (count_taken setup hash h c) (lines_owed setup hash h c))
