-- Which connections are open.
use Rattle.std.specs.Prelude.{◌≡◌, ℕ, ◌==◌, ◌&&◌, not, Bool, false, List}
use Rattle.std.specs.List.{list_any}
use Rattle.hub_rules.specs.declared.history.Call.{Call}
use Rattle.hub_rules.specs.declared.history.Call.TheVariants as calls
use Rattle.hub_rules.specs.declared.history.Entry.{Entry}
use Rattle.hub_rules.specs.declared.history.Reply.{Reply}
use Rattle.hub_rules.specs.declared.history.Reply.TheVariants as replies
use Rattle.hub_rules.specs.Configured.{Configured}
use Rattle.hub_rules.specs.History.{open_connections}
use Rattle.hub_rules.specs.Legal.{Legal}
use Rattle.hub_invariants.specs.Promises.{is_in}

abbrev pub joins_as : ℕ → Reply → Bool
joins_as c (replies.Joined n) = n == c
joins_as c reply = false

abbrev pub quits : ℕ → Call → Bool
quits c (calls.Quit d) = d == c
quits c call = false

-- an accepted join made the connection
abbrev pub has_joined : ℕ → List Entry → Bool
has_joined c h = list_any (λ (e : Entry). joins_as c e.reply) h

abbrev pub has_quit : ℕ → List Entry → Bool
has_quit c h = list_any (λ (e : Entry). quits c e.call) h

-- open are those that joined and did not quit
abbrev pub OpenAreThoseThatStayed : Type 0
OpenAreThoseThatStayed =
    (setup : Configured) (hash : List ℕ → List ℕ) (h : List Entry) → Legal setup hash h → (c : ℕ)
    → is_in c (open_connections setup hash h) ≡ (has_joined c h && not (has_quit c h))
