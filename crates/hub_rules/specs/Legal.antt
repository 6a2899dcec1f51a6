-- The reply to each call, and the histories that are legal.
use Rattle.std.specs.Prelude.{◌≡◌, ℕ, ◌+◌, ◌==◌, ◌&&◌, ◌||◌, nat_le, Bool, true, List, [], ◌∷◌, length, take, if◌then◌else◌}
use Rattle.std.specs.List.{concat, list_any}
use Rattle.login_state.specs.declared.stage.Stage.{Stage}
use Rattle.hub_rules.specs.declared.history.Call.{Call}
use Rattle.hub_rules.specs.declared.history.Call.TheVariants.{Join, Line, Quit, Take}
use Rattle.hub_rules.specs.declared.history.Entry.{Entry}
use Rattle.hub_rules.specs.declared.history.Reply.{Reply}
use Rattle.hub_rules.specs.declared.history.Reply.TheVariants.{Joined, Full, JoinsSpent, Said, Left, Took}
use Rattle.hub_rules.specs.declared.history.Verdict.{Verdict}
use Rattle.hub_rules.specs.declared.history.Verdict.TheVariants.{Kept, Ended}
use Rattle.hub_rules.specs.Configured.{Configured}
use Rattle.hub_rules.specs.Effects.{is_over}
use Rattle.hub_rules.specs.Facts.{Facts, facts, after, has_place, has_joins}
use Rattle.hub_rules.specs.Shares.{ConnState, waiting}

abbrev pub join_reply : Bool → Bool → ℕ → Reply
join_reply place counted joins = if place then (if counted then Joined (joins + 1) else JoinsSpent) else Full

-- what a connection at this stage is told after a line of its own
abbrev pub verdict_of : Stage → Verdict
verdict_of stage = if is_over stage then Ended else Kept

-- nothing is left after the take, and nothing more will come
abbrev pub has_ended : ℕ → ConnState → Bool
has_ended count a = nat_le (length (waiting a)) count && (is_over a.stage || a.lags)

abbrev pub take_reply : ℕ → ConnState → Reply
take_reply count a = Took (concat (take count (waiting a))) (length (take count (waiting a))) (has_ended count a)

-- what a call is answered
unfoldable pub reply : Configured → (List ℕ → List ℕ) → Facts → ℕ → Call → Reply
reply setup hash f caller (Join peer challenge now) = join_reply (has_place setup f) (has_joins f) f.joins
reply setup hash f caller (Line c bytes now) = Said (verdict_of ((after setup hash f caller (Line c bytes now)).about c).stage)
reply setup hash f caller (Quit c) = Left
reply setup hash f caller (Take c count) = take_reply count (f.about c)

-- a connection that joined and did not quit
abbrev pub is_open : ℕ → Facts → Bool
is_open c f = list_any (λ d. d == c) f.opened

-- a call may be made: it names a connection that is open, and that this caller joined
abbrev pub IsOpenFor : Facts → ℕ → ℕ → Type 0
IsOpenFor f caller c = (is_open c f ≡ true) × ((f.about c).owner ≡ caller)

abbrev pub MayCall : Facts → ℕ → Call → Type 0
MayCall f caller (Join peer challenge now) = Unit {0}
MayCall f caller (Line c bytes now) = IsOpenFor f caller c
MayCall f caller (Quit c) = IsOpenFor f caller c
MayCall f caller (Take c count) = IsOpenFor f caller c

-- each entry is a call that may be made, with the answer that the entries before it give
unfoldable pub Legal : Configured → (List ℕ → List ℕ) → List Entry → Type 0
Legal setup hash [] = Unit {0}
Legal setup hash (e ∷ h) =
    Legal setup hash h × MayCall (facts setup hash h) e.caller e.call × (e.reply ≡ reply setup hash (facts setup hash h) e.caller e.call)
