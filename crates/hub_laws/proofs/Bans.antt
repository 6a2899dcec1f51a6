-- After every history the bans are few, and on one client identifier each.
use Rattle.std.proofs.Common.{◌≡◌, sym, subst, ℕ, true, false, ◌&&◌, List, [], ◌∷◌, Option}
use Rattle.hub_laws.proofs.Words.{Act, Ban, Call, Change, Configured, Does, Effect, Entry, Facts, Hub, HubChange, Join, Line, Listed, Outcome, SenderView, PreparedLine, Quit, Reading, Request, HubView, Take}
use Rattle.hub_laws.proofs.Words.{acts, after, bans_after, bans_user, effect_of_line, facts, happens, has_joins, has_place, false≢true, is_full, is_silent, line-outcome, silent, without_connection}
use Rattle.hub_laws.proofs.Words.shared
use Rattle.hub_laws.specs.BanLimits.{BansAreApart, BansAreFew}
use Rattle.hub_laws.proofs.BanLimits.{AreHeld, held-none, held-with, held-without}
use Rattle.hub_laws.proofs.Worlds.{join-bans}

-- a ban is carried out only where there is room for it
abbrev HasRoom : List (List ℕ × Ban) → Change → Type 0
HasRoom bans (Hub (shared.Ban banned)) = is_full bans banned.cid ≡ false
HasRoom bans change = Unit {0}

room-silent : (bans : List (List ℕ × Ban)) (change : HubChange) → is_silent change ≡ true → HasRoom bans (Hub change)
room-silent bans (shared.Ban banned) is = absurd (false≢true is)
room-silent bans _ is = tt

room-act : {users : List Listed} {bans : List (List ℕ × Ban)} {operator : ℕ} {act : Act} {others : List (List ℕ)} {change : HubChange} → Does users bans operator act others change
    → HasRoom bans (Hub change)
room-act (bans_user nick reason target banned called same room) = room
room-act {bans = bans} (silent change is) = room-silent bans change is
room-act _ = tt

module _ {hub : HubView} {own : SenderView} {line : PreparedLine} {now : ℕ} where
  room : {said : Option Reading} {request : Request} {effect : Effect} → Outcome hub own line now said request effect → HasRoom hub.bans effect.change
  room (acts reading done at operator asks does) = room-act does
  room _ = tt

-- ---- every call

held-change : (change : Change) (bans : List (List ℕ × Ban)) → HasRoom bans change → AreHeld bans → AreHeld (bans_after change bans)
held-change (Hub (shared.Ban banned)) bans room held = held-with bans banned.cid banned.ban room held
held-change (Hub (shared.Unban cid)) bans room held = held-without bans cid held
held-change change bans room held = held

held-call : (setup : Configured) (hash : List ℕ → List ℕ) (f : Facts) (caller : ℕ) (call : Call) → AreHeld f.bans → AreHeld (after setup hash f caller call).bans
unfolding after happens without_connection
held-call setup hash f caller (Join peer challenge now) held = subst AreHeld (sym (join-bans f caller peer challenge (has_place setup f && has_joins f))) held
held-call setup hash f caller (Line c bytes now) held =
    held-change (effect_of_line setup hash f c bytes now).change f.bans
    (room (line-outcome setup hash f c bytes now)) held
held-call setup hash f caller (Quit c) held = held
held-call setup hash f caller (Take c count) held = held

-- ---- every history

held_of : (setup : Configured) (hash : List ℕ → List ℕ) (h : List Entry) → AreHeld (facts setup hash h).bans
unfolding facts
held_of setup hash [] = held-none
held_of setup hash (e ∷ h) = held-call setup hash (facts setup hash h) e.caller e.call (held_of setup hash h)

pub bans_are_few : BansAreFew
bans_are_few setup hash h = (held_of setup hash h).few

pub bans_are_apart : BansAreApart
bans_are_apart setup hash h = (held_of setup hash h).apart
