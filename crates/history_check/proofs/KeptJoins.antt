-- No call but the join of a connection changes who joined it, or its challenge.
use Rattle.std.proofs.Common.{◌≡◌, ◌∙◌, refl, ap, sym, subst, ℕ, ◌+◌, Bool, true, false, ◌==◌, List, ◌∷◌, cond}
use Rattle.history_check.specs.declared.check.Joined.{Joined}
use Rattle.history_check.specs.Following.{FollowsHistory, IsJoined}
use Rattle.hub_core.specs.CoreState.{CoreState}
use Rattle.hub_core.specs.Moves.{StandsAt, entry}
use Rattle.hub_rules.specs.declared.history.Call.{Call}
use Rattle.hub_rules.specs.declared.history.Call.TheVariants.{Line, Quit, Take}
use Rattle.hub_rules.specs.declared.history.Entry.{Entry}
use Rattle.hub_rules.specs.declared.history.Reply.{Reply}
use Rattle.hub_rules.specs.Configured.{Configured}
use Rattle.hub_rules.specs.Facts.{Facts, after, effect_of_line, without_connection, facts, with_lines_taken}
use Rattle.hub_rules.specs.Effects.{departure}
use Rattle.hub_invariants.proofs.CallCases.{happens-parts}
use Rattle.hub_rules.specs.Shares.{ConnState}

-- who joined a connection, and with which challenge
pub record Alike (a b : ConnState) : Type 0 where
  pub owner : a.owner ≡ b.owner
  pub challenge : a.sender.challenge ≡ b.sender.challenge

taken-alike : (count : ℕ) (a : ConnState) (same : Bool) → Alike (cond same (with_lines_taken count a) a) a
taken-alike count a true = record { owner = refl; challenge = refl }
taken-alike count a false = record { owner = refl; challenge = refl }

-- the hub after a call that is no join
pub record Kept (after f : Facts) : Type 0 where
  pub joins : after.joins ≡ f.joins
  pub alike : (d : ℕ) → Alike (after.about d) (f.about d)

pub line-kept : (setup : Configured) (hash : List ℕ → List ℕ) (f : Facts) (caller c : ℕ) (bytes : List ℕ) (now : ℕ)
    → Kept (after setup hash f caller (Line c bytes now)) f
unfolding after
line-kept setup hash f caller c bytes now =
    subst (λ g. Kept g f) (sym (happens-parts c (effect_of_line setup hash f c bytes now) f)) (record { joins = refl; alike = λ d. record { owner = refl; challenge = refl } })

pub quit-kept : (setup : Configured) (hash : List ℕ → List ℕ) (f : Facts) (caller c : ℕ) → Kept (after setup hash f caller (Quit c)) f
unfolding after without_connection
quit-kept setup hash f caller c =
    subst (λ g. Kept (without_connection c g) f) (sym (happens-parts c (departure (f.about c).stage (f.about c).sender.sid) f))
    (record { joins = refl; alike = λ d. record { owner = refl; challenge = refl } })

pub take-kept : (setup : Configured) (hash : List ℕ → List ℕ) (f : Facts) (caller c count : ℕ) → Kept (after setup hash f caller (Take c count)) f
unfolding after
take-kept setup hash f caller c count = record { joins = refl; alike = λ d. taken-alike count (f.about d) (d == c) }

joined-kept : (before now : Facts) (c : ℕ) (j : Joined) → Kept now before → IsJoined before c j → IsJoined now c j
joined-kept before now c j kept is = record {
  number = is.number;
  owner = (kept.alike c).owner ∙ is.owner;
  challenge = (kept.alike c).challenge ∙ is.challenge;
}

pub facts-after : (setup : Configured) (hash : List ℕ → List ℕ) (h : List Entry) (caller : ℕ) (call : Call) (reply : Reply)
    → facts setup hash (entry caller call reply ∷ h) ≡ after setup hash (facts setup hash h) caller call
unfolding facts
facts-after setup hash h caller call reply = refl

-- whoever follows a history follows it on by such a call
pub follows-on : (setup : Configured) (hash : List ℕ → List ℕ) (h : List Entry) (old new : CoreState) (joined : List Joined) (caller : ℕ) (call : Call) (reply : Reply)
    → Kept (after setup hash (facts setup hash h) caller call) (facts setup hash h) → FollowsHistory setup hash h old joined
    → StandsAt setup hash (entry caller call reply ∷ h) new → FollowsHistory setup hash (entry caller call reply ∷ h) new joined
follows-on setup hash h old new joined caller call reply kept was stands =
    let same : facts setup hash (entry caller call reply ∷ h) ≡ after setup hash (facts setup hash h) caller call = facts-after setup hash h caller call reply in
    record {
      stands = stands;
      counted = was.counted ∙ sym kept.joins ∙ ap (λ (f : Facts). f.joins) (sym same);
      known = λ i j within is. subst (λ (f : Facts). IsJoined f (i + 1) j) (sym same) (joined-kept (facts setup hash h) (after setup hash (facts setup hash h) caller call) (i + 1) j kept (was.known i j within is));
    }
