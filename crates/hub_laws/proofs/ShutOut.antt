-- No call brings a connection back that was shut out.
use Rattle.std.proofs.Common.{◌≡◌, ap, refl, ℕ, ◌≤◌, Bool, true, ◌==◌, List, [], ◌∷◌, ◌++◌, arith}
use Rattle.hub_rules.specs.declared.effect.Banned.{Banned}
use Rattle.hub_laws.proofs.Words.{ConnState, Becomes, Call, Change, Configured, Effect, Entry, Facts, Hub, Line, Nothing, Sender, Stage, after, becomes, change_of, departure, effect_of_line, eqb-true}
use Rattle.hub_laws.proofs.Words.{facts, happens, is_over, is_removed, joins-grow, removed_by, stage_after, stage_next, ◌⊎◌}
use Rattle.hub_laws.proofs.Words.seats
use Rattle.hub_laws.proofs.Words.senders
use Rattle.hub_laws.proofs.Words.shared
use Rattle.hub_laws.proofs.Words.stages
use Rattle.hub_laws.specs.ShutOut.{KicksShutOut, OutIsForGood, WhoIsOutHearsNothing}
use Rattle.hub_laws.proofs.Lag.{share-beyond}
use Rattle.hub_laws.proofs.Routes.{silent-over}

-- ---- the stage after an effect

-- who is out stays out, where the change is not its own, or leaves it out
next-over : (removed is_caller : Bool) (change : Change) (stage : Stage) → stage ≡ stages.Gone → (is_caller ≡ true → stage_after change stages.Gone ≡ stages.Gone)
    → stage_next removed is_caller change stage ≡ stages.Gone
next-over removed is_caller change stage over keeps = grind arith

-- ---- every call

line-over : (setup : Configured) (hash : List ℕ → List ℕ) (f : Facts) (c d : ℕ) (bytes : List ℕ) (now : ℕ) → (f.about d).stage ≡ stages.Gone → (d == c) ≡ true
    → stage_after (effect_of_line setup hash f c bytes now).change stages.Gone ≡ stages.Gone
line-over setup hash f c d bytes now over is = grind (arith, eqb-true, silent-over)

module _ {setup : Configured} {hash : List ℕ → List ℕ} {f : Facts} {caller d : ℕ} where
  over-after : {call : Call} {a : ConnState} → Becomes setup hash f caller d call a → d ≤ f.joins → (f.about d).stage ≡ stages.Gone → a.stage ≡ stages.Gone
  over-after (Becomes.joins peer challenge now place is) old over = absurd (omega (arith, is, old))
  over-after (Becomes.says c bytes now) old over =
      next-over (removed_by (effect_of_line setup hash f c bytes now) (f.about d)) (d == c) (effect_of_line setup hash f c bytes now).change (f.about d).stage over
      (line-over setup hash f c d bytes now over)
  over-after (Becomes.quits c) old over =
      next-over (removed_by (departure (f.about c).stage (f.about c).sender.sid) (f.about d)) (d == c) (Sender senders.Falls) (f.about d).stage over (λ is. refl)
  over-after _ old over = over

-- ---- every history

record IsOut (f : Facts) (d : ℕ) : Type 0 where
  old : d ≤ f.joins
  over : (f.about d).stage ≡ stages.Gone

stays-out : (setup : Configured) (hash : List ℕ → List ℕ) (later h : List Entry) (d : ℕ) → IsOut (facts setup hash h) d → IsOut (facts setup hash (later ++ h)) d
unfolding facts
stays-out setup hash [] h d out = out
stays-out setup hash (e ∷ later) h d out =
    let f : Facts = facts setup hash (later ++ h) in
    let before = stays-out setup hash later h d out in
    record { old = omega (arith, before.old, joins-grow setup hash f e.caller e.call); over = over-after (becomes setup hash f e.caller d e.call) before.old before.over }

pub out_is_for_good : OutIsForGood
out_is_for_good setup hash later h d old over = (stays-out setup hash later h d (record { old = old; over = over })).over

pub who_is_out_hears_nothing : WhoIsOutHearsNothing
who_is_out_hears_nothing setup hash h d call over = share-beyond setup hash (facts setup hash h) d call (ap is_over over)

-- ---- kicks and bans

kicked : (c : ℕ) (effect : Effect) (f : Facts) (d : ℕ) → (f.about d).stage ≡ stages.Normal → is_removed effect.change (f.about d).sender.sid ≡ true
    → ((happens c effect f).about d).stage ≡ stages.Gone
unfolding happens
kicked c effect f d present is = grind arith

names : (change : Change) (sid : ℕ) (banned : Banned) → (change ≡ Hub (shared.At sid seats.Gone)) ⊎ ((change ≡ Hub (shared.Ban banned)) × (banned.sid ≡ sid)) → is_removed change sid ≡ true
names change sid banned named = grind arith

not-same : (sid : ℕ) (banned : Banned) → (Nothing ≡ Hub (shared.At sid seats.Gone)) ⊎ ((Nothing ≡ Hub (shared.Ban banned)) × (banned.sid ≡ sid)) → ⊥
not-same sid banned named = grind arith

call-kicks : (setup : Configured) (hash : List ℕ → List ℕ) (f : Facts) (caller : ℕ) (call : Call) (d : ℕ) (banned : Banned) → (f.about d).stage ≡ stages.Normal
    → (change_of setup hash f call ≡ Hub (shared.At (f.about d).sender.sid seats.Gone)) ⊎ ((change_of setup hash f call ≡ Hub (shared.Ban banned)) × (banned.sid ≡ (f.about d).sender.sid))
    → ((after setup hash f caller call).about d).stage ≡ stages.Gone
unfolding after
call-kicks setup hash f caller (Line c bytes now) d banned present is =
    kicked c (effect_of_line setup hash f c bytes now) f d present (names (effect_of_line setup hash f c bytes now).change (f.about d).sender.sid banned is)
call-kicks setup hash f caller _ d banned present is = absurd (not-same (f.about d).sender.sid banned is)

pub kicks_shut_out : KicksShutOut
unfolding facts
kicks_shut_out setup hash h e d banned present is = call-kicks setup hash (facts setup hash h) e.caller e.call d banned present is
