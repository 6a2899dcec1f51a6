-- No call changes what a connection joined with.
use Rattle.std.proofs.Common.{◌≡◌, ◌∙◌, sym, ap, ap₂, refl, ℕ, ◌+◌, ◌≤◌, Bool, true, false, ◌&&◌, List, [], ◌∷◌, ◌++◌, arith, cond}
use Rattle.hub_rules.specs.declared.history.Reply.TheVariants.{Joined}
use Rattle.hub_laws.proofs.Words.{ConnState, Becomes, Call, Configured, Entry, Facts, Join, Legal, after, becomes, facts, happens, has_joins, has_place, join_reply, joins-grow, reply, with_connection}
use Rattle.hub_laws.proofs.Words.{without_connection}
use Rattle.hub_laws.specs.Joins.{IsAsJoined, JoinsAreCounted, JoinsStay, joins_accepted, accepted_in}

-- a connection has what it joined with
pub record IsSame (a b : ConnState) : Type 0 where
  pub owner : b.owner ≡ a.owner
  pub peer : b.sender.peer ≡ a.sender.peer
  pub challenge : b.sender.challenge ≡ a.sender.challenge
  pub sid : b.sender.sid ≡ a.sender.sid

-- ---- one call

module _ {setup : Configured} {hash : List ℕ → List ℕ} {f : Facts} {caller d : ℕ} where
  same-after : {call : Call} {a : ConnState} → Becomes setup hash f caller d call a → d ≤ f.joins → IsSame (f.about d) a
  same-after (Becomes.joins peer challenge now place is) old = absurd (omega (arith, is, old))
  same-after _ old = record { owner = refl; peer = refl; challenge = refl; sid = refl }

-- ---- the join

-- the connection that joined, and how it stands then
record HasJoined (before now : Facts) (caller : ℕ) (call : Call) (c : ℕ) : Type 0 where
  old : c ≤ now.joins
  joined_as : IsAsJoined before (now.about c) caller call

newest : (f : Facts) (owner : ℕ) (peer challenge : List ℕ) (now c : ℕ) → c ≡ f.joins + 1 → HasJoined f (with_connection f owner peer challenge) owner (Join peer challenge now) c
unfolding with_connection
newest f owner peer challenge now c is = grind arith

join-made : (f : Facts) (owner : ℕ) (peer challenge : List ℕ) (now c : ℕ) (place counted : Bool) → join_reply place counted f.joins ≡ Joined c
    → HasJoined f (cond (place && counted) (with_connection f owner peer challenge) f) owner (Join peer challenge now) c
join-made f owner peer challenge now c true true is = let e : c ≡ f.joins + 1 = cc is in newest f owner peer challenge now c e
join-made f owner peer challenge now c true false is = let none : ⊥ = cc is in absurd none
join-made f owner peer challenge now c false counted is = let none : ⊥ = cc is in absurd none

call-made : (setup : Configured) (hash : List ℕ → List ℕ) (f : Facts) (caller : ℕ) (call : Call) (c : ℕ) → reply setup hash f caller call ≡ Joined c
    → HasJoined f (after setup hash f caller call) caller call c
unfolding reply after
call-made setup hash f caller (Join peer challenge now) c is = join-made f caller peer challenge now c (has_place setup f) (has_joins f) is
call-made setup hash f caller _ c is = let none : ⊥ = cc is in absurd none

-- ---- every history

as-kept : (before : Facts) (a b : ConnState) (caller : ℕ) (call : Call) → IsSame a b → IsAsJoined before a caller call → IsAsJoined before b caller call
as-kept before a b caller call same is = grind arith

stays : (setup : Configured) (hash : List ℕ → List ℕ) (later earlier : List Entry) (e : Entry) (c : ℕ) → Legal setup hash (later ++ e ∷ earlier)
    → e.reply ≡ Joined c → HasJoined (facts setup hash earlier) (facts setup hash (later ++ e ∷ earlier)) e.caller e.call c
unfolding facts Legal
stays setup hash [] earlier e c legal is = call-made setup hash (facts setup hash earlier) e.caller e.call c (sym legal.2 ∙ is)
stays setup hash (next ∷ later) earlier e c legal is =
    let f : Facts = facts setup hash (later ++ e ∷ earlier) in
    let before = stays setup hash later earlier e c legal.0 is in
    record {
      old = omega (arith, before.old, joins-grow setup hash f next.caller next.call);
      joined_as = as-kept (facts setup hash earlier) (f.about c) _ e.caller e.call (same-after (becomes setup hash f next.caller c next.call) before.old) before.joined_as;
    }

pub joins_stay : JoinsStay
joins_stay setup hash later earlier e c legal is = (stays setup hash later earlier e c legal is).joined_as

join-counts : (f : Facts) (owner : ℕ) (peer challenge : List ℕ) (place counted : Bool)
    → (cond (place && counted) (with_connection f owner peer challenge) f).joins ≡ f.joins + joins_accepted (join_reply place counted f.joins)
unfolding with_connection
join-counts f owner peer challenge place counted = grind arith

after-counts : (setup : Configured) (hash : List ℕ → List ℕ) (f : Facts) (caller : ℕ) (call : Call)
    → (after setup hash f caller call).joins ≡ f.joins + joins_accepted (reply setup hash f caller call)
unfolding after without_connection happens reply
after-counts setup hash f caller call = grind (arith, join-counts)

pub joins_are_counted : JoinsAreCounted
unfolding facts Legal accepted_in
joins_are_counted setup hash [] legal = refl
joins_are_counted setup hash (e ∷ h) legal =
    after-counts setup hash (facts setup hash h) e.caller e.call
    ∙ ap₂ ◌+◌ (joins_are_counted setup hash h legal.0) (ap joins_accepted (sym legal.2))
