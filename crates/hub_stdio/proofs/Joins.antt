-- The one caller joins an empty hub.
use Rattle.std.proofs.Common.{◌≡◌, ◌∙◌, sym, ap, refl, subst, ℕ, ◌≤◌, true, false, List, [], ◌∷◌, length, take, arith}
use Rattle.std.specs.Prelude.{not, nat_le, ◌&&◌, Err, cond}
use Rattle.std.specs.List.{concat}
use Rattle.std.specs.Io.KnownBytes.{Appends}
use Rattle.std.proofs.lemmas.Bool.Decides.{nat_tests}
use Rattle.std.proofs.lemmas.List.Elements.{All-cons, All-nil}
use Rattle.std.proofs.KnownBytes.{Appends-nil}
use Rattle.hub_core.specs.declared.refused.JoinRefused.TheVariants as refusals
use Rattle.hub_core.specs.CoreState.{CoreState}
use Rattle.hub_core.specs.Moves.{Moves, StandsAt, entry}
use Rattle.hub_core.specs.Promises.{JoinMoves}
use Rattle.hub_rules.specs.declared.history.Entry.{Entry}
use Rattle.hub_rules.specs.declared.history.Reply.{Reply}
use Rattle.hub_rules.specs.declared.history.Reply.TheVariants.{Joined, Full, JoinsSpent}
use Rattle.hub_rules.specs.Configured.{Configured}
use Rattle.hub_rules.specs.Facts.{Facts, after, facts, with_connection, start}
use Rattle.hub_rules.specs.Legal.{Legal, join_reply, reply}
use Rattle.hub_stdio.specs.Runs.{first, join, zeros}
use Rattle.hub_stdio.specs.Serving.{IsAlone, Starts, taken_in}

-- there is room where the hub admits one
has_room : (most : ℕ) → 1 ≤ most → nat_le most 0 ≡ false
has_room most h = grind (arith, nat_tests)

module _ (setup : Configured) (hash : List ℕ → List ℕ) (old new : CoreState) (empty : StandsAt setup hash [] old) (admits : 1 ≤ setup.plain.max_users) (answer : Reply) (moves : Moves old join answer new) where
  abbrev asking : Entry
  asking = entry first join answer

  stands_joined : StandsAt setup hash (asking ∷ []) new
  stands_joined = moves setup hash [] first empty tt

  answer_joined : answer ≡ Joined first
  unfolding Legal reply facts
  answer_joined = stands_joined.legal.2 ∙ ap (λ b. join_reply (not b) true 0) (has_room setup.plain.max_users admits)

  -- the hub with the connection alone on it
  abbrev with_first : Facts
  with_first = with_connection (start setup) first (127 ∷ 0 ∷ 0 ∷ 1 ∷ []) zeros

  facts_joined : facts setup hash (asking ∷ []) ≡ with_first
  unfolding facts after
  facts_joined = ap (λ b. cond (not b && true) with_first (start setup)) (has_room setup.plain.max_users admits)

  join_alone : IsAlone setup hash (asking ∷ []) new
  unfolding with_connection
  join_alone = record {
    stands = stands_joined;
    own = All-cons (λ (e : Entry). e.caller ≡ first) asking [] refl (All-nil (λ (e : Entry). e.caller ≡ first));
    opened = ap (λ (f : Facts). f.opened) facts_joined;
    owner = ap (λ (f : Facts). (f.about first).owner) facts_joined;
    challenge = ap (λ (f : Facts). (f.about first).sender.challenge) facts_joined;
  }

  join_taken : taken_in setup hash (asking ∷ []) ≡ []
  unfolding with_connection
  join_taken = ap (λ (f : Facts). concat (take (f.about first).taken (f.about first).owed)) facts_joined

  join_owed : ((facts setup hash (asking ∷ [])).about first).taken ≡ length ((facts setup hash (asking ∷ [])).about first).owed
  unfolding with_connection
  join_owed = ap (λ (f : Facts). (f.about first).taken) facts_joined ∙ sym (ap (λ (f : Facts). length (f.about first).owed) facts_joined)

  pub join_starts : Starts setup hash new
  join_starts held = (
    asking ∷ [],
    record { alone = join_alone; calls = refl; in_turn = (tt, tt); written = subst (λ (bytes : List ℕ). Appends held held bytes) (sym join_taken) (Appends-nil held) },
    join_owed,
  )

  pub join_first : (connection : ℕ) → answer ≡ Joined connection → connection ≡ first
  join_first connection e = let same : Joined connection ≡ Joined first = sym e ∙ answer_joined in cc

  not_full : answer ≡ Full → ⊥
  not_full e = let same : Full ≡ Joined first = sym e ∙ answer_joined in cc

  not_spent : answer ≡ JoinsSpent → ⊥
  not_spent e = let same : JoinsSpent ≡ Joined first = sym e ∙ answer_joined in cc

module _ (setup : Configured) (hash : List ℕ → List ℕ) (old new : CoreState) (empty : StandsAt setup hash [] old) (admits : 1 ≤ setup.plain.max_users) where
  pub join_not_full : JoinMoves (Err refusals.Full) old join new → ⊥
  join_not_full moves = not_full setup hash old new empty admits Full moves.0 refl

  pub join_not_spent : JoinMoves (Err refusals.JoinsSpent) old join new → ⊥
  join_not_spent moves = not_spent setup hash old new empty admits JoinsSpent moves.0 refl
