-- The state of a hub as worked conversations carry it on: the connections that joined are a list.
use Rattle.std.proofs.Common.{◌≡◌, ◌∙◌, ap, refl, sym, ℕ, ◌≤◌, ◌+◌, suc, Bool, true, false, ◌&&◌, List, [], ◌∷◌, ◌++◌, length, arith, Option, Some, None}
use Rattle.std.specs.Prelude.{◌==◌, nat_le, cond}
use Rattle.std.proofs.lemmas.Bool.Decides.{nat_tests}
use Rattle.operator_acts.specs.declared.ban.Ban.{Ban}
use Rattle.hub_rules.specs.declared.effect.Effect.{Effect}
use Rattle.hub_rules.specs.Facts.{Facts, bans_after, with_lines_taken, happens, with_connection, newcomer, next_sid, nobody, present_after, topic_after, with_one}
use Rattle.hub_rules.specs.declared.sender.SeatChange.{SeatChange}
use Rattle.hub_rules.specs.Shares.{ConnState, affected_connection, change_at, changed_by_operator, lags_with, owed_with, owes}

pub record Known : Type 0 where
  pub last : ℕ
  pub opened : List ℕ
  pub present : List ℕ
  pub bans : List (List ℕ × Ban)
  pub topic : List ℕ
  -- of each connection that joined, the last one first
  pub abouts : List ConnState

abbrev pub about_in : List ConnState → ℕ → ConnState
about_in [] d = nobody
about_in (a ∷ rest) d = cond (d == length rest + 1) a (about_in rest d)

abbrev pub facts_of : Known → Facts
facts_of k = record {
  joins = length k.abouts;
  last = k.last;
  opened = k.opened;
  present = k.present;
  bans = k.bans;
  topic = k.topic;
  about = about_in k.abouts;
}

-- ---- a change of connections, by whether each is the one that calls

abbrev pub changed_at : (Bool → ConnState → ConnState) → ℕ → List ConnState → List ConnState
changed_at change c [] = []
changed_at change c (a ∷ rest) = change (length rest + 1 == c) a ∷ changed_at change c rest

changed-length : (change : Bool → ConnState → ConnState) (c : ℕ) (rest : List ConnState) → length (changed_at change c rest) ≡ length rest
changed-length change c [] = refl
changed-length change c (a ∷ rest) = ap suc (changed-length change c rest)

pub same-number : (c d : ℕ) → (d == c) ≡ true → d ≡ c
same-number c d is = grind arith

-- the connection that calls, where it is this one, is among those that joined
abbrev IsAmong : ℕ → ℕ → List ConnState → Type 0
IsAmong c d rest = (d == c) ≡ true → (1 ≤ c) × (c ≤ length rest)

nobody-calls : (c d : ℕ) (called : Bool) → (d == c) ≡ called → IsAmong c d [] → called ≡ false
nobody-calls c d called is among = grind arith

smaller : (n c d : ℕ) → (d == n + 1) ≡ false → d ≡ c → c ≤ suc n → c ≤ n
smaller n c d other is most = grind arith

among-rest : (c d : ℕ) (a : ConnState) (rest : List ConnState) → IsAmong c d (a ∷ rest) → (d == length rest + 1) ≡ false → IsAmong c d rest
among-rest c d a rest among other is = ((among is).0, smaller (length rest) c d other (same-number c d is) (among is).1)

changed-next : (change : Bool → ConnState → ConnState) (c d n m : ℕ) (a before now : ConnState) → m ≡ n → ((d == n + 1) ≡ false → change (d == c) before ≡ now)
    → change (d == c) (cond (d == n + 1) a before) ≡ cond (d == m + 1) (change (n + 1 == c) a) now
changed-next change c d n m a before now same rest = grind (arith, nat_tests)

changed-at : (change : Bool → ConnState → ConnState) (c : ℕ) → change false nobody ≡ nobody → (rest : List ConnState) (d : ℕ) → IsAmong c d rest
    → change (d == c) (about_in rest d) ≡ about_in (changed_at change c rest) d
changed-at change c none [] d among = ap (λ b. change b nobody) (nobody-calls c d (d == c) refl among) ∙ none
changed-at change c none (a ∷ rest) d among =
    changed-next change c d (length rest) (length (changed_at change c rest)) a (about_in rest d) (about_in (changed_at change c rest) d) (changed-length change c rest)
    (λ other. changed-at change c none rest d (among-rest c d a rest among other))

-- ---- what calls make of what is known

abbrev pub with_effect : ℕ → Effect → Known → Known
with_effect c effect k = record k {
  present = present_after c effect (about_in k.abouts) k.present;
  bans = bans_after effect.change k.bans;
  topic = topic_after effect.change k.topic;
  abouts = changed_at (λ is_caller a. affected_connection is_caller effect a) c k.abouts;
}

-- the connection joined
abbrev pub is_known : ℕ → Known → Bool
is_known c k = nat_le 1 c && nat_le c (length k.abouts)

and-both : (a b : Bool) → (a && b) ≡ true → (a ≡ true) × (b ≡ true)
and-both a b is = grind arith

known-among : (c d : ℕ) (k : Known) → is_known c k ≡ true → IsAmong c d k.abouts
known-among c d k known is =
    let both = and-both (nat_le 1 c) (nat_le c (length k.abouts)) known in (grind (arith, nat_tests, both.0), grind (arith, nat_tests, both.1))

nobody-changed : (at : Option (ℕ × SeatChange)) → changed_by_operator at nobody ≡ nobody
nobody-changed (Some (sid, change)) = refl
nobody-changed None = refl

nobody-affected : (effect : Effect) → affected_connection false effect nobody ≡ nobody
unfolding owed_with lags_with
nobody-affected effect =
    ap (λ (a : ConnState). record a { owed = owed_with nobody (owes false effect nobody); lags = lags_with nobody (owes false effect nobody) }) (nobody-changed (change_at effect.change))

pub happens-known : (c : ℕ) (effect : Effect) (k : Known) → is_known c k ≡ true → happens c effect (facts_of k) ≡ facts_of (with_effect c effect k)
unfolding happens
happens-known c effect k known i = record {
  joins = sym (changed-length (λ is_caller a. affected_connection is_caller effect a) c k.abouts) i;
  last = k.last;
  opened = k.opened;
  present = present_after c effect (about_in k.abouts) k.present;
  bans = bans_after effect.change k.bans;
  topic = topic_after effect.change k.topic;
  about = λ d. changed-at (λ is_caller a. affected_connection is_caller effect a) c (nobody-affected effect) k.abouts d (known-among c d k known) i;
}

-- so many lines are taken
abbrev pub with_taken : ℕ → ℕ → Known → Known
with_taken c count k = record k { abouts = changed_at (λ is_caller a. cond is_caller (with_lines_taken count a) a) c k.abouts }

pub taken-known : (c count : ℕ) (k : Known) → is_known c k ≡ true
    → record (facts_of k) { about = with_one c (with_lines_taken count) (facts_of k).about } ≡ facts_of (with_taken c count k)
taken-known c count k known i = record {
  joins = sym (changed-length (λ is_caller a. cond is_caller (with_lines_taken count a) a) c k.abouts) i;
  last = k.last;
  opened = k.opened;
  present = k.present;
  bans = k.bans;
  topic = k.topic;
  about = λ d. changed-at (λ is_caller a. cond is_caller (with_lines_taken count a) a) c refl k.abouts d (known-among c d k known) i;
}

-- a connection more
abbrev pub with_newcomer : ℕ → ℕ → List ℕ → List ℕ → Known → Known
with_newcomer owner sid peer challenge k = record k {
  last = sid;
  opened = k.opened ++ (length k.abouts + 1) ∷ [];
  abouts = newcomer owner sid peer challenge ∷ k.abouts;
}

one-more : (n : ℕ) → n + 1 ≡ suc n
one-more n = omega arith

pub joins-known : (owner sid : ℕ) (peer challenge : List ℕ) (k : Known) → next_sid (facts_of k) ≡ sid
    → with_connection (facts_of k) owner peer challenge ≡ facts_of (with_newcomer owner sid peer challenge k)
unfolding with_connection
joins-known owner sid peer challenge k is i = record {
  joins = one-more (length k.abouts) i;
  last = is i;
  opened = k.opened ++ (length k.abouts + 1) ∷ [];
  present = k.present;
  bans = k.bans;
  topic = k.topic;
  about = λ d. cond (d == length k.abouts + 1) (newcomer owner (is i) peer challenge) (about_in k.abouts d);
}
