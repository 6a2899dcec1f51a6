-- As many connections as there are identifiers join and leave, one after another: by induction.
use Rattle.std.proofs.Common.{◌≡◌, ◌∙◌, ap, refl, sym, subst, ℕ, zero, suc, ◌+◌, ◌<◌, ◌≤◌, true, false, not, ◌||◌, List, [], ◌∷◌, codes, arith}
use Rattle.std.specs.Prelude.{◌==◌, nat_le, if◌then◌else◌, cond}
use Rattle.adc_base32.specs.Turns.{following}
use Rattle.hub_rules.specs.declared.effect.Effect.{Effect}
use Rattle.hub_rules.specs.declared.history.Call.{Call}
use Rattle.hub_rules.specs.declared.history.Call.TheVariants.{Line, Quit}
use Rattle.hub_rules.specs.Effects.{departure, line_effect}
use Rattle.hub_rules.specs.Facts.{Facts, about_after, after, without_connection, facts, happens, with_connection, newcomer, next_sid, nobody, with_one}
use Rattle.hub_rules.specs.History.{lines_owed, sid}
use Rattle.hub_rules.specs.Legal.{Legal, MayCall, is_open, reply}
use Rattle.hub_rules.specs.Prepared.{prepared_line}
use Rattle.hub_rules.specs.Shares.{ConnState}
use Rattle.hub_examples.specs.Conversations.{greeting_of, peer, plain, sup_text, zeros}
use Rattle.hub_examples.specs.Identifiers.{FirstIsGivenAgain, all_given, come_and_go}
use Rattle.hub_examples.specs.Steps.{joins}
use Rattle.hub_examples.proofs.Opened.{computing}
use Rattle.hub_examples.proofs.Played.{next-at}

-- so many came, and none is there
abbrev idle_facts : ℕ → (ℕ → ConnState) → Facts
idle_facts n about = record { joins = n; last = n; opened = []; present = []; bans = []; topic = []; about = about }

record Idle (hash : List ℕ → List ℕ) (n : ℕ) : Type 0 where
  legal : Legal plain hash (come_and_go n)
  about : ℕ → ConnState
  known : facts plain hash (come_and_go n) ≡ idle_facts n about

itself : (n : ℕ) → (n == n) ≡ true
itself n = grind arith

-- the next one is there, with the next identifier
abbrev one_of : ℕ → ℕ → (ℕ → ConnState) → Facts
one_of n sid about = record {
  joins = suc n;
  last = sid;
  opened = suc n ∷ [];
  present = [];
  bans = [];
  topic = [];
  about = with_one (suc n) (λ a. newcomer (suc n) sid peer zeros) about;
}

one-more : (n : ℕ) → n + 1 ≡ suc n
one-more n = omega arith

one-comes : (n sid : ℕ) (about : ℕ → ConnState) → following n 0 ≡ sid → with_connection (idle_facts n about) (suc n) peer zeros ≡ one_of n sid about
unfolding with_connection
one-comes n sid about next i =
    let is : next_sid (idle_facts n about) ≡ sid = next-at (idle_facts n about) refl ∙ next in
    record {
      joins = one-more n i;
      last = is i;
      opened = one-more n i ∷ [];
      present = [];
      bans = [];
      topic = [];
      about = with_one (one-more n i) (λ a. newcomer (suc n) (is i) peer zeros) about;
    }

has-joins : (n : ℕ) → n < 2_097_152 → not (nat_le 18_446_744_073_709_551_615 n) ≡ true
has-joins n few = grind arith

-- what a join makes of it
one-joined : (hash : List ℕ → List ℕ) (n sid : ℕ) (idle_there : Idle hash n) → n < 2_097_152 → following n 0 ≡ sid
    → (Legal plain hash (joins (suc n) 0 (come_and_go n))) × (facts plain hash (joins (suc n) 0 (come_and_go n)) ≡ one_of n sid idle_there.about)
unfolding Legal facts after reply
one-joined hash n sid idle_there few next = grind (arith, one-more, has-joins, one-comes)

its-about : (n sid : ℕ) (about : ℕ → ConnState) → (one_of n sid about).about (suc n) ≡ newcomer (suc n) sid peer zeros
its-about n sid about = ap (λ b. cond b (newcomer (suc n) sid peer zeros) (about (suc n))) (itself (suc n))

is-there : (n sid : ℕ) (about : ℕ → ConnState) → is_open (suc n) (one_of n sid about) ≡ true
is-there n sid about = ap (λ b. b || false) (itself (suc n))

-- it leaves
abbrev leaves : ℕ → (ℕ → ConnState) → Effect
leaves n about = departure ((one_of n (suc n) about).about (suc n)).stage ((one_of n (suc n) about).about (suc n)).sender.sid

one-goes : (n : ℕ) (about : ℕ → ConnState) → without_connection (suc n) (happens (suc n) (leaves n about) (one_of n (suc n) about))
    ≡ idle_facts (suc n) (about_after (suc n) (leaves n about) (one_of n (suc n) about).about)
unfolding without_connection happens
one-goes n about i = record {
  joins = suc n;
  last = suc n;
  opened = ap (λ b. if not b then suc n ∷ [] else []) (itself (suc n)) i;
  present = [];
  bans = [];
  topic = [];
  about = about_after (suc n) (leaves n about) (one_of n (suc n) about).about;
}

goes-round : (hash : List ℕ → List ℕ) (n : ℕ) → n < 1_048_575 → Idle hash n → Idle hash (suc n)
unfolding come_and_go Legal facts after reply
goes-round hash n few there =
    let next : following n 0 ≡ suc n = omega (arith, few) in
    let came = one-joined hash n (suc n) there (omega (arith, few)) next in
    let f = one_of n (suc n) there.about in
    record {
      legal = (came.0, subst (λ g. MayCall g (suc n) (Quit (suc n))) (sym came.1) (is-there n (suc n) there.about, ap (λ a. a.owner) (its-about n (suc n) there.about)), refl);
      about = about_after (suc n) (leaves n there.about) f.about;
      known = ap (λ g. after plain hash g (suc n) (Quit (suc n))) came.1 ∙ one-goes n there.about;
    }

nobody-came : (hash : List ℕ → List ℕ) → Idle hash zero
unfolding come_and_go Legal facts
nobody-came hash = record { legal = tt; about = λ d. nobody; known = refl }

so-many-came : (hash : List ℕ → List ℕ) (n : ℕ) → n ≤ 1_048_575 → Idle hash n
so-many-came hash zero few = nobody-came hash
so-many-came hash (suc n) few = goes-round hash n (omega (arith, few)) (so-many-came hash n (omega (arith, few)))

each-has-its-own : (hash : List ℕ → List ℕ) (n : ℕ) → n < 1_048_575 → sid plain hash (joins (suc n) 0 (come_and_go n)) (suc n) ≡ suc n
each-has-its-own hash n few =
    let there = so-many-came hash n (omega (arith, few)) in
    let came = one-joined hash n (suc n) there (omega (arith, few)) (omega (arith, few)) in
    ap (λ f. (f.about (suc n)).sender.sid) came.1 ∙ ap (λ a. a.sender.sid) (its-about n (suc n) there.about)

-- the last of them asks
last-asks : (hash : List ℕ → List ℕ) → Idle hash 1_048_575 → Legal plain hash all_given × (lines_owed plain hash all_given 1_048_576 ≡ greeting_of (codes "AAAB"))
unfolding computing Legal facts reply after happens line_effect prepared_line
last-asks hash there =
    let came = one-joined hash 1_048_575 1 there (omega arith) refl in
    let asks : Call = Line 1_048_576 sup_text 0 in (
      (came.0, subst (λ g. MayCall g 1_048_576 asks) (sym came.1) (refl, refl), ap (λ g. reply plain hash g 1_048_576 asks) (sym came.1)),
      ap (λ g. ((after plain hash g 1_048_576 asks).about 1_048_576).owed) came.1,
    )

pub first-is-given-again : FirstIsGivenAgain
first-is-given-again hash = let last = last-asks hash (so-many-came hash 1_048_575 (omega arith)) in (each-has-its-own hash, last.0, last.1)
