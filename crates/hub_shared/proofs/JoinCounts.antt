-- A visitor joins and becomes a pass; a pass quits and becomes a visitor.
use Rattle.std.proofs.Common.{◌≡◌, ◌∙◌, sym, ap, ap₂, refl, subst, ℕ, Bool, true, false, not, ◌&&◌, ◌||◌, ◌==◌, List, Result, Ok, Err}
use Rattle.std.proofs.lemmas.Bool.{eq-eqb}
use Rattle.one_history.specs.States.{SeatState}
use Rattle.hub_core.specs.Moves.{entry}
use Rattle.hub_core.specs.declared.refused.JoinRefused.{JoinRefused}
use Rattle.hub_core.specs.declared.refused.JoinRefused.TheVariants as refusals
use Rattle.hub_core.proofs.OpenSeats.{not-self}
use Rattle.hub_rules.specs.declared.history.Call.TheVariants.{Join}
use Rattle.hub_rules.specs.declared.history.Entry.{Entry}
use Rattle.hub_rules.specs.declared.history.Reply.{Reply}
use Rattle.hub_rules.specs.declared.history.Reply.TheVariants as replies
use Rattle.hub_rules.specs.Configured.{Configured}
use Rattle.hub_rules.specs.Legal.{Legal}
use Rattle.hub_invariants.specs.OpenConnections.{has_joined, has_quit}
use Rattle.hub_shared.specs.declared.hub_key.HubKey.{HubKey}
use Rattle.hub_shared.specs.Callers.{IsPass, IsVisitor}
use Rattle.hub_shared.specs.Connections.{has_stayed}
use Rattle.hub_shared.proofs.Known.{new-quit, none-quit}
use Rattle.hub_shared.proofs.Turns.{Gives, Takes, given-mine}

-- what the history says of the answer to a join that was not refused for want of memory
abbrev pub join_answer : Result ℕ JoinRefused → Reply
join_answer (Ok connection) = replies.Joined connection
join_answer (Err refusals.JoinsSpent) = replies.JoinsSpent
join_answer (Err refusals.Full) = replies.Full
join_answer (Err refusals.Memory) = replies.Full

-- ---- connections of the caller

-- one that just joined
stays-new : (c : ℕ) (mine : List Entry) (first : Bool) → first ≡ true → has_quit c mine ≡ false → ((first || has_joined c mine) && not (has_quit c mine)) ≡ true
stays-new c mine first is none = ap₂ (λ a b. (a || has_joined c mine) && not b) is none

stays-other : (d : ℕ) (mine : List Entry) (first : Bool) → first ≡ false → has_stayed d mine ≡ false → ((first || has_joined d mine) && not (has_quit d mine)) ≡ false
stays-other d mine first is none = ap (λ a. (a || has_joined d mine) && not (has_quit d mine)) is ∙ none

module _ {H : Type 0} where
  pub now-pass : (setup : Configured) (hash : List ℕ → List ℕ) (old taken new : SeatState Entry (HubKey H)) (c : ℕ) (peer challenge : List ℕ) (now : ℕ)
      → Takes old taken → Gives (entry taken.number (Join peer challenge now) (replies.Joined c)) taken new → Legal setup hash new.seen → IsVisitor old
      → IsPass new c
  now-pass setup hash old taken new c peer challenge now t g legal visitor =
      let e : Entry = entry taken.number (Join peer challenge now) (replies.Joined c) in
      let mine = given-mine e old taken new t g in
      let legal_more = subst (Legal setup hash) (ap (λ (s : SeatState Entry (HubKey H)). s.seen) g.seat) legal in
      let none : has_quit c taken.seen ≡ false = new-quit setup hash e taken.seen c legal_more (eq-eqb c c refl) in
      let none_mine : has_quit c old.mine ≡ false = ap (has_quit c) (sym t.own) ∙ none-quit c taken.number taken.seen none in
      record {
        idle = ap (λ (s : SeatState Entry (HubKey H)). s.holds) g.seat;
        own = ap (has_stayed c) mine ∙ stays-new c old.mine (c == c) (eq-eqb c c refl) none_mine;
        others = λ d other. ap (has_stayed d) mine ∙ stays-other d old.mine (c == d) (not-self d c other) (visitor.quits d);
      }
