-- An identifier is taken from the index.
use Rattle.std.proofs.Common.{◌≡◌, ◌≢◌, ◌∙◌, ◌==◌, ℕ, false, cond, Option, Some, None, sym, ap, subst, inl, inr, arith}
use Rattle.std.specs.BTreeMap.{BTreeMap, UpdatesBy}
use Rattle.std.specs.Cmp.{unsigned_tied}
use Rattle.std.specs.Ordering.{nat_cmp}
use Rattle.std.proofs.lemmas.Option.{same_Some}
use Rattle.server_tasks.specs.Named.{IsSetAtName, slot_at}
use Rattle.server_tasks.proofs.Indexes.{same_or_not}

slot-set : (sid : ℕ) (m n : BTreeMap ℕ ℕ) (found : Option ℕ) → UpdatesBy nat_cmp (nat_cmp sid) m n found → IsSetAtName sid found m.entries n.entries
slot-set sid m n found updates = λ other. updates.0 other ∙ ap (λ b. cond b found (slot_at m.entries other)) (unsigned_tied sid other)

differs : (sid other : ℕ) → other ≢ sid → (sid == other) ≡ false
differs sid other ne = grind (arith, ne)

-- the slots that stand under other identifiers stay there
pub forgotten : (sid place : ℕ) (m n : BTreeMap ℕ ℕ) → UpdatesBy nat_cmp (nat_cmp sid) m n None → slot_at m.entries sid ≡ Some place →
    (other slot : ℕ) → slot ≢ place → slot_at m.entries other ≡ Some slot → slot_at n.entries other ≡ Some slot
forgotten sid place m n updates was other slot ne got =
    elim (same_or_not sid other) [
      | inl e ↦ absurd (ne (same_Some slot place (sym got ∙ subst (λ k. slot_at m.entries k ≡ Some place) (sym e) was)))
      | inr differ ↦ slot-set sid m n None updates other ∙ ap (λ b. cond b None (slot_at m.entries other)) (differs sid other differ) ∙ got
    ]
