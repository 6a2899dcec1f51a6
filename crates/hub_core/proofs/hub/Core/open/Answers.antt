use Rattle.std.proofs.Common.{◌∙◌, ap, refl}
use Rattle.std.specs.Arc.{arc_value}
use Rattle.hub_rules.specs.Configured.{Configured}
use Rattle.hub_core.proofs.NextHistory.{open-stands-as}
use Rattle.std.proofs.Common.{arith, rules, sym, subst}
use Rattle.hub_core.specs.Index.{AreIndexedBySid, keys}
use Rattle.hub_core.specs.Backlogs.{backlogs_of, here_in, members_of}
use Rattle.hub_decisions.specs.Present.{AreFirst}
use Rattle.hub_core.specs.Numbers.{Ordered, Rising, UpTo}
use Rattle.shared_log.specs.Tables.{Table}
use Rattle.hub_core.proofs.hub.Core.open.Goals as goal

pub returns : goal.returns
returns c hash =
    open-stands-as (arc_value c.args.setup) c.in_ok-seats.seats.items (backlogs_of c.in_ok-backlogs.backlogs.rows) c.new-4.result.users c.new-5.result c.in_ok-topic.topic
    c.in_ok-seats.ensures.items (ap (λ (t : Table). backlogs_of t.rows) c.in_ok-backlogs.ensures) c.new-4.ensures.users c.new-5.ensures
    (c.in_ok-topic.ensures ∙ c.topic.ensures ∙ ap (λ (s : Configured). s.topic) c.deref-2.ensures) hash

pub invariant_of-result : goal.invariant_of-result
unfolding Rising UpTo AreIndexedBySid
invariant_of-result c = (
  search rules,
  omega arith,
  subst (Ordered 0) (sym c.in_ok-seats.ensures.items) (tt, tt),
  subst (λ ss. AreIndexedBySid c.new-3.result (keys ss)) (sym c.in_ok-seats.ensures.items) tt,
  subst (AreFirst (arc_value c.args.setup) c.new-4.result.users) (sym c.new-4.ensures.lines) refl,
  record {
    members = ap (λ (t : Table). members_of t.rows) c.in_ok-backlogs.ensures ∙ sym (ap here_in c.in_ok-seats.ensures.items);
    cap = ap (λ (t : Table). t.cap) c.in_ok-backlogs.ensures;
    bytes = ap (λ (t : Table). t.bytes) c.in_ok-backlogs.ensures;
  },
)
