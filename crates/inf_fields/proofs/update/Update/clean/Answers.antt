use Rattle.std.proofs.Common.{ap, ◌∙◌, sym, subst}
use Rattle.std.proofs.lemmas.Map.Iter.{rest_more, rest_all}
use Rattle.std.specs.Map.Iter.{deref_pair}
use Rattle.std.specs.String.{string_bytes}
use Rattle.inf_fields.specs.Stored.{fields_of}
use Rattle.inf_fields.proofs.Changes.{Apart}
use Rattle.inf_fields.proofs.CleanLemmas.{passed-none, passed-held_back, passed-more, passed-all}
use Rattle.inf_fields.proofs.EntryLemmas.{Apart-from_distinct}
use Rattle.inf_fields.proofs.update.Update.clean.Goals as goal

pub loop-name-init : goal.loop-name-init
loop-name-init c =
    let entries = c.self.inside.entries.entries in
    let iter = c.into_iter-name-iterator in
    let none = ap fields_of c.in_ok-entries.ensures.empty in
    let all = ap fields_of iter.ensures.into_iter_gives.0 ∙ c.self.view_is in
    let apart = subst Apart c.self.view_is (Apart-from_distinct entries iter.ensures.into_iter_gives.4) in
    (passed-none c.args.self.now c.args.peer (fields_of c.in_ok-entries.entries.entries) iter.result none all apart, c.in_ok-address.ensures)

pub loop-name-preserved-in-Continue-branch-3 : goal.loop-name-preserved-in-Continue-branch-3
loop-name-preserved-in-Continue-branch-3 c =
    let more = rest_more deref_pair c.loop-name.name-iterator c.next.new.self c.next.result (c.in-Some.name, c.in-Some.value) c.in-Some.is c.next.ensures.steps in
    let passes = sym (c.is_held_back.ensures (string_bytes c.in-Some.value.now)) ∙ c.if-not-is_held_back.true in (
      passed-more c.args.self.now c.args.peer (fields_of c.loop-name.entries.entries) (fields_of c.put.new.entries.entries) c.loop-name.name-iterator c.next.new.self c.in-Some.name.now
          c.in-Some.value.now
          c.passed_on-passed.result.now
          (string_bytes c.in_ok-address.address)
          c.loop-name.invariant.0
          more
          passes
          c.loop-name.invariant.1
          (rw (c.deref.ensures, c.deref-then-not-is_held_back.ensures) at c.passed_on-passed.ensures)
          c.in_ok-put.ensures,
      c.loop-name.invariant.1,
    )

pub loop-name-preserved : goal.loop-name-preserved
loop-name-preserved c =
    let more = rest_more deref_pair c.loop-name.name-iterator c.next.new.self c.next.result (c.in-Some.name, c.in-Some.value) c.in-Some.is c.next.ensures.steps in
    let held = sym (c.is_held_back.ensures (string_bytes c.in-Some.value.now)) ∙ c.if-not-is_held_back.false in (
      passed-held_back c.args.self.now c.args.peer (fields_of c.loop-name.entries.entries) c.loop-name.name-iterator c.next.new.self c.in-Some.name.now c.in-Some.value.now c.loop-name.invariant.0 more
          held,
      c.loop-name.invariant.1,
    )

pub returns-clause-clean : goal.returns-clause-clean
returns-clause-clean c =
    let none = rest_all deref_pair c.loop-name.name-iterator c.next.new.self c.next.result c.in-None.is c.next.ensures.steps in
    passed-all c.args.self.now c.args.peer (fields_of c.loop-name.entries.entries) c.loop-name.name-iterator c.loop-name.invariant.0 none
