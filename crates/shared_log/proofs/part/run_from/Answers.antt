use Rattle.std.proofs.Common.{◌≡◌, subst, ap, length, length-append, arith}
use Rattle.shared_log.specs.Entries.{all_lines, entry_lines}
use Rattle.shared_log.specs.Parts.{AreWhole, between}
use Rattle.shared_log.proofs.Logs.{never-none}
use Rattle.shared_log.proofs.Parts.{first-exact, first-whole, lines-more, none-between}
use Rattle.shared_log.proofs.part.run_from.Goals as goal

pub loop-place-init : goal.loop-place-init
loop-place-init c = record {
  end = c.len-place-end.ensures.len;
  from = omega arith;
  within = c.requires;
  counted = omega (arith, ap (λ es. length (all_lines es)) (none-between c.args.log.now.items c.args.tail));
}

pub returns-then-left-eq0 : goal.returns-then-left-eq0
returns-then-left-eq0 c = record {
  from = c.loop-place.invariant.from;
  within = c.loop-place.invariant.within;
  counted = c.loop-place.invariant.counted;
  first = first-exact c.args.log.now.items c.args.tail c.loop-place.place c.args.count c.loop-place.invariant.from (omega (arith, c.loop-place.invariant.counted, c.if-left-eq0.true));
}

pub unreachable-requires : goal.unreachable-requires
unreachable-requires c = never-none c.args.log.now.items c.loop-place.place (omega (arith, c.loop-place-test.true, c.loop-place.invariant.end)) c.in-None.ensures

pub loop-place-preserved : goal.loop-place-preserved
loop-place-preserved c =
    let more = lines-more c.args.log.now.items c.args.tail c.loop-place.place c.in-Some.entry.now c.loop-place.invariant.from
    (omega (arith, c.loop-place-test.true, c.loop-place.invariant.end)) c.in-Some.ensures in
    record {
      end = c.loop-place.invariant.end;
      from = omega (arith, c.loop-place.invariant.from);
      within = omega (arith, c.loop-place-test.true, c.loop-place.invariant.end);
      counted = omega (
        arith,
        c.loop-place.invariant.counted,
        ap length more,
        length-append (all_lines (between c.args.log.now.items c.args.tail c.loop-place.place)) (entry_lines c.in-Some.entry.now),
        c.count.ensures,
        c.in_ok-left-in-Some.ensures,
      );
    }

pub returns : goal.returns
returns c =
    let same : c.loop-place.place ≡ c.len.result =
    omega (arith, c.loop-place.invariant.end, c.loop-place.invariant.within, c.loop-place-test.false, c.len.ensures.len) in
    subst (λ end. AreWhole c.args.log.now.items c.args.tail c.args.count (record { end = end; left = c.loop-place.left })) same
    (record {
      from = c.loop-place.invariant.from;
      within = c.loop-place.invariant.within;
      counted = c.loop-place.invariant.counted;
      first = first-whole c.args.log.now.items c.args.tail c.loop-place.place c.args.count c.loop-place.invariant.from
          (omega (arith, c.loop-place.invariant.end, c.loop-place.invariant.within, c.loop-place-test.false)) (omega (arith, c.loop-place.invariant.counted));
    })
