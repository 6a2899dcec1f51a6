use Rattle.std.proofs.Common.{◌∙◌, sym}
use Rattle.hub_decisions.specs.Present.{kept_line}
use Rattle.hub_decisions.proofs.KeptLines.{first-of}
use Rattle.hub_decisions.proofs.Told.{lines-more}
use Rattle.hub_decisions.proofs.lines.add_rest.Goals as goal

pub loop-place-preserved : goal.loop-place-preserved
loop-place-preserved c = record {
  written = λ before more is first.
      lines-more (kept_line c.args.setup.now) c.args.users.now c.loop-place.place c.in-Some.user.now c.loop-place.lines.items c.push.new.self.items c.in_ok-kept_line.field-0
      c.in_ok-push.ensures.items c.in_ok-kept_line.ensures (c.loop-place.invariant.written before more is first) (sym c.in-Some.ensures);
  counted = c.loop-place.invariant.counted;
}

pub returns-in_err-push : goal.returns-in_err-push
returns-in_err-push c = λ before more is first.
    first-of c.args.setup.now c.args.users.now c.push.new.self.items c.loop-place.place (c.in_err-push.ensures.items ∙ c.loop-place.invariant.written before more is first)
