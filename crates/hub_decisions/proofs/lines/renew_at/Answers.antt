use Rattle.std.proofs.Common.{◌<◌, ◌∙◌, sym, arith, length, length-set}
use Rattle.hub_decisions.proofs.KeptLines.{line-renewed, line-stays}
use Rattle.hub_decisions.proofs.lines.renew_at.Goals as goal
use Rattle.hub_decisions.proofs.lines.renew_at.Goals.{then-eq+in-Some, else-eq}

pub loop-place-preserved : goal.loop-place-preserved
loop-place-preserved c =
    let within : c.loop-place.place < length c.loop-place.lines.items =
    omega (arith, c.loop-place-test.true, c.len-place-end.ensures, c.loop-place.invariant.long, c.args.lines.now.ok.0) in
    elim c.if-eq.branch [
      | then-eq+in-Some w ↦ rw (w.lines-is, w.replace.ensures.after) (record {
        renewed = λ update key before changed were.
            line-renewed c.args.setup.now c.args.sid update key before c.args.users.now c.args.lines.now.items c.loop-place.lines.items c.loop-place.place changed were
            (c.loop-place.invariant.renewed update key before changed were) within w.in-Some.kept w.in-Some.ensures;
        long = length-set c.loop-place.lines.items c.loop-place.place w.in-Some.kept ∙ c.loop-place.invariant.long;
      })
      | else-eq w ↦ rw w.lines-is (record {
        renewed = λ update key before changed were.
            line-stays c.args.setup.now c.args.sid update key before c.args.users.now c.args.lines.now.items c.loop-place.lines.items c.loop-place.place changed were
            (c.loop-place.invariant.renewed update key before changed were) within c.index.result.now c.index.ensures (sym w.if-eq.ensures);
        long = c.loop-place.invariant.long;
      })
    ]
