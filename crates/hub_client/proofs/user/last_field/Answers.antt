use Rattle.std.proofs.Common.{◌<◌, length, take, rules}
use Rattle.hub_client.proofs.LastField.{last-changes, last-stays, one-more}
use Rattle.hub_client.proofs.user.last_field.Goals as goal
use Rattle.hub_client.proofs.user.last_field.Goals.{in-Some, in_default}

pub loop-line-preserved : goal.loop-line-preserved
loop-line-preserved c =
    let lines = c.args.lines.now in
    let within : c.loop-line.line-index < length lines = search rules in
    let more = one-more lines c.loop-line.line-index c.line-item.result within c.line-item.is in
    elim c.match-field_of.branch [
      | in-Some w ↦
          rw (more, w.last-is)
          (last-changes c.args.name.now c.args.sid (take c.loop-line.line-index lines) c.line-item.result w.in-Some.value.now w.in-Some.ensures.found.0 w.in-Some.ensures.found.1)
      | in_default w ↦
          rw (more, w.last-is) (last-stays c.args.name.now c.args.sid (take c.loop-line.line-index lines) c.line-item.result _ c.loop-line.invariant w.in_default.ensures.none)
    ]
