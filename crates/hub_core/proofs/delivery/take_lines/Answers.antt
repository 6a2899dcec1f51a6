use Rattle.std.proofs.Common.{◌∙◌, ap, length, arith}
use Rattle.hub_core.proofs.Rows.{ended-by, length-at, taken-left}
use Rattle.shared_log.specs.Tables.{Table, backlog_at, taken}
use Rattle.hub_core.proofs.delivery.take_lines.Goals as goal

pub waiting-nothing_left-requires : goal.waiting-nothing_left-requires
waiting-nothing_left-requires c =
    omega (arith, c.requires.place, ap (λ (t : Table). length t.rows) c.in_ok-taken.ensures.rest, length-at (taken c.args.count) c.args.place c.args.backlogs.now.rows)

pub returns-clause-ended : goal.returns-clause-ended
returns-clause-ended c =
    ended-by c.args.count c.args.is_over (backlog_at c.args.place c.args.backlogs.now) c.in_ok-taken.taken.ended c.waiting-nothing_left.result c.in_ok-taken.ensures.ended
    (c.waiting-nothing_left.ensures ∙ ap (λ (t : Table). length (backlog_at c.args.place t).lines) c.in_ok-taken.ensures.rest ∙ taken-left c.args.count c.args.place c.args.backlogs.now.rows c.requires.place)
