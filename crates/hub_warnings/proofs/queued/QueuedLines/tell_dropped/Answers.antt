use Rattle.std.proofs.lemmas.Result.{on_ok_weaker}
use Rattle.hub_warnings.specs.declared.lines.Dropped.{Dropped}
use Rattle.hub_warnings.proofs.queued.QueuedLines.tell_dropped.Goals as goal

pub returns : goal.returns
returns g c =
    let dropped : Dropped = record { moment = c.now-moment.result; count = c.swap-count.result } in
    on_ok_weaker c.write_dropped.result (λ wrote. (dropped, c.now-moment.ensures, wrote)) c.write_dropped.ensures
