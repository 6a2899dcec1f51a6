use Rattle.hub_connections.specs.Refusals.{hub_full}
use Rattle.hub_connections.proofs.Refusals.{wrote-first}
use Rattle.hub_connections.proofs.told_full.say_full.Goals as goal

pub returns : goal.returns
unfolding hub_full
returns g c = record {
  said = ∣ (g.S.Socket.outcome_of c.try_write.result, c.try_write.ensures.tried) ∣₁;
  wrote =
      wrote-first g.S.AsyncWrite.writes c.args.stream.now c.try_write.new.self hub_full (g.S.Socket.outcome_of c.try_write.result) c.try_write.ensures.bytes c.try_write.ensures.nothing;
}
