use Rattle.std.proofs.Common.{subst}
use Rattle.hub_rules.specs.Configured.{Configured}
use Rattle.session_hash.specs.First24.{first_24}
use Rattle.hub_stdio.specs.Runs.{IsServed}
use Rattle.hub_stdio.proofs.Heard.{never_began}
use Rattle.hub_startup.proofs.one_connection.serve_stdin.Goals as goal

pub returns-in_default : goal.returns-in_default
returns-in_default g c words asks = (asks, never_began _ _ _ _ (g.I.CountedRead.failures c.args.input.now) (g.O.CountedWrite.failures c.args.output.now))

pub returns-in-Ok-run_one : goal.returns-in-Ok-run_one
returns-in-Ok-run_one g c words asks = (
  asks,
  subst
      (λ (setup : Configured). IsServed setup first_24 (g.I.Read.remaining c.args.input.now) (g.I.Read.remaining c.run_one.new.reader) (g.O.Write.contents c.args.output.now) (g.O.Write.contents c.run_one.new.writer))
      c.in-Ok.ensures c.in-Ok-run_one.ensures.ok,
  (c.in-Ok-run_one.ensures.reads, c.in-Ok-run_one.ensures.writes),
)
