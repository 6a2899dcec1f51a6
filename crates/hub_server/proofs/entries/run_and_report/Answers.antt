use Rattle.std.proofs.Common.{subst}
use Rattle.std.specs.Io.KnownBytes.{Appends}
use Rattle.hub_server.specs.ServerEnd.{report_line}
use Rattle.hub_server.proofs.entries.run_and_report.Goals as goal

-- the report is that of the hub that was closed, in which nobody is present
pub returns-clause-served : goal.returns-clause-served
returns-clause-served g c =
    let it = c.in_ok-served in
    let joins = it.served.report.joins in
    record {
      terms = it.served.terms;
      by_setup = it.ensures.terms.0;
      by_hash = it.ensures.terms.1;
      by_clock = it.ensures.terms.2;
      by_seed = it.ensures.terms.3;
      by_place = it.ensures.terms.4;
      visitors = it.served.visitors.value.items;
      all = it.ensures.all;
      stopped = it.ensures.stopped;
      reported = (
        c.serve_hub.new.output,
        subst (λ present. Appends (g.W.Write.contents c.serve_hub.new.output) (g.W.Write.contents c.say_report.new.output) (report_line joins present)) it.ensures.nobody
            c.in_ok-say_report.ensures.said,
      );
    }
