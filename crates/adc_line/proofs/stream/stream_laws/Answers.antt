use Rattle.std.proofs.Common.{[]}
use Rattle.adc_line.proofs.StreamLemmas.{lines-joined, run_conserves, run_gives_prefix}
use Rattle.adc_line.proofs.stream.stream_laws.Goals as goal

pub returns : goal.returns
returns c = record {
  in_order = lines-joined;
  conserved = λ deeds left h. run_conserves [] deeds left h;
  prefix = run_gives_prefix;
}
