use Rattle.std.proofs.Common.{rules, ◌<◌, length}
use Rattle.std.proofs.Output.{has_written_append, has_written_of_eq}
use Rattle.settings_report.proofs.Commas.{comma_some, commas-at}
use Rattle.settings_report.proofs.allowed.write_names.Goals as goal

pub loop-key-preserved : goal.loop-key-preserved
loop-key-preserved g c =
    let keys = c.args.keys.now in
    let i = c.loop-key.key-index in
    let within : i < length keys = search rules in
    let name = c.name_of-name.ensures in
    let told = commas-at keys i c.loop-key.comma.now c.name_of-name.result.now _ within name c.loop-key.invariant.1 in
    (search rules, comma_some keys i within, λ plain. has_written_of_eq _ _ _ _ _ told (has_written_append _ _ _ _ _ _ (c.loop-key.invariant.2 plain) (search rules)))
