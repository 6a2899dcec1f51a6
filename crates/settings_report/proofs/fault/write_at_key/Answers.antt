use Rattle.std.proofs.Common.{rules, refl, ◌++◌, string_bytes}
use Rattle.std.specs.Prelude.{codes}
use Rattle.std.specs.Fmt.{HasWritten}
use Rattle.std.proofs.lemmas.Grind.{put_four}
use Rattle.settings_report.specs.Printed.{allowed_text, entry_text, inner_text}
use Rattle.settings_report.proofs.fault.write_at_key.Goals as goal

pub returns : goal.returns
returns g c = λ plain ok.
    let took = g.W.Write.write_str_gives in
    let fault = c.args.fault.now in
    let name : HasWritten took c.args.f.now c.args.key.now c.write_str.new.self = search rules in
    let entry : HasWritten took c.write_str.new.self (entry_text fault.entry) c.write_entry.new.f = search rules in
    let inner : HasWritten took c.write_entry.new.f (inner_text (string_bytes fault.inner)) c.write_inner.new.f = search rules in
    let last : HasWritten took c.write_inner.new.f (codes ": found " ++ (string_bytes fault.found ++ (codes "; allowed: " ++ allowed_text fault.allowed))) c.write.new.self = search rules in
    put_four took _ _ _ _ _ _ _ _ _ _ name entry inner last refl
