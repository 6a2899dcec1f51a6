use Rattle.std.proofs.Common.{◌∙◌, sym, ap, Some}
use Rattle.history_check.proofs.Parts.{address-again, no-address}
use Rattle.history_check.proofs.words.address.Goals as goal

pub returns-in-Ok : goal.returns-in-Ok
returns-in-Ok c = ap Some c.octets.ensures ∙ sym (address-again c.args.word.now c.in-Ok.address.octets c.in-Ok.ensures)

pub returns-in-Err : goal.returns-in-Err
returns-in-Err c = no-address c.args.word.now c.in-Err.ensures
