use Rattle.history_check.proofs.Grammar.{one-entry}
use Rattle.history_check.proofs.Histories.{bytes-written, no-fault, number-written, one-history}
use Rattle.history_check.proofs.laws.text_laws.Goals as goal

pub returns : goal.returns
returns c = record { one_entry = one-entry; one_history = one-history; no_fault = no-fault; numbers = number-written; bytes = bytes-written }
