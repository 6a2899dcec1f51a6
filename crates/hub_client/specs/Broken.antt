-- The fault of a stream, by the kind of its error, and of a word.
use Rattle.std.specs.Prelude.{◌≡◌, true}
use Rattle.std.specs.declared.io.ErrorKind.{ErrorKind}
use Rattle.counted_io.specs.declared.failures.Failures.{Failures}
use Rattle.std.specs.declared.io.ErrorKind.TheVariants.{OutOfMemory, WouldBlock, TimedOut}
use Rattle.adc_line.specs.declared.fault.UnescapeFault.{UnescapeFault}
use Rattle.adc_line.specs.declared.fault.UnescapeFault.TheVariants as words
use Rattle.hub_client.specs.declared.fault.ClientFault.{ClientFault}
use Rattle.hub_client.specs.declared.fault.ClientFault.TheVariants as faults

-- memory ran out, the wait was too long, or the connection failed
abbrev pub fault_by : ErrorKind → ClientFault
fault_by OutOfMemory = faults.Memory
fault_by WouldBlock = faults.TimedOut
fault_by TimedOut = faults.TimedOut
fault_by _ = faults.Broken

-- memory ran out, or a word spells no text
abbrev pub fault_of_word : UnescapeFault → ClientFault
fault_of_word words.Memory = faults.Memory
fault_of_word words.Escape = faults.NotAdc

-- memory ran out, or the last call of the stream failed
abbrev pub IsCut : Failures → ClientFault → Type 0
IsCut failures faults.Memory = Unit {0}
IsCut failures faults.TimedOut = failures.is_last ≡ true
IsCut failures faults.Broken = failures.is_last ≡ true
IsCut failures faults.Unsayable = ⊥
IsCut failures faults.Unanswered = ⊥
IsCut failures faults.Closed = ⊥
IsCut failures faults.NotAdc = ⊥
IsCut failures (faults.Refused status) = ⊥
