-- How a server ends before all were served.
use Rattle.std.specs.Prelude.{⊤}
use Rattle.server_tasks.specs.declared.state.ServerFault.{ServerFault}
use Rattle.server_tasks.specs.declared.state.ServerFault.TheVariants as faults
use Rattle.hub_endings.specs.declared.ending.Ending.{Ending}
use Rattle.hub_endings.specs.declared.ending.Ending.TheVariants as endings

-- it could not listen or accept, memory or threads were wanting, the output failed
abbrev pub IsServerFault : Ending → Type 0
IsServerFault endings.Served = ⊥
IsServerFault endings.Usage = ⊥
IsServerFault endings.Tables = ⊥
IsServerFault endings.Address = ⊤
IsServerFault endings.Memory = ⊤
IsServerFault endings.Transfer = ⊤

-- by what it ends where its tasks met this fault
abbrev pub ending_by : ServerFault → Ending
ending_by faults.Accepting = endings.Address
ending_by faults.Output = endings.Transfer
ending_by faults.Start = endings.Memory
