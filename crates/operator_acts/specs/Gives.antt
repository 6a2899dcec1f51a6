-- The answer of a call that reads an act.
use Rattle.std.specs.Prelude.{◌≡◌, true, Option, Some, None, Result, Ok, Err, is_some}
use Rattle.adc_ids.specs.declared.nick.NickFault.{NickFault}
use Rattle.adc_ids.specs.declared.nick.NickFault.TheVariants as nicks
use Rattle.operator_acts.specs.declared.act.Act.{Act}
use Rattle.operator_acts.specs.declared.fault.ActFault.{ActFault}
use Rattle.operator_acts.specs.declared.fault.ActFault.TheVariants.{Memory, Bad}

-- the act that is there, or the fault that there is none; want of memory stands only in the place of an act
abbrev pub GivesAct : Result Act ActFault → Option Act → Type 0
GivesAct (Ok act) said = said ≡ Some act
GivesAct (Err Memory) said = is_some said ≡ true
GivesAct (Err Bad) said = said ≡ None

-- a text whose nick is none is no act
abbrev pub fault_of : NickFault → ActFault
fault_of nicks.Memory = Memory
fault_of nicks.Invalid = Bad
