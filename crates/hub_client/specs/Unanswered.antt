-- The fault of a request to which no answer came.
use Rattle.hub_client.specs.declared.fault.ClientFault.{ClientFault}
use Rattle.hub_client.specs.declared.fault.ClientFault.TheVariants.{Memory, Unsayable, TimedOut, Unanswered, Closed, Broken, NotAdc, Refused}

-- where the time was over it is that the hub does not answer, and else what it was
abbrev pub unanswered : ClientFault → ClientFault
unanswered TimedOut = Unanswered
unanswered Memory = Memory
unanswered Unsayable = Unsayable
unanswered Unanswered = Unanswered
unanswered Closed = Closed
unanswered Broken = Broken
unanswered NotAdc = NotAdc
unanswered (Refused status) = Refused status
