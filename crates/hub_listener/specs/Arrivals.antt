-- The connections that come to a listener.
use Rattle.std.specs.Prelude.{Result, Ok, Err, ⊤}
use Rattle.futures.specs.declared.task.Poll.{Poll}
use Rattle.futures.specs.declared.task.Poll.TheVariants.{Ready, Pending}

-- that holds where an answer of a listener brought nobody
abbrev pub OnNobody : {A B : Type 0} → Poll (Result A B) → Type 0 → Type 0
OnNobody (Ready (Ok arrived)) P = ⊤
OnNobody (Ready (Err fault)) P = P
OnNobody Pending P = P
