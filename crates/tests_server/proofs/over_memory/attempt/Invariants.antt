use Rattle.std.specs.Prelude.{⊤}
use Rattle.std.proofs.Common.{Some}
use Rattle.hub_warnings.specs.Clocks.{ReadsSeconds}
use Rattle.tests_server.proofs.over_memory.attempt.Given as goal

abbrev pub ghosts-session : goal.ghosts-session
ghosts-session g a = record { hub = Some a.hub.now; may_read = ReadsSeconds (λ _ _. ⊤) a.rt.now; arrives = λ _ _ _. ⊤; stops = ⊤ }
