use Rattle.std.specs.Prelude.{⊤}
use Rattle.std.proofs.Common.{Some}
use Rattle.hub_warnings.specs.Clocks.{ReadsSeconds}
use Rattle.tests_server.proofs.histories.play.plays.Given as goal

abbrev pub ghosts-converses : goal.ghosts-converses
ghosts-converses g a = record { hub = Some a.hub.now; may_read = ReadsSeconds (λ _ _. ⊤) a.desk.now.clock; arrives = λ _ _ _. ⊤; stops = ⊤ }
