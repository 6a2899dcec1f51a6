use Rattle.tests_hub.proofs.lock.counter.add.Given as goal

abbrev pub ghosts-enter : goal.ghosts-enter
ghosts-enter g a = record { entry = a.line.now }
