use Rattle.ospf_drive_tests.proofs.publishes.race.opened_race.Given as goal

-- the forwarding table that was just opened
abbrev pub ghosts-race : goal.ghosts-race
ghosts-race g a = record { fib = a.writer.fib }
