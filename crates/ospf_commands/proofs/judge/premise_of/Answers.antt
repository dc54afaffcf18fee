use Rattle.ospf_commands.proofs.judge.premise_of.Goals as goal

pub returns-in-Some : goal.returns-in-Some
returns-in-Some c = rw c.in-Some.is c.disagreement.ensures
