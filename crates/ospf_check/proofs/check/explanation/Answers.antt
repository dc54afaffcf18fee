use Rattle.ospf_check.proofs.check.explanation.Goals as goal

pub returns-in-Explained : goal.returns-in-Explained
returns-in-Explained c fault refused = rw c.in-Explained.is (c.fault_said.ensures fault refused)
