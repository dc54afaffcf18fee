use Rattle.ospf_sim.proofs.Sessions.{run_answered, told_answered, told_cut}
use Rattle.ospf_sim.proofs.console.answer_line.Goals as goal

pub returns-then-branch-clause-answered : goal.returns-then-branch-clause-answered
returns-then-branch-clause-answered g c = run_answered c.args.line.now c.in_ok-run_line.field-0 _ _ _ _ c.if-branch.true c.in_ok-run_line.ensures.comes

pub returns-else-branch-clause-answered : goal.returns-else-branch-clause-answered
returns-else-branch-clause-answered g c =
    told_answered c.tell_unreadable.result c.args.line.now c.in_ok-run_line.field-0 _ _ _ _ _ _ _ c.if-branch.false c.in_ok-run_line.ensures.comes
    c.tell_unreadable.ensures.out c.tell_unreadable.ensures.err

pub returns-else-branch-clause-cut : goal.returns-else-branch-clause-cut
returns-else-branch-clause-cut g c =
    told_cut c.tell_unreadable.result c.args.line.now c.in_ok-run_line.field-0 _ _ _ _ _ _ c.if-branch.false c.in_ok-run_line.ensures.comes
    c.tell_unreadable.ensures.cut
