use Rattle.std.proofs.Common.{◌≡◌}
use Rattle.ospf_adjacency.specs.LinkSteps.Repeats.{marked_all}
use Rattle.ospf_adjacency.proofs.link_steps.marks.mark_all.Given as goal

-- the keys that are left are still to be marked
abbrev pub invariant-loop-key : goal.invariant-loop-key
invariant-loop-key l = marked_all l.key-iterator l.sent.keys ≡ marked_all l.keys.keys l.fn.sent.keys
