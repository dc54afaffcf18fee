use Rattle.std.proofs.Common.{◌+◌, ◌≤◌, vec_len, vec_capacity, deque_len}
use Rattle.ospf_spf.proofs.OrderLemmas.{IsEdited}
use Rattle.ospf_spf.proofs.edit.merged.Given as goal

-- what is made and left comes to the edited table, and there is room
abbrev pub invariant-loop-change : goal.invariant-loop-change
invariant-loop-change l =
    IsEdited l.fn.routes.items l.fn.changes.items l.changes.items l.left.items l.made.items
    × (deque_len l.left + vec_len l.made + deque_len l.changes ≤ vec_capacity l.made)

abbrev pub decreases-loop-change : goal.decreases-loop-change
decreases-loop-change l = deque_len l.changes
