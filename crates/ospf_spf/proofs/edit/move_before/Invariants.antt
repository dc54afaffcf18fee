use Rattle.std.proofs.Common.{◌≡◌, ◌+◌, ◌≤◌, vec_len, vec_capacity, deque_len}
use Rattle.ospf_spf.specs.Changes.{IsMoved}
use Rattle.ospf_spf.proofs.edit.move_before.Given as goal

-- some routes were moved, and there is room for the others
abbrev pub invariant-loop-prefix : goal.invariant-loop-prefix
invariant-loop-prefix l =
    IsMoved l.prefix l.initial.left.items l.initial.made.items l.left.items l.made.items
    × (deque_len l.left + vec_len l.made ≡ deque_len l.initial.left + vec_len l.initial.made)
    × (vec_capacity l.initial.made ≤ vec_capacity l.made)

abbrev pub decreases-loop-prefix : goal.decreases-loop-prefix
decreases-loop-prefix l = deque_len l.left
