use Rattle.std.proofs.Common.{◌≡◌}
use Rattle.ospf_exchange.specs.Requests.{all_held}
use Rattle.ospf_exchange.proofs.request.are_held.Given as goal

abbrev pub invariant-loop-entry : goal.invariant-loop-entry
invariant-loop-entry l =
    (goal.iterator-loop-entry).can_next l.entry-iterator ×
    (goal.iterator-loop-entry).is_finite l.entry-iterator ×
    (all_held l.database l.entry-iterator ≡ all_held l.database l.fn.requests)
