use Rattle.std.proofs.Common.{◌≡◌}
use Rattle.ospf_exchange.specs.Rules.{all_known, considered}
use Rattle.ospf_exchange.proofs.headers.are_known.Given as goal

abbrev pub invariant-loop-header : goal.invariant-loop-header
invariant-loop-header l =
    (goal.iterator-loop-header).can_next l.header-iterator ×
    (goal.iterator-loop-header).is_finite l.header-iterator ×
    (all_known (considered l.passes_over l.header-iterator) ≡ all_known (considered l.passes_over l.fn.headers))
