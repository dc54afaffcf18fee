use Rattle.std.proofs.Common.{◌≡◌}
use Rattle.std.specs.List.{list_any}
use Rattle.ospf_table.specs.Apart.{is_to}
use Rattle.ospf_table.proofs.apart.leads_to.Given as goal

abbrev pub invariant-loop-link : goal.invariant-loop-link
invariant-loop-link l =
    (goal.iterator-loop-link).can_next l.link-iterator ×
    (goal.iterator-loop-link).is_finite l.link-iterator ×
    (list_any (is_to l.to) l.link-iterator ≡ list_any (is_to l.to) l.fn.links)
