use Rattle.std.proofs.Common.{◌≡◌, map}
use Rattle.ospf_lsa.specs.Lsa.{type_of}
use Rattle.ospf_notes.specs.Others.{first_unwanted}
use Rattle.ospf_notes.proofs.others.first_sent.Given as goal

abbrev pub invariant-loop-lsa : goal.invariant-loop-lsa
invariant-loop-lsa l =
    (goal.iterator-loop-lsa).can_next l.lsa-iterator ×
    (goal.iterator-loop-lsa).is_finite l.lsa-iterator ×
    (first_unwanted l.passes_over (map type_of l.lsa-iterator) ≡ first_unwanted l.passes_over (map type_of l.fn.lsas))
