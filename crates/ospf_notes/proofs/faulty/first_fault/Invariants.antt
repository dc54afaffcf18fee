use Rattle.std.proofs.Common.{Option}
use Rattle.ospf_lsa.specs.declared.fault.LsaFault.{LsaFault}
use Rattle.ospf_notes.specs.Faulty.{FindsFault}
use Rattle.ospf_notes.proofs.faulty.first_fault.Given as goal

abbrev pub invariant-loop-lsa : goal.invariant-loop-lsa
invariant-loop-lsa l =
    (goal.iterator-loop-lsa).can_next l.lsa-iterator ×
    (goal.iterator-loop-lsa).is_finite l.lsa-iterator ×
    ((r : Option LsaFault) → FindsFault l.lsa-iterator r → FindsFault l.fn.lsas r)
