use Rattle.std.proofs.Common.{None, Some, subst, sym}
use Rattle.ospf_notes.specs.Faulty.{FindsFault}
use Rattle.ospf_notes.specs.Faulty.FindsFault.{none_is_left, is_found, passes_one}
use Rattle.ospf_notes.proofs.faulty.first_fault.Goals as goal

pub returns-in-Some-fault_of : goal.returns-in-Some-fault_of
returns-in-Some-fault_of c =
    c.loop-lsa.invariant.2 (Some c.in-Some-fault_of.fault)
    (subst (λ l. FindsFault l (Some c.in-Some-fault_of.fault)) (sym c.in-Some.ensures.steps)
    (is_found c.in-Some.lsa.now c.next.new.self c.in-Some-fault_of.fault c.in-Some-fault_of.ensures))

pub loop-lsa-preserved : goal.loop-lsa-preserved
loop-lsa-preserved c = (
  tt,
  tt,
  λ r rest. c.loop-lsa.invariant.2 r
      (subst (λ l. FindsFault l r) (sym c.in-Some.ensures.steps)
      (passes_one c.in-Some.lsa.now c.next.new.self r c.in_default.ensures rest)),
)

pub returns : goal.returns
returns c =
    c.loop-lsa.invariant.2 None
    (subst (λ l. FindsFault l None) (sym c.in-None.ensures.steps.0) none_is_left)
