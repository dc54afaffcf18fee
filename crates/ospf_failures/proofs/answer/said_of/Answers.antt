use Rattle.std.proofs.Common.{◌∙◌, ◌≢◌, [], List, String, ap, subst, sym}
use Rattle.std.specs.declared.alloc.Global.{Global}
use Rattle.ospf_graph.specs.EdgeLists.Listed.{advertisements_of}
use Rattle.ospf_failures.specs.Answer.{IsRebuilding, names_of}
use Rattle.ospf_failures.specs.Without.{IsFaultOfNames, IsFirstUnnamed}
use Rattle.ospf_failures.proofs.answer.said_of.Goals as goal

pub returns-in-Err-clause-fault : goal.returns-in-Err-clause-fault
returns-in-Err-clause-fault g c =
    subst (λ (ns : List (String Global)). IsFaultOfNames (IsFirstUnnamed (advertisements_of c.args.listing) ns) c.in-Err.fault)
    (c.deref.ensures.value ∙ sym (ap names_of c.in-Without.is)) c.in-Err.ensures.fault

pub text_without-requires : goal.text_without-requires
text_without-requires g c = λ some.
    c.requires (subst IsRebuilding (sym c.in-Without.is) (subst (λ (ns : List (String Global)). ns ≢ []) c.deref.ensures.value some))

pub changes_in_threads-requires-clause-small : goal.changes_in_threads-requires-clause-small
changes_in_threads-requires-clause-small g c κs within = λ direct. c.requires (subst IsRebuilding (sym c.in-Root.is) direct)

pub overalls_said-requires-clause-small : goal.overalls_said-requires-clause-small
overalls_said-requires-clause-small g c κs within = λ direct. c.requires (subst IsRebuilding (sym c.in-All.is) direct)
