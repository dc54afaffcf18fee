use Rattle.std.proofs.Common.{List, inr, sym, subst}
use Rattle.ospf_graph.specs.declared.edges.end.End.{End}
use Rattle.ospf_router.specs.Growing.{HasEndOf}
use Rattle.ospf_router.proofs.growing.touch_own.Goals as goal

pub returns-clause-own : goal.returns-clause-own
returns-clause-own c = λ p free. inr (
  (λ m. free (c.in_ok-touch-2.ensures.kept p (c.in_ok-touch.ensures.ends p (subst (λ (es : List End). HasEndOf es p) (sym c.deref-3.ensures.value) m)))),
  (λ m. free (c.in_ok-touch-2.ensures.ends p (subst (λ (es : List End). HasEndOf es p) (sym c.deref-4.ensures.value) m))),
)
