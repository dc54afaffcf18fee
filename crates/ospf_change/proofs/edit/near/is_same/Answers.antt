use Rattle.std.proofs.Common.{◌≡◌, ◌∙◌, subst, sym, true}
use Rattle.ospf_whatif.specs.contracts.failure.AreaFailureEq.TheImpl.Laws.{laws-law}
use Rattle.ospf_whatif.specs.contracts.failure.AreaFailurePartialEq.TheImpl.{eq-value}
use Rattle.ospf_whatif.specs.declared.failure.AreaFailure.{AreaFailure}
use Rattle.ospf_whatif.proofs.FailureOrder.{failure_same}
use Rattle.ospf_change.proofs.edit.near.is_same.Goals as goal

pub returns : goal.returns
returns c = (
  λ e. failure_same c.args.a.now c.args.b.now (sym c.eq.ensures ∙ e),
  λ is. c.eq.ensures ∙ subst (λ (f : AreaFailure). eq-value.it c.args.a.now f ≡ true) is (laws-law.refl c.args.a.now),
)
