use Rattle.std.proofs.Common.{◌≡◌, true, subst}
use Rattle.ospf_base.specs.declared.ids.Instance.{Instance}
use Rattle.ospf_base.specs.Instances.{same_instance}
use Rattle.ospf_base.proofs.SameKeys.{same_instance-eq, same_instance-refl}
use Rattle.ospf_base.proofs.laws.same_instances_are_equal.Goals as goal

pub returns : goal.returns
returns c = λ a b. (same_instance-eq a b, λ e. subst (λ (i : Instance). same_instance a i ≡ true) e (same_instance-refl a))
