use Rattle.std.proofs.Common.{◌≡◌, true, subst}
use Rattle.ospf_base.specs.declared.ids.LsaKey.{LsaKey}
use Rattle.ospf_base.specs.Keys.{same_key}
use Rattle.ospf_base.proofs.SameKeys.{same_key-eq, same_key-refl}
use Rattle.ospf_base.proofs.laws.same_keys_are_equal.Goals as goal

pub returns : goal.returns
returns c = λ a b. (same_key-eq a b, λ e. subst (λ (k : LsaKey). same_key a k ≡ true) e (same_key-refl a))
