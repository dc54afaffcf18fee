use Rattle.std.proofs.Common.{◌≡◌, ℕ, List, subst, sym}
use Rattle.ospf_table.specs.Named.{IsNamed}
use Rattle.ospf_failures.proofs.WithoutLemmas.{fault_weaker}
use Rattle.ospf_failures.specs.Without.{IsUnnamedHere}
use Rattle.ospf_failures.proofs.without.named_one.Goals as goal

pub returns-in-None-clause-fault : goal.returns-in-None-clause-fault
returns-in-None-clause-fault c =
    let none = rw c.in-None.is at c.in_ok-failure.ensures.none in
    fault_weaker (λ n. n ≡ c.args.name.now) (IsUnnamedHere c.args.single.now c.args.name.now) c.unnamed.result
    (λ n is. (is, λ f m. none f (subst (λ (w : List ℕ). IsNamed c.args.single.now w f) (sym c.deref.ensures) m))) c.unnamed.ensures
