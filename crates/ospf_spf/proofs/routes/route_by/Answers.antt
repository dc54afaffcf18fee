use Rattle.std.proofs.Common.{List, sym, subst}
use Rattle.std.specs.List.{Contains}
use Rattle.ospf_spf.specs.Reach.{IsBestCost}
use Rattle.ospf_spf.specs.declared.routes.Reach.{Reach}
use Rattle.ospf_spf.proofs.routes.route_by.Goals as goal

pub returns-in_default-clause-none : goal.returns-in_default-clause-none
returns-in_default-clause-none g c = λ r of same.
    c.in_default.ensures r.vertex r.cost
    (subst (λ (rs : List Reach). Contains rs (record { prefix = c.args.prefix; vertex = r.vertex; cost = r.cost })) (sym c.deref.ensures.value)
    (subst (λ x. Contains c.in_ok-reaches.reaches.items x) (λ i. record { prefix = same i; vertex = r.vertex; cost = r.cost }) ((c.in_ok-reaches.ensures r).1 of)))

pub returns-clause-route : goal.returns-clause-route
returns-clause-route g c =
    record {
      reaches = c.in_ok-reaches.reaches.items;
      reaches_are = c.in_ok-reaches.ensures;
      route_is = record {
        cost = subst (λ (rs : List Reach). IsBestCost rs c.args.prefix c.in-Some.cost) c.deref.ensures.value c.in-Some.ensures;
        hops = rw c.deref-2.ensures.value at c.in_ok-hops.ensures;
      };
    }
