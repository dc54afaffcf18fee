-- Routes whose costs and hops are equal.
use Rattle.std.proofs.Common.{◌≡◌, ◌==◌, ◌&&◌, refl, ap, Decides}
use Rattle.std.proofs.lemmas.Bool.Decides.{Decides-and, Decides-eqb, Decides-like}
use Rattle.ospf_base.specs.declared.ids.Addr.{Addr}
use Rattle.ospf_base.specs.declared.ids.RouterId.{RouterId}
use Rattle.ospf_graph.specs.declared.hop.NextHop.{NextHop}
use Rattle.ospf_graph.specs.declared.hop.NextHop.TheVariants.{Attached, PointToPoint, Lan}
use Rattle.ospf_graph.specs.declared.route.Route.{Route}
use Rattle.ospf_graph.specs.contracts.hop.NextHopPartialEq.TheImpl.{eq-value}

address_is : (k l : Addr) → k.0 ≡ l.0 → k ≡ l
address_is k l e = λ i. record { 0 = e i }

pub router_is : (k l : RouterId) → k.0 ≡ l.0 → k ≡ l
router_is k l e = λ i. record { 0 = e i }

-- what `==` says of two hops
pub hops_decide : (x y : NextHop) → Decides (eq-value.it x y) (x ≡ y)
hops_decide Attached Attached = ((λ _. refl), λ _. refl)
hops_decide Attached (PointToPoint _ _) = ((λ e. cc), λ e. cc)
hops_decide Attached (Lan _ _ _) = ((λ e. cc), λ e. cc)
hops_decide (PointToPoint _ _) Attached = ((λ e. cc), λ e. cc)
hops_decide (PointToPoint k q) (PointToPoint l r) =
    Decides-like ((k.0 == l.0) && (q.0 == r.0))
    (λ e. let a = address_is k l e.0 in let b = router_is q r e.1 in cc)
    (λ e. let a : k ≡ l = cc in let b : q ≡ r = cc in (ap (λ x. x.0) a, ap (λ x. x.0) b))
    (Decides-and (k.0 == l.0) (q.0 == r.0) (Decides-eqb k.0 l.0) (Decides-eqb q.0 r.0))
hops_decide (PointToPoint _ _) (Lan _ _ _) = ((λ e. cc), λ e. cc)
hops_decide (Lan _ _ _) Attached = ((λ e. cc), λ e. cc)
hops_decide (Lan _ _ _) (PointToPoint _ _) = ((λ e. cc), λ e. cc)
hops_decide (Lan k q a) (Lan l r b) =
    Decides-like ((k.0 == l.0) && ((q.0 == r.0) && (a.0 == b.0)))
    (λ e. let x = address_is k l e.0 in let y = router_is q r e.1.0 in let z = address_is a b e.1.1 in cc)
    (λ e. let x : k ≡ l = cc in let y : q ≡ r = cc in let z : a ≡ b = cc in (ap (λ x. x.0) x, (ap (λ x. x.0) y, ap (λ x. x.0) z)))
    (Decides-and (k.0 == l.0) ((q.0 == r.0) && (a.0 == b.0)) (Decides-eqb k.0 l.0) (Decides-and (q.0 == r.0) (a.0 == b.0) (Decides-eqb q.0 r.0) (Decides-eqb a.0 b.0)))

pub route_same : (a b : Route) → a.prefix ≡ b.prefix → a.cost ≡ b.cost → a.hops ≡ b.hops → a ≡ b
route_same a b e f g = λ i. record { prefix = e i; cost = f i; hops = g i }
