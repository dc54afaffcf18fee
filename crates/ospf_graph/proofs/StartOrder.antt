-- When `==` says that two starts are one.
use Rattle.std.proofs.Common.{◌≡◌, ◌==◌, true, refl, ap, inl, inr, Decides, Ordering, Less, Equal, Greater}
use Rattle.std.specs.Ordering.{is_eq}
use Rattle.std.proofs.lemmas.Bool.Decides.{eqb_tells}
use Rattle.ospf_base.specs.declared.ids.Addr.{Addr}
use Rattle.ospf_graph.specs.declared.hop.NextHop.{NextHop}
use Rattle.ospf_graph.specs.declared.graph.Start.{Start}
use Rattle.ospf_graph.specs.declared.graph.Start.TheVariants.{Here, OnNetwork, Hop}
use Rattle.ospf_graph.specs.contracts.hop.NextHopOrd.TheImpl.Laws.{matches_eq-law}
use Rattle.ospf_graph.specs.contracts.hop.NextHopPartialEq.TheImpl as hops
use Rattle.ospf_graph.specs.contracts.graph.StartEq.TheImpl.Laws.{laws-law}
use Rattle.ospf_graph.specs.contracts.graph.StartPartialEq.TheImpl as starts
use Rattle.ospf_graph.proofs.HopOrder.{Ranks, hops_told}

address_same : (k l : Addr) → (k.0 == l.0) ≡ true → k ≡ l
address_same k l e = elim (eqb_tells k.0 l.0) [ inl w ↦ (λ i. record { 0 = w.1 i }) | inr w ↦ cc ]

of_equal : (g h : NextHop) (o : Ordering) → Ranks g h o → is_eq o ≡ true → g ≡ h
of_equal g h Less r e = cc
of_equal g h Equal r e = r
of_equal g h Greater r e = cc

pub hop_same : (g h : NextHop) → hops.eq-value.it g h ≡ true → g ≡ h
hop_same g h e = of_equal g h _ (hops_told.ranks g h) (rw (← matches_eq-law g h) e)

pub start_same : (x y : Start) → starts.eq-value.it x y ≡ true → x ≡ y
start_same Here Here e = refl
start_same Here (OnNetwork _) e = cc
start_same Here (Hop _) e = cc
start_same (OnNetwork _) Here e = cc
start_same (OnNetwork k) (OnNetwork l) e = ap (λ a. OnNetwork a) (address_same k l e)
start_same (OnNetwork _) (Hop _) e = cc
start_same (Hop _) Here e = cc
start_same (Hop _) (OnNetwork _) e = cc
start_same (Hop g) (Hop h) e = ap (λ z. Hop z) (hop_same g h e)

start_told : (x y : Start) → x ≡ y → starts.eq-value.it x y ≡ true
start_told x y same = rw same (laws-law.refl y)

-- what `==` says of two starts
pub starts_decide : (x y : Start) → Decides (starts.eq-value.it x y) (x ≡ y)
starts_decide x y = (start_same x y, start_told x y)
