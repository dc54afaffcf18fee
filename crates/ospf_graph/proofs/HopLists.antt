-- Hops that are sorted, each once.
use Rattle.std.proofs.Common.{◌≡◌, List, [], ◌∷◌, Ordering, Less, Equal, Greater, arith}
use Rattle.std.specs.List.{AllByRecursion, AllPairs}
use Rattle.std.specs.List.Sorted.{IsStrictlySortedBy}
use Rattle.std.proofs.lemmas.List.Elements.{All-from_recursion}
use Rattle.std.proofs.lemmas.List.Kept.{AllPairs-cons}
use Rattle.ospf_graph.specs.contracts.hop.NextHopOrd.TheImpl.{ghosts}
use Rattle.ospf_graph.specs.Hops.{IsHopBefore}
use Rattle.ospf_graph.specs.declared.hop.NextHop.{NextHop}
use Rattle.ospf_graph.proofs.HopOrder.{Ranks, hops_told}

before_less : (g h : NextHop) (o : Ordering) → Ranks g h o → o ≡ Less → IsHopBefore g h
before_less g h Less r e = r
before_less g h Equal r e = cc
before_less g h Greater r e = cc

all_before : (g : NextHop) (hs : List NextHop) → AllByRecursion (λ h. ghosts.cmp g h ≡ Less) hs → AllByRecursion (λ h. IsHopBefore g h) hs
all_before g [] all = tt
all_before g (h ∷ hs) all = (before_less g h _ (hops_told.ranks g h) all.0, all_before g hs all.1)

pub hops_rise : (hs : List NextHop) → IsStrictlySortedBy ghosts.cmp hs → AllPairs IsHopBefore hs
unfolding IsStrictlySortedBy
hops_rise [] sorted = λ i j d less lt. absurd (omega arith)
hops_rise (h ∷ hs) sorted = AllPairs-cons IsHopBefore h hs (All-from_recursion (IsHopBefore h) hs (all_before h hs sorted.0)) (hops_rise hs sorted.1)
