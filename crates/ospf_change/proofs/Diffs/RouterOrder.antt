-- The order of Router IDs, as `cmp` says it.
use Rattle.std.proofs.Common.{◌≡◌, ◌<◌, ℕ, List, [], ◌∷◌, true, refl, arith, Ordering, Less, Equal, Greater, nat_cmp}
use Rattle.std.specs.Ordering.{MatchOrdering, is_eq}
use Rattle.std.specs.List.{AllByRecursion, AllPairs}
use Rattle.std.specs.List.Sorted.{IsStrictlySortedBy}
use Rattle.std.proofs.lemmas.Cmp.{ranked}
use Rattle.std.proofs.lemmas.List.Elements.{All-from_recursion}
use Rattle.std.proofs.lemmas.List.Kept.{AllPairs-cons}
use Rattle.ospf_base.specs.declared.ids.RouterId.{RouterId}
use Rattle.ospf_base.specs.contracts.ids.RouterIdOrd.TheImpl.{ghosts}
use Rattle.ospf_base.specs.contracts.ids.RouterIdOrd.TheImpl.Laws.{matches_eq-law}
use Rattle.ospf_base.specs.contracts.ids.RouterIdPartialEq.TheImpl as routers

-- what the answer o says of two routers
abbrev Ranks : RouterId → RouterId → Ordering → Type 0
Ranks r s o = MatchOrdering o (r.0 < s.0) (r.0 ≡ s.0) (s.0 < r.0)

routers_rank : (r s : RouterId) → Ranks r s (ghosts.cmp r s)
routers_rank r s = ranked r.0 s.0 _ refl

is_less : (r s : RouterId) (o : Ordering) → Ranks r s o → o ≡ Less → r.0 < s.0
is_less r s Less h e = h
is_less r s Equal h e = cc
is_less r s Greater h e = cc

all_behind : (r : RouterId) (ss : List RouterId) → AllByRecursion (λ s. ghosts.cmp r s ≡ Less) ss → AllByRecursion (λ s. r.0 < s.0) ss
all_behind r [] all = tt
all_behind r (s ∷ ss) all = (is_less r s _ (routers_rank r s) all.0, all_behind r ss all.1)

-- what is sorted, each once, is in order
pub routers_rise : (rs : List RouterId) → IsStrictlySortedBy ghosts.cmp rs → AllPairs (λ r s. r.0 < s.0) rs
unfolding IsStrictlySortedBy
routers_rise [] sorted = λ i j d less lt. absurd (omega arith)
routers_rise (r ∷ rs) sorted =
    AllPairs-cons (λ (r s : RouterId). r.0 < s.0) r rs (All-from_recursion (λ (s : RouterId). r.0 < s.0) rs (all_behind r rs sorted.0)) (routers_rise rs sorted.1)

of_equal : (r s : RouterId) (o : Ordering) → Ranks r s o → is_eq o ≡ true → r ≡ s
of_equal r s Less h e = cc
of_equal r s Equal h e = λ i. record { 0 = h i }
of_equal r s Greater h e = cc

-- when `==` says that two routers are one
pub router_same : (r s : RouterId) → routers.eq-value.it r s ≡ true → r ≡ s
router_same r s e = of_equal r s _ (routers_rank r s) (rw (← matches_eq-law r s) e)
