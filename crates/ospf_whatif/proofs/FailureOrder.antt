-- The order of failures, as `cmp` tells it.
use Rattle.std.proofs.Common.{◌≡◌, ◌<◌, ℕ, List, [], ◌∷◌, true, refl, sym, ap, inl, inr, arith, Ordering, Less, Equal, Greater, nat_cmp}
use Rattle.std.specs.Ordering.{MatchOrdering, is_eq, ordering_then}
use Rattle.std.specs.List.{AllByRecursion, AllPairs}
use Rattle.std.specs.List.Sorted.{IsStrictlySortedBy}
use Rattle.std.proofs.lemmas.Cmp.{ranked}
use Rattle.std.proofs.lemmas.List.Elements.{All-from_recursion}
use Rattle.std.proofs.lemmas.List.Kept.{AllPairs-cons}
use Rattle.ospf_base.specs.declared.ids.RouterId.{RouterId}
use Rattle.ospf_base.specs.declared.prefix.Prefix.{Prefix}
use Rattle.ospf_base.specs.Prefixes.{IsPrefixBefore}
use Rattle.ospf_spf.proofs.PrefixOrder.{prefix_cmp, prefixes_told}
use Rattle.ospf_whatif.specs.Single.{IsFailureBefore}
use Rattle.ospf_whatif.specs.declared.failure.AreaFailure.{AreaFailure}
use Rattle.ospf_whatif.specs.declared.failure.AreaFailure.TheVariants.{Attachment, End, Link, Links, Network, Router, Stub}
use Rattle.ospf_whatif.specs.contracts.failure.AreaFailureOrd.TheImpl.{ghosts}
use Rattle.ospf_whatif.specs.contracts.failure.AreaFailureOrd.TheImpl.Laws.{matches_eq-law}
use Rattle.ospf_whatif.specs.contracts.failure.AreaFailurePartialEq.TheImpl as failures

-- what the answer o says of two numbers
abbrev Tells : ℕ → ℕ → Ordering → Type 0
Tells a b o = MatchOrdering o (a < b) (a ≡ b) (b < a)

tells : (a b : ℕ) → Tells a b (nat_cmp a b)
tells a b = ranked a b _ refl

-- and of two failures
abbrev Ranks : AreaFailure → AreaFailure → Ordering → Type 0
Ranks f g o = MatchOrdering o (IsFailureBefore f g) (f ≡ g) (IsFailureBefore g f)

router : (a b : RouterId) → a.0 ≡ b.0 → a ≡ b
router a b e = λ i. record { 0 = e i }

links_of : (a c b d : RouterId) (p q : Prefix) (x y z : Ordering) → Tells a.0 c.0 x → Tells b.0 d.0 y → MatchOrdering z (IsPrefixBefore p q) (p ≡ q) (IsPrefixBefore q p)
    → Ranks (Link a b p) (Link c d q) (ordering_then x (ordering_then y z))
links_of a c b d p q Less y z s t u = inl s
links_of a c b d p q Greater y z s t u = inl s
links_of a c b d p q Equal Less z s t u = inr (s, inl t)
links_of a c b d p q Equal Greater z s t u = inr (sym s, inl t)
links_of a c b d p q Equal Equal Less s t u = inr (s, inr (t, u))
links_of a c b d p q Equal Equal Equal s t u = λ i. Link (router a c s i) (router b d t i) (u i)
links_of a c b d p q Equal Equal Greater s t u = inr (sym s, inr (sym t, u))

ends_of : (a c b d : RouterId) (p q : Prefix) (x y z : Ordering) → Tells a.0 c.0 x → Tells b.0 d.0 y → MatchOrdering z (IsPrefixBefore p q) (p ≡ q) (IsPrefixBefore q p)
    → Ranks (End a b p) (End c d q) (ordering_then x (ordering_then y z))
ends_of a c b d p q Less y z s t u = inl s
ends_of a c b d p q Greater y z s t u = inl s
ends_of a c b d p q Equal Less z s t u = inr (s, inl t)
ends_of a c b d p q Equal Greater z s t u = inr (sym s, inl t)
ends_of a c b d p q Equal Equal Less s t u = inr (s, inr (t, u))
ends_of a c b d p q Equal Equal Equal s t u = λ i. End (router a c s i) (router b d t i) (u i)
ends_of a c b d p q Equal Equal Greater s t u = inr (sym s, inr (sym t, u))

all_links_of : (a c b d : RouterId) (x y : Ordering) → Tells a.0 c.0 x → Tells b.0 d.0 y → Ranks (Links a b) (Links c d) (ordering_then x y)
all_links_of a c b d Less y s t = inl s
all_links_of a c b d Greater y s t = inl s
all_links_of a c b d Equal Less s t = inr (s, t)
all_links_of a c b d Equal Equal s t = λ i. Links (router a c s i) (router b d t i)
all_links_of a c b d Equal Greater s t = inr (sym s, t)

attachments_of : (r s : RouterId) (n m : ℕ) (x y : Ordering) → Tells r.0 s.0 x → Tells n m y → Ranks (Attachment r n) (Attachment s m) (ordering_then x y)
attachments_of r s n m Less y t u = inl t
attachments_of r s n m Greater y t u = inl t
attachments_of r s n m Equal Less t u = inr (t, u)
attachments_of r s n m Equal Equal t u = λ i. Attachment (router r s t i) (u i)
attachments_of r s n m Equal Greater t u = inr (sym t, u)

networks_of : (n m : ℕ) (x : Ordering) → Tells n m x → Ranks (Network n) (Network m) x
networks_of n m Less t = t
networks_of n m Equal t = ap (λ k. Network k) t
networks_of n m Greater t = t

routers_of : (r s : RouterId) (x : Ordering) → Tells r.0 s.0 x → Ranks (Router r) (Router s) x
routers_of r s Less t = t
routers_of r s Equal t = ap (λ k. Router k) (router r s t)
routers_of r s Greater t = t

stubs_of : (r s : RouterId) (p q : Prefix) (x y : Ordering) → Tells r.0 s.0 x → MatchOrdering y (IsPrefixBefore p q) (p ≡ q) (IsPrefixBefore q p)
    → Ranks (Stub r p) (Stub s q) (ordering_then x y)
stubs_of r s p q Less y t u = inl t
stubs_of r s p q Greater y t u = inl t
stubs_of r s p q Equal Less t u = inr (t, u)
stubs_of r s p q Equal Equal t u = λ i. Stub (router r s t i) (u i)
stubs_of r s p q Equal Greater t u = inr (sym t, u)

-- `cmp` tells the order
failures_rank : (f g : AreaFailure) → Ranks f g (ghosts.cmp f g)
failures_rank (Link a b p) (Link c d q) =
    links_of a c b d p q (nat_cmp a.0 c.0) (nat_cmp b.0 d.0) (prefix_cmp p q) (tells a.0 c.0) (tells b.0 d.0) (prefixes_told.ranks p q)
failures_rank (End a b p) (End c d q) =
    ends_of a c b d p q (nat_cmp a.0 c.0) (nat_cmp b.0 d.0) (prefix_cmp p q) (tells a.0 c.0) (tells b.0 d.0) (prefixes_told.ranks p q)
failures_rank (Links a b) (Links c d) = all_links_of a c b d (nat_cmp a.0 c.0) (nat_cmp b.0 d.0) (tells a.0 c.0) (tells b.0 d.0)
failures_rank (Attachment r n) (Attachment s m) = attachments_of r s n m (nat_cmp r.0 s.0) (nat_cmp n m) (tells r.0 s.0) (tells n m)
failures_rank (Network n) (Network m) = networks_of n m (nat_cmp n m) (tells n m)
failures_rank (Router r) (Router s) = routers_of r s (nat_cmp r.0 s.0) (tells r.0 s.0)
failures_rank (Stub r p) (Stub s q) = stubs_of r s p q (nat_cmp r.0 s.0) (prefix_cmp p q) (tells r.0 s.0) (prefixes_told.ranks p q)
failures_rank f g = omega arith

before_less : (f g : AreaFailure) (o : Ordering) → Ranks f g o → o ≡ Less → IsFailureBefore f g
before_less f g Less r e = r
before_less f g Equal r e = cc
before_less f g Greater r e = cc

all_before : (f : AreaFailure) (gs : List AreaFailure) → AllByRecursion (λ g. ghosts.cmp f g ≡ Less) gs → AllByRecursion (λ g. IsFailureBefore f g) gs
all_before f [] all = tt
all_before f (g ∷ gs) all = (before_less f g _ (failures_rank f g) all.0, all_before f gs all.1)

-- what is sorted, each once, is in order
pub failures_rise : (fs : List AreaFailure) → IsStrictlySortedBy ghosts.cmp fs → AllPairs IsFailureBefore fs
unfolding IsStrictlySortedBy
failures_rise [] sorted = λ i j d less lt. absurd (omega arith)
failures_rise (f ∷ fs) sorted = AllPairs-cons IsFailureBefore f fs (All-from_recursion (IsFailureBefore f) fs (all_before f fs sorted.0)) (failures_rise fs sorted.1)

of_equal : (f g : AreaFailure) (o : Ordering) → Ranks f g o → is_eq o ≡ true → f ≡ g
of_equal f g Less r e = cc
of_equal f g Equal r e = r
of_equal f g Greater r e = cc

-- when `==` says that two failures are one
pub failure_same : (f g : AreaFailure) → failures.eq-value.it f g ≡ true → f ≡ g
failure_same f g e = of_equal f g _ (failures_rank f g) (rw (← matches_eq-law f g) e)
