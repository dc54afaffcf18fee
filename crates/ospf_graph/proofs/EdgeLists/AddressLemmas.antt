-- First addresses, by links that come one after the other.
use Rattle.std.proofs.Common.{◌≡◌, ◌<◌, ◌^◌, ◌+◌, ℕ, true, cond, eqb, eqb-true, eq-eqb, ◌⊎◌, List, [], ◌∷◌, ◌++◌, Option, Some, None, length, map, take, get_or, refl, sym, ◌∙◌, ap, subst, inl, inr, arith, append-nil, append_assoc}
use Rattle.std.specs.Option.{option_or, option_map}
use Rattle.std.specs.Prelude.{MatchOption, IfSome, IfNone}
use Rattle.std.specs.List.{Contains, find}
use Rattle.std.proofs.lemmas.List.Folds.{find-append}
use Rattle.ospf_base.specs.declared.ids.RouterId.{RouterId}
use Rattle.ospf_base.specs.Bytes.{number_at}
use Rattle.ospf_lsa.specs.declared.link.Link.{Link}
use Rattle.ospf_lsa.specs.Lsa.{IsRouterLsa, IsNetworkLsa, links_of}
use Rattle.ospf_lsa.specs.Listing.{IsListing}
use Rattle.ospf_graph.specs.Advertisements.{Advertisement, router_lsa, network_lsa, transit_address, is_transit_to, IsAddressOn}
use Rattle.ospf_graph.specs.Pairs.{pair_code}
use Rattle.ospf_graph.proofs.ListLemmas.{bool_cases, member_cases, member_head, member_later}
use Rattle.ospf_graph.specs.EdgeLists.Addresses.{AddsAddresses, AddsTold, own_address_by, links_by}
use Rattle.ospf_graph.specs.EdgeLists.Index.{AreAddressesOn}
use Rattle.ospf_graph.specs.EdgeLists.Listed.{advertisement_of, advertisements_of}
use Rattle.ospf_graph.proofs.EdgeLists.GivenLemmas.{told_more}
use Rattle.ospf_graph.proofs.EdgeLists.ListedLemmas.{router_of, network_of, router_in, router_only}

-- of each router and network the first address
abbrev pub AreAddresses : List Advertisement → (ℕ → Option ℕ) → Type 0
AreAddresses adverts address =
    (r : RouterId) (n : ℕ) → n < 2 ^ 32
    → address (pair_code r.0 n) ≡ transit_address n (links_by r adverts)

map_or : {X Y : Type 0} (f : X → Y) (a b : Option X) → option_map f (option_or a b) ≡ option_or (option_map f a) (option_map f b)
map_or f None b = refl
map_or f (Some x) b = refl

or_assoc : {X : Type 0} (a b c : Option X) → option_or (option_or a b) c ≡ option_or a (option_or b c)
or_assoc None b c = refl
or_assoc (Some x) b c = refl

or_none : {X : Type 0} (a : Option X) → option_or a None ≡ a
or_none None = refl
or_none (Some x) = refl

pub transit-append : (n : ℕ) (xs ys : List Link) → transit_address n (xs ++ ys) ≡ option_or (transit_address n xs) (transit_address n ys)
transit-append n xs ys =
    ap (λ o. option_map (λ (l : Link). l.link_data) o) (find-append (is_transit_to n) xs ys) ∙ map_or (λ (l : Link). l.link_data) (find (is_transit_to n) xs) (find (is_transit_to n) ys)

address_by-append : (router : RouterId) (xs ys : List Link) (r : RouterId) (n : ℕ)
    → own_address_by router (xs ++ ys) r n ≡ option_or (own_address_by router xs r n) (own_address_by router ys r n)
address_by-append router xs ys r n =
    elim (bool_cases (eqb router.0 r.0)) [ inl t ↦ rw t (transit-append n xs ys) | inr f ↦ rw f refl ]

-- no link yet
pub adds_nothing : (router : RouterId) (old : ℕ → Option ℕ) → AddsAddresses router [] old old
adds_nothing router old r n low = elim (bool_cases (eqb router.0 r.0)) [ inl t ↦ rw t (sym (or_none (old (pair_code r.0 n)))) | inr f ↦ rw f (sym (or_none (old (pair_code r.0 n)))) ]

-- one more
pub adds_link : (router : RouterId) (xs : List Link) (l : Link) (old mid new : ℕ → Option ℕ) → AddsAddresses router xs old mid → AddsAddresses router (l ∷ []) mid new
    → AddsAddresses router (xs ++ l ∷ []) old new
adds_link router xs l old mid new before here r n low =
    here r n low ∙ ap (λ o. option_or o (own_address_by router (l ∷ []) r n)) (before r n low)
    ∙ or_assoc (old (pair_code r.0 n)) (own_address_by router xs r n) (own_address_by router (l ∷ []) r n)
    ∙ ap (λ o. option_or (old (pair_code r.0 n)) o) (sym (address_by-append router xs (l ∷ []) r n))

-- ---- of an LSA

links_by_one : (r q : RouterId) (links : List Link) (n : ℕ) → own_address_by q links r n ≡ transit_address n (links_by r (router_lsa q links ∷ []))
links_by_one r q links n = elim (bool_cases (eqb q.0 r.0)) [ inl t ↦ rw t (ap (λ ls. transit_address n ls) (sym (append-nil links))) | inr f ↦ rw f refl ]

pub told_router : (lsa : List ℕ) (router : RouterId) (links : List Link) (old new : ℕ → Option ℕ) → IsRouterLsa lsa → router.0 ≡ number_at 8 4 lsa → links ≡ links_of lsa
    → AddsAddresses router links old new → AddsTold (advertisement_of lsa) old new
told_router lsa router links old new is names links_are adds =
    let at : router_lsa router links ≡ advertisement_of lsa = (λ i. router_lsa (record { 0 = names i }) (links_are i)) ∙ sym (router_of lsa is) in
    subst (λ x. AddsTold x old new) at (λ r n low. adds r n low ∙ ap (λ o. option_or (old (pair_code r.0 n)) o) (links_by_one r router links n))

pub told_network : (lsa : List ℕ) (old : ℕ → Option ℕ) → IsNetworkLsa lsa → AddsTold (advertisement_of lsa) old old
told_network lsa old is =
    subst (λ x. AddsTold x old old) (sym (network_of lsa is)) (λ r n low. sym (or_none (old (pair_code r.0 n))))

-- ---- of all

links_by-append : (r : RouterId) (A B : List Advertisement) → links_by r (A ++ B) ≡ links_by r A ++ links_by r B
links_by-append r [] B = refl
links_by-append r (router_lsa q links ∷ rest) B =
    elim (bool_cases (eqb q.0 r.0)) [
      | inl t ↦ rw t (ap (λ l. links ++ l) (links_by-append r rest B) ∙ sym (append_assoc links (links_by r rest) (links_by r B)))
      | inr f ↦ rw f (links_by-append r rest B)
    ]
links_by-append r (network_lsa n q mask attached ∷ rest) B = links_by-append r rest B

pub told_next : (lsas : List (List ℕ)) (i : ℕ) (x : List ℕ) → i < length lsas → x ≡ get_or lsas i x → (mid new : ℕ → Option ℕ)
    → ((r : RouterId) (n : ℕ) → n < 2 ^ 32 → mid (pair_code r.0 n) ≡ transit_address n (links_by r (map advertisement_of (take i lsas))))
    → AddsTold (advertisement_of x) mid new
    → (r : RouterId) (n : ℕ) → n < 2 ^ 32 → new (pair_code r.0 n) ≡ transit_address n (links_by r (map advertisement_of (take (i + 1) lsas)))
told_next lsas i x lt is mid new before here r n low =
    let so_far = map advertisement_of (take i lsas) in
    let one = advertisement_of x ∷ [] in
    here r n low ∙ ap (λ o. option_or o (transit_address n (links_by r one))) (before r n low)
    ∙ sym (transit-append n (links_by r so_far) (links_by r one)) ∙ ap (λ l. transit_address n l) (sym (links_by-append r so_far one))
    ∙ ap (λ l. transit_address n (links_by r l)) (sym (told_more lsas i x lt is))

-- ---- what they say

same_router : (q r : RouterId) → eqb q.0 r.0 ≡ true → q ≡ r
same_router q r t = let same : q.0 ≡ r.0 = eqb-true q.0 r.0 t in λ i. record { 0 = same i }

or_some : {X : Type 0} (a b : Option X) (x : X) → option_or a b ≡ Some x → (a ≡ Some x) ⊎ (b ≡ Some x)
or_some None b x e = inr e
or_some (Some y) b x e = inl e

or_nothing : {X : Type 0} (a b : Option X) → option_or a b ≡ None → (a ≡ None) × (b ≡ None)
or_nothing None b e = (refl, e)
or_nothing (Some y) b e = cc

pub says_address : (A : List Advertisement) (r : RouterId) (n a : ℕ) → transit_address n (links_by r A) ≡ Some a → IsAddressOn A n r a
says_address [] r n a e = cc
says_address (router_lsa q links ∷ rest) r n a e =
    elim (or_some (transit_address n (cond (eqb q.0 r.0) links [])) (transit_address n (links_by r rest)) a (sym (transit-append n (cond (eqb q.0 r.0) links []) (links_by r rest)) ∙ e)) [
      | inl here ↦ elim (bool_cases (eqb q.0 r.0)) [
        | inl t ↦ record { links = links; listed = rw (same_router q r t) (member_head (router_lsa r links) rest); first = rw t at here }
        | inr f ↦ (let none : transit_address n [] ≡ Some a = rw f at here in cc)
      ]
      | inr later ↦ (let ih = says_address rest r n a later in record { links = ih.links; listed = member_later (router_lsa q links) rest _ ih.listed; first = ih.first })
    ]
says_address (network_lsa m q mask attached ∷ rest) r n a e =
    let ih = says_address rest r n a e in
    record { links = ih.links; listed = member_later (network_lsa m q mask attached) rest _ ih.listed; first = ih.first }

none_listed : (A : List Advertisement) (r : RouterId) (n : ℕ) (links : List Link) → Contains A (router_lsa r links) → transit_address n (links_by r A) ≡ None → transit_address n links ≡ None
none_listed [] r n links m e = absurd (let few = m.1 in omega arith)
none_listed (router_lsa q others ∷ rest) r n links m e =
    let both = or_nothing (transit_address n (cond (eqb q.0 r.0) others [])) (transit_address n (links_by r rest)) (sym (transit-append n (cond (eqb q.0 r.0) others []) (links_by r rest)) ∙ e) in
    elim (member_cases (router_lsa q others) rest _ m) [
      | inl same ↦
          let one : q ≡ r = cc in
          let is : others ≡ links = cc in
          let t : eqb q.0 r.0 ≡ true = eq-eqb q.0 r.0 (ap (λ (x : RouterId). x.0) one) in
          rw (← is) (rw t at both.0)
      | inr later ↦ none_listed rest r n links later both.1
    ]
none_listed (network_lsa k q mask attached ∷ rest) r n links m e =
    elim (member_cases (network_lsa k q mask attached) rest _ m) [ inl same ↦ cc | inr later ↦ none_listed rest r n links later e ]

pub says_none : (A : List Advertisement) (r : RouterId) (n : ℕ) → transit_address n (links_by r A) ≡ None → (a : ℕ) → IsAddressOn A n r a → ⊥
says_none A r n e a on = let none = none_listed A r n on.links on.listed e in let some = on.first in cc

-- a router has one LSA, so one first address
pub says_one : (lsas : List (List ℕ)) → IsListing lsas → (r : RouterId) (n a b : ℕ) → IsAddressOn (advertisements_of lsas) n r a → IsAddressOn (advertisements_of lsas) n r b → b ≡ a
says_one lsas is r n a b one two =
    let x = router_in lsas is r one.links one.listed in
    let same : two.links ≡ links_of x.0 = router_only lsas is r x.0 x.1.listed x.1.key two.links two.listed in
    let links : two.links ≡ one.links = same ∙ x.1.links_are in
    let there : Some b ≡ Some a = sym two.first ∙ ap (λ l. transit_address n l) links ∙ one.first in
    cc

pub addresses_on : (lsas : List (List ℕ)) → IsListing lsas → (address : ℕ → Option ℕ) → AreAddresses (advertisements_of lsas) address → AreAddressesOn (advertisements_of lsas) address
addresses_on lsas is address are r n low = by_value (address (pair_code r.0 n)) (are r n low)
  where
    by_value : (o : Option ℕ) → o ≡ transit_address n (links_by r (advertisements_of lsas))
        → MatchOption o ((a : ℕ) → IsAddressOn (advertisements_of lsas) n r a → ⊥)
        (λ a. IsAddressOn (advertisements_of lsas) n r a × ((b : ℕ) → IsAddressOn (advertisements_of lsas) n r b → b ≡ a))
    by_value None e = says_none (advertisements_of lsas) r n (sym e)
    by_value (Some a) e =
        let on = says_address (advertisements_of lsas) r n a (sym e) in
        (on, λ b other. says_one lsas is r n a b on other)

-- the parts of what an address says
module _ (N : Type 0) (P Q : ℕ → Type 0) where
  pub match_found : (o : Option ℕ) → MatchOption o N (λ a. P a × Q a) → IfSome o P
  match_found None h = tt
  match_found (Some a) h = h.0

  pub match_only : (o : Option ℕ) → MatchOption o N (λ a. P a × Q a) → IfSome o Q
  match_only None h = tt
  match_only (Some a) h = h.1

  pub match_none : (o : Option ℕ) → MatchOption o N (λ a. P a × Q a) → IfNone o N
  match_none None h = h
  match_none (Some a) h = tt
