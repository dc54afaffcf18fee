-- What the pairs of a listing say.
use Rattle.std.proofs.Common.{◌≡◌, ◌<◌, ◌^◌, ℕ, List, [], refl, sym, subst, inl, inr, arith}
use Rattle.std.specs.List.{Contains}
use Rattle.std.specs.List.Sorted.{IsPermutation}
use Rattle.std.proofs.lemmas.List.Sorted.{Contains-permutation, IsPermutation-sym}
use Rattle.ospf_base.specs.declared.ids.RouterId.{RouterId}
use Rattle.ospf_base.specs.Bytes.{number_at}
use Rattle.ospf_lsa.specs.Listing.{IsListing}
use Rattle.ospf_lsa.specs.Lsa.{IsRouterLsa, IsNetworkLsa, links_of}
use Rattle.ospf_lsa.specs.declared.link.LinkKind.{LinkKind}
use Rattle.ospf_graph.specs.Advertisements.{Advertisement, router_lsa, network_lsa, HasLink, IsAttached}
use Rattle.ospf_graph.specs.Pairs.{pair_code}
use Rattle.ospf_graph.proofs.ListLemmas.{member_of_map, member_to_map}
use Rattle.ospf_graph.specs.EdgeLists.Index.{AreBackLinks, AreMembers, LinksOf, MembersOf, NamedOn}
use Rattle.ospf_graph.specs.Adds.{Adds}
use Rattle.ospf_graph.specs.EdgeLists.Costs.{HasLinkTo}
use Rattle.ospf_graph.specs.EdgeLists.Given.{StandsFor}
use Rattle.ospf_graph.specs.EdgeLists.Listed.{advertisement_of, advertisements_of}
use Rattle.ospf_graph.proofs.EdgeLists.AddsLemmas.{GivenBy, adds_as, adds_none}
use Rattle.ospf_graph.proofs.EdgeLists.FitLemmas.{router_fits, network_fits}
use Rattle.ospf_graph.proofs.EdgeLists.GivenLemmas.{as_router, as_network}

module _ (A : List Advertisement) (n : ℕ) (router : RouterId) (mask : ℕ) (attached : List RouterId) where
  pub named_add : (old new : List ℕ) → StandsFor A n router → Adds (GivenBy (NamedOn n) attached) old new → Adds (MembersOf A (network_lsa n router mask attached)) old new
  named_add old new stands h =
      adds_as (GivenBy (NamedOn n) attached) (MembersOf A (network_lsa n router mask attached)) old new
      (λ q. ((λ g. (stands, g.0, g.1, g.2)), (λ g. (g.1, g.2, g.3)))) h

  pub none_named : (old : List ℕ) → (StandsFor A n router → ⊥) → Adds (MembersOf A (network_lsa n router mask attached)) old old
  none_named old not = adds_none (MembersOf A (network_lsa n router mask attached)) old (λ q g. not g.0)

-- pairs are told apart by their numbers
pair_first : (a b c d : ℕ) → b < 2 ^ 32 → d < 2 ^ 32 → pair_code a b ≡ pair_code c d → a ≡ c
pair_first a b c d low low' same = omega arith

pair_second : (a b c d : ℕ) → b < 2 ^ 32 → d < 2 ^ 32 → pair_code a b ≡ pair_code c d → b ≡ d
pair_second a b c d low low' same = omega arith

named : (r q : RouterId) → r.0 ≡ q.0 → r ≡ q
named r q same = λ i. record { 0 = same i }

module _ (lsas : List (List ℕ)) (is : IsListing lsas) (pairs list : List ℕ) (perm : IsPermutation list pairs) where
  abbrev A : List Advertisement
  A = advertisements_of lsas

  pub links_are : Adds (GivenBy (λ lsa. LinksOf (advertisement_of lsa)) lsas) [] list → AreBackLinks (advertisements_of lsas) pairs
  unfolding advertisements_of
  links_are adds from to low = (
    λ m. elim ((adds _).0 (Contains-permutation pairs list _ (IsPermutation-sym list pairs perm) m)) [
      | inl none ↦ absurd (let few = none.1 in omega arith)
      | inr g ↦ names (advertisement_of g.0) (member_to_map advertisement_of lsas g.0 g.1) g.2
    ],
    λ linked.
        let h = linked.2 in
        let y = member_of_map advertisement_of lsas (router_lsa from h.links) h.listed in
        Contains-permutation list pairs _ perm ((adds _).1 (inr (y.0, y.1, subst (λ x. LinksOf x (pair_code to.0 from.0)) (sym y.2) (_, h.link_in, (refl, refl))))),
  )
    where
      names : (x : Advertisement) → Contains A x → LinksOf x (pair_code to.0 from.0) → HasLinkTo A from LinkKind.PointToPoint to.0
      names (router_lsa r links) listed g =
          let link = g.0 in
          let has : HasLink A r LinkKind.PointToPoint link.id link.link_data link.metric =
          record {
            links = links;
            listed = listed;
            link_in = subst (λ k. Contains links (record { id = link.id; link_data = link.link_data; kind = k; metric = link.metric })) g.2.0 g.1;
          } in
          let fits : r.0 < 2 ^ 32 = router_fits lsas is r (links, listed) in
          let one : from.0 ≡ r.0 = pair_second to.0 from.0 link.id r.0 low fits g.2.1 in
          let two : to.0 ≡ link.id = pair_first to.0 from.0 link.id r.0 low fits g.2.1 in (
            link.link_data,
            link.metric,
            subst (λ n. HasLink A from LinkKind.PointToPoint n link.link_data link.metric) (sym two)
                (subst (λ (q : RouterId). HasLink A q LinkKind.PointToPoint link.id link.link_data link.metric) (sym (named from r one)) has),
          )
      names (network_lsa n r mask attached) listed g = absurd g

  pub members_are : Adds (GivenBy (λ lsa. MembersOf (advertisements_of lsas) (advertisement_of lsa)) lsas) [] list → AreMembers (advertisements_of lsas) pairs
  unfolding advertisements_of
  members_are adds n router low = (
    λ m. elim ((adds _).0 (Contains-permutation pairs list _ (IsPermutation-sym list pairs perm) m)) [
      | inl none ↦ absurd (let few = none.1 in omega arith)
      | inr g ↦ names (advertisement_of g.0) (member_to_map advertisement_of lsas g.0 g.1) g.2
    ],
    λ at.
        let y = member_of_map advertisement_of lsas (network_lsa n at.network.router at.mask at.attached) at.network.listed in
        Contains-permutation list pairs _ perm
        ((adds _).1 (inr (y.0, y.1, subst (λ x. MembersOf A x (pair_code router.0 n)) (sym y.2) (at.network.largest, router, at.names, refl)))),
  )
    where
      names : (x : Advertisement) → Contains A x → MembersOf A x (pair_code router.0 n) → IsAttached A n router
      names (router_lsa r links) listed g = absurd g
      names (network_lsa m r mask attached) listed g =
          let fits : m < 2 ^ 32 = network_fits lsas is m r mask attached listed in
          let one : router.0 ≡ g.1.0 = pair_first router.0 n g.1.0 m low fits g.3 in
          let two : n ≡ m = pair_second router.0 n g.1.0 m low fits g.3 in
          let there : IsAttached A m router =
          record {
            mask = mask;
            attached = attached;
            network = record { router = r; listed = listed; largest = g.0 };
            names = subst (λ (q : RouterId). Contains attached q) (sym (named router g.1 one)) g.2;
          } in
          subst (λ k. IsAttached A k router) (sym two) there

-- a network-LSA has no links
pub no_links_of : (lsa old : List ℕ) → IsNetworkLsa lsa → Adds (LinksOf (advertisement_of lsa)) old old
no_links_of lsa old is =
    as_network LinksOf lsa old old (number_at 4 4 lsa) (record { 0 = number_at 8 4 lsa }) is refl refl (adds_none (λ q. ⊥) old (λ q g. g))

-- and a router-LSA no members
pub no_members_of : (A : List Advertisement) (lsa old : List ℕ) → IsRouterLsa lsa → Adds (MembersOf A (advertisement_of lsa)) old old
no_members_of A lsa old is =
    as_router (MembersOf A) lsa old old (record { 0 = number_at 8 4 lsa }) (links_of lsa) is refl refl (adds_none (λ q. ⊥) old (λ q g. g))
