-- What the LSA of a vertex gives.
use Rattle.std.proofs.Common.{◌≡◌, ℕ, List, [], refl, ap, subst, inl, inr, arith}
use Rattle.std.specs.List.{Contains}
use Rattle.ospf_base.specs.Prefixes.{IsPrefixOf}
use Rattle.ospf_base.specs.declared.ids.RouterId.{RouterId}
use Rattle.ospf_lsa.specs.declared.link.Link.{Link}
use Rattle.ospf_lsa.specs.declared.link.LinkKind.{LinkKind}
use Rattle.ospf_graph.specs.Advertisements.{Advertisement, router_lsa, network_lsa, IsListed, IsNetwork}
use Rattle.ospf_graph.specs.Routes.{IsEnd}
use Rattle.ospf_graph.specs.declared.graph.Vertex.TheVariants.{Router, Network}
use Rattle.ospf_graph.specs.Adds.{Adds}
use Rattle.ospf_graph.specs.EdgeLists.Given.{AreEndsAt, EndsOf, NetworkGives}
use Rattle.ospf_graph.specs.EdgeLists.Near.{AreLinksBy, HasNoNetwork}
use Rattle.ospf_graph.specs.declared.edges.end.End.{End}
use Rattle.ospf_graph.proofs.EdgeLists.GivenLemmas.{given_end}

module _ (A : List Advertisement) where
  pub ends_by_links : (r : RouterId) (links : List Link) → AreLinksBy A r links → (ends : List End) → Adds (EndsOf A (router_lsa r links)) [] ends → AreEndsAt A (Router r) ends
  ends_by_links r links by ends h e = (
    λ m. elim ((h e).0 m) [
      | inl none ↦ absurd (let low = none.1 in omega arith)
      | inr g ↦ (given_end A (router_lsa r links) by.listed e g, ap (λ (y : End). y.vertex) g.2.3)
    ],
    λ p.
        let i = subst (λ v. IsEnd A e.prefix v e.cost) p.1 p.0 in
        let link : Link = record { id = i.0; link_data = i.1; kind = LinkKind.Stub; metric = e.cost } in
        let there = subst (λ ls. Contains ls link) (by.only i.2.links i.2.listed) i.2.link_in in
        let g : EndsOf A (router_lsa r links) e = (link, there, (refl, e.prefix, i.3, λ j. record { prefix = e.prefix; vertex = p.1 j; cost = e.cost })) in
        (h e).1 (inr g),
  )

  pub ends_by_mask : (n mask : ℕ) (attached : List RouterId) → IsNetwork A n mask attached → ((m : ℕ) (others : List RouterId) → IsNetwork A n m others → m ≡ mask)
      → (ends : List End) → Adds (NetworkGives n mask) [] ends → AreEndsAt A (Network n) ends
  ends_by_mask n mask attached at only ends h e = (
    λ m. elim ((h e).0 m) [
      | inl none ↦ absurd (let low = none.1 in omega arith)
      | inr g ↦ (given_end A (network_lsa n at.router mask attached) at.listed e (at.largest, g), ap (λ (y : End). y.vertex) g.2)
    ],
    λ p.
        let i = subst (λ v. IsEnd A e.prefix v e.cost) p.1 p.0 in
        let prefix = subst (λ m. IsPrefixOf n m e.prefix) (only i.1 i.2 i.3) i.4 in
        let g : NetworkGives n mask e = (e.prefix, prefix, λ j. record { prefix = e.prefix; vertex = p.1 j; cost = i.0 j }) in
        (h e).1 (inr g),
  )

  pub no_stubs : (r : RouterId) → (IsListed A r → ⊥) → AreEndsAt A (Router r) []
  no_stubs r none e = (
    λ m. absurd (let low = m.1 in omega arith),
    λ p. absurd (let i = subst (λ w. IsEnd A e.prefix w e.cost) p.1 p.0 in none (i.2.links, i.2.listed)),
  )

  pub no_network_end : (n : ℕ) → HasNoNetwork A n → AreEndsAt A (Network n) []
  no_network_end n none e = (
    λ m. absurd (let low = m.1 in omega arith),
    λ p. absurd (let i = subst (λ w. IsEnd A e.prefix w e.cost) p.1 p.0 in none i.1 i.2 i.3),
  )
