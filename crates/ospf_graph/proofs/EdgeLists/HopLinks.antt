-- The links that lead where a hop does are those whose metrics it may cost.
use Rattle.std.proofs.Common.{◌≡◌, ◌≤◌, ℕ, List, Option, None, Some, refl, subst, eq-eqb, arith}
use Rattle.std.specs.Prelude.{IfSome, IfNone}
use Rattle.std.specs.List.{Contains}
use Rattle.ospf_base.specs.declared.ids.RouterId.{RouterId}
use Rattle.ospf_lsa.specs.declared.link.Link.{Link}
use Rattle.ospf_lsa.specs.declared.link.LinkKind.{LinkKind}
use Rattle.ospf_graph.specs.declared.hop.NextHop.{NextHop}
use Rattle.ospf_graph.specs.declared.hop.NextHop.TheVariants.{Attached, PointToPoint, Lan}
use Rattle.ospf_graph.specs.Advertisements.{Advertisement, HasLink, router_lsa}
use Rattle.ospf_graph.specs.Walk.{HasLinkFor, IsLinkCost}
use Rattle.ospf_graph.proofs.ListLemmas.{transit_exists, transit_found}
use Rattle.ospf_graph.specs.EdgeLists.Costs.{HasLinkTo, IsLeastOf, Leads, NamesLinkTo}

-- the one LSA of a router has a link
pub has_link : (A : List Advertisement) (a : RouterId) (links : List Link) (l : Link) (kind : LinkKind) (id link_data : ℕ) → Contains A (router_lsa a links) → Contains links l
    → l.kind ≡ kind → l.id ≡ id → l.link_data ≡ link_data → HasLink A a kind id link_data l.metric
has_link A a links l kind id link_data listed there kinds ids datas =
    let made : Link = record { id = id; link_data = link_data; kind = kind; metric = l.metric } in
    let is : l ≡ made = λ i. record { id = ids i; link_data = datas i; kind = kinds i; metric = l.metric } in
    record { links = links; listed = listed; link_in = subst (λ (x : Link). Contains links x) is there }

pub names_to_link : (A : List Advertisement) (a : RouterId) (links : List Link) (kind : LinkKind) (id : ℕ) → Contains A (router_lsa a links)
    → NamesLinkTo links kind id → HasLinkTo A a kind id
names_to_link A a links kind id listed h =
    (h.0.link_data, h.0.metric, has_link A a links h.0 kind id h.0.link_data listed h.1 h.2.0 h.2.1 refl)

pub link_to_names : (A : List Advertisement) (a : RouterId) (links : List Link) (kind : LinkKind) (id : ℕ)
    → ((others : List Link) → Contains A (router_lsa a others) → others ≡ links) → HasLinkTo A a kind id → NamesLinkTo links kind id
link_to_names A a links kind id only h =
    let made : Link = record { id = id; link_data = h.0; kind = kind; metric = h.1 } in
    (made, subst (λ (ls : List Link). Contains ls made) (only h.2.links h.2.listed) h.2.link_in, (refl, refl))

module _ (A : List Advertisement) (a : RouterId) (links : List Link) where
  -- what leads there has an edge at its metric
  pub leads_link : (hop : NextHop) (l : Link) → Contains A (router_lsa a links) → Contains links l → Leads A a hop l → HasLinkFor A a hop l.metric
  leads_link Attached l listed there leads = leads
  leads_link (PointToPoint local b) l listed there leads =
      (has_link A a links l LinkKind.PointToPoint b.0 local.0 listed there leads.0 leads.1 leads.2, leads.3.0, leads.3.1, leads.3.2)
  leads_link (Lan local b address) l listed there leads =
      let back = leads.4 in
      let made : Link = record { id = l.id; link_data = back.0; kind = LinkKind.Transit; metric = back.1 } in
      let first = transit_exists l.id back.2.links made back.2.link_in (eq-eqb l.id l.id refl) in
      (l.id, first.0, (has_link A a links l LinkKind.Transit l.id local.0 listed there leads.0 refl leads.1, leads.2), (refl, record { links = back.2.links; listed = back.2.listed; first = first.1 }, leads.3))

  -- and each edge comes of such a link
  pub link_leads : (hop : NextHop) (metric : ℕ) → ((others : List Link) → Contains A (router_lsa a others) → others ≡ links) → HasLinkFor A a hop metric
      → (l : Link) × Contains links l × Leads A a hop l × (l.metric ≡ metric)
  link_leads Attached metric only h = absurd h
  link_leads (PointToPoint local b) metric only h =
      let made : Link = record { id = b.0; link_data = local.0; kind = LinkKind.PointToPoint; metric = metric } in
      let there = subst (λ (ls : List Link). Contains ls made) (only h.0.links h.0.listed) h.0.link_in in
      (made, there, (refl, refl, refl, (h.1, h.2, h.3)), refl)
  link_leads (Lan local b address) metric only h =
      let n = h.0 in
      let made : Link = record { id = n; link_data = local.0; kind = LinkKind.Transit; metric = metric } in
      let there = subst (λ (ls : List Link). Contains ls made) (only h.2.0.links h.2.0.listed) h.2.0.link_in in
      let on = h.3.1 in
      let back = transit_found n on.links h.1 on.first in
      let links_back : HasLinkTo A b LinkKind.Transit n = (h.1, back.0, record { links = on.links; listed = on.listed; link_in = back.1 }) in
      (made, there, (refl, refl, h.2.1, h.3.2, links_back), refl)

  -- the least metric of those is the hop's cost
  pub cost_of : (hop : NextHop) (o : Option ℕ) → Contains A (router_lsa a links) → ((others : List Link) → Contains A (router_lsa a others) → others ≡ links)
      → IsLeastOf (Leads A a hop) links o → IfSome o (λ cost. IsLinkCost A a hop cost)
  cost_of hop None listed only h = tt
  cost_of hop (Some n) listed only h =
      let l = h.0.0 in
      record {
        link = subst (λ (m : ℕ). HasLinkFor A a hop m) h.0.3 (leads_link hop l listed h.0.1 h.0.2);
        least = λ metric there.
            let x = link_leads hop metric only there in
            let low : n ≤ x.0.metric = h.1 x.0 x.1 x.2 in
            let same : x.0.metric ≡ metric = x.3 in
            omega arith;
      }

  pub none_of : (hop : NextHop) (o : Option ℕ) → ((others : List Link) → Contains A (router_lsa a others) → others ≡ links)
      → IsLeastOf (Leads A a hop) links o → IfNone o ((metric : ℕ) → HasLinkFor A a hop metric → ⊥)
  none_of hop None only h = λ metric there. let x = link_leads hop metric only there in h x.0 x.1 x.2
  none_of hop (Some n) only h = tt
