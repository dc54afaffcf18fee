-- Whether the router-LSA of some router is listed.
use Rattle.std.proofs.Common.{◌≡◌, ◌∙◌, ◌+◌, ◌<◌, ◌≤◌, ℕ, List, map, take, length, get_or, ap, refl, sym, subst, inl, inr, arith}
use Rattle.std.proofs.lemmas.List.{take_all}
use Rattle.std.specs.List.{Contains}
use Rattle.ospf_base.specs.Bytes.{number_at}
use Rattle.ospf_base.specs.declared.ids.Kind.{Kind}
use Rattle.ospf_base.specs.declared.ids.Kind.TheVariants as kind
use Rattle.ospf_lsa.specs.Lsa.{IsNetworkLsa, IsRouterLsa, attached_of, links_of, network_mask_of}
use Rattle.ospf_graph.specs.Advertisements.{Advertisement, network_lsa, router_lsa}
use Rattle.ospf_graph.proofs.ListLemmas.{member_of_map, member_to_map, more_members}
use Rattle.ospf_graph.proofs.EdgeLists.ListedLemmas.{network_of, router_of}
use Rattle.ospf_graph.specs.EdgeLists.Listed.{advertisement_of, advertisements_of}
use Rattle.ospf_failures.specs.Answer.{HasRouter}

-- there are two kinds
pub network_else : (k : Kind) → (k ≡ kind.Router → ⊥) → k ≡ kind.Network
network_else kind.Router other = absurd (other refl)
network_else kind.Network other = refl

pub no_router_at_start : (items : List (List ℕ)) → HasRouter (map advertisement_of (take 0 items)) → ⊥
no_router_at_start items h = absurd (omega (arith, h.1.1.1))

module _ (items : List (List ℕ)) (i : ℕ) (x : List ℕ) (within : i < length items) (is : x ≡ get_or items i x) where
  -- one more that is none
  pub no_router_more : (HasRouter (map advertisement_of (take i items)) → ⊥) → IsNetworkLsa x → HasRouter (map advertisement_of (take (i + 1) items)) → ⊥
  no_router_more none network h =
      let m = member_of_map advertisement_of (take (i + 1) items) (router_lsa h.0 h.1.0) h.1.1 in
      elim ((more_members items i x within m.0).0 m.1) [
        | inl old ↦
            none (h.0, (h.1.0, subst (λ (a : Advertisement). Contains (map advertisement_of (take i items)) a) m.2 (member_to_map advertisement_of (take i items) m.0 old)))
        | inr here ↦
            let same : network_lsa (number_at 4 4 x) (record { 0 = number_at 8 4 x }) (network_mask_of x) (attached_of x) ≡ router_lsa h.0 h.1.0 =
            sym (network_of x network) ∙ ap advertisement_of (is ∙ here) ∙ m.2 in
            cc
      ]

  pub router_here : (listing : List (List ℕ)) → items ≡ listing → IsRouterLsa x → HasRouter (advertisements_of listing)
  unfolding advertisements_of
  router_here listing same router =
      subst (λ (l : List (List ℕ)). HasRouter (map advertisement_of l)) same (
        record { 0 = number_at 8 4 x },
        (
          links_of x,
          subst (λ (a : Advertisement). Contains (map advertisement_of items) a) (router_of x router)
              (member_to_map advertisement_of items x (i, within, sym is)),
        ),
      )

pub no_router_of_all : (items listing : List (List ℕ)) (i : ℕ) → length items ≤ i → items ≡ listing → (HasRouter (map advertisement_of (take i items)) → ⊥)
    → HasRouter (advertisements_of listing) → ⊥
unfolding advertisements_of
no_router_of_all items listing i end same none router =
    none (subst (λ (l : List (List ℕ)). HasRouter (map advertisement_of l)) (sym (take_all i items end ∙ same)) router)
