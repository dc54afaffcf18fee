-- Router-LSAs that are rebuilt with the links that a router has after a change.
use Rattle.std.proofs.Common.{◌≡◌, ◌+◌, ◌*◌, ◌<◌, ◌≤◌, ◌++◌, ◌∷◌, ℕ, ℤ, List, [], map, take, length, get_or, refl, sym, ap, subst, ◌∙◌, inl, inr, arith}
use Rattle.std.specs.List.{Contains}
use Rattle.std.proofs.lemmas.List.{map-append, take_more}
use Rattle.ospf_base.specs.Bytes.{number_at}
use Rattle.ospf_base.specs.declared.ids.RouterId.{RouterId}
use Rattle.ospf_lsa.specs.Lsa.{IsNetworkLsa, IsRouterLsa, key_of, links_of}
use Rattle.ospf_lsa.specs.declared.fault.LsaFault.TheVariants as fault
use Rattle.ospf_lsa.specs.Value.{HasAll, IsMade, IsUnmade, RouterNeeds, router_value}
use Rattle.ospf_lsa.specs.declared.link.Link.{Link}
use Rattle.ospf_graph.specs.Advertisements.{Advertisement, network_lsa, router_lsa}
use Rattle.ospf_graph.proofs.ListLemmas.{member_of_map, member_to_map}
use Rattle.ospf_graph.specs.EdgeLists.Listed.{advertisement_of}
use Rattle.ospf_graph.proofs.EdgeLists.ListedLemmas.{network_of, router_of}
use Rattle.ospf_whatif.proofs.WithoutLemmas.{made_says}
use Rattle.ospf_change.specs.Edit.Change.{HasLargeThen, IsChangedLarge, changed_lsa}

-- the links that each router has then
module _ (keep : RouterId → List Link → List Link) where
  pub made_changed : (r : RouterId) (number : ℤ) (links : List Link) (new : List ℕ) → IsMade (router_value r number links) new → (lsa : List ℕ) → IsRouterLsa lsa
      → r ≡ record { 0 = number_at 8 4 lsa } → links ≡ keep r (links_of lsa) → advertisement_of new ≡ changed_lsa keep (advertisement_of lsa)
  made_changed r number links new made lsa is same are =
      made_says r number links new made ∙ ap (λ ls. router_lsa r ls) are ∙ ap (λ (x : RouterId). router_lsa x (keep x (links_of lsa))) same
      ∙ sym (ap (changed_lsa keep) (router_of lsa is))

  pub network_stays : (lsa : List ℕ) → IsNetworkLsa lsa → advertisement_of lsa ≡ changed_lsa keep (advertisement_of lsa)
  network_stays lsa is = network_of lsa is ∙ sym (ap (changed_lsa keep) (network_of lsa is))

  -- none is so large where it is made
  pub small_made : (r : RouterId) (number : ℤ) (links : List Link) (lsa : List ℕ) → IsRouterLsa lsa → r ≡ (key_of lsa).router → links ≡ keep r (links_of lsa)
      → HasAll (RouterNeeds number links) → IsChangedLarge keep (advertisement_of lsa) → ⊥
  small_made r number links lsa is same are needs large =
      let of : keep r (links_of lsa) ≡ keep (key_of lsa).router (links_of lsa) = ap (λ (q : RouterId). keep q (links_of lsa)) same in
      let here : IsChangedLarge keep (router_lsa (key_of lsa).router (links_of lsa)) = subst (IsChangedLarge keep) (router_of lsa is) large in
      let many : 1361 < length links = subst (λ (l : List Link). 1361 < length l) (sym (are ∙ of)) here.1 in
      apart many (needs fault.Length)
    where
      apart : 1361 < length links → 24 + 12 * length links ≤ 16356 → ⊥
      apart many short = omega (arith, many, short)

  -- none of a listing is
  pub small_all : (items listing : List (List ℕ)) → items ≡ listing → ((lsa : List ℕ) → Contains items lsa → IsChangedLarge keep (advertisement_of lsa) → ⊥)
      → HasLargeThen keep (map advertisement_of listing) → ⊥
  small_all items listing same none large =
      let m = member_of_map advertisement_of listing large.0 large.1 in
      none m.0 (subst (λ (l : List (List ℕ)). Contains l m.0) (sym same) m.1) (subst (IsChangedLarge keep) (sym m.2) large.2)

  -- one of a listing is
  pub large_one : (items listing : List (List ℕ)) (lsa : List ℕ) → items ≡ listing → Contains items lsa → IsChangedLarge keep (advertisement_of lsa)
      → HasLargeThen keep (map advertisement_of listing)
  large_one items listing lsa same here large =
      (advertisement_of lsa, member_to_map advertisement_of listing lsa (subst (λ (l : List (List ℕ)). Contains l lsa) same here), large)

  -- one LSA more
  pub changed_next : (lsas : List (List ℕ)) (i : ℕ) (x : List ℕ) → i < length lsas → x ≡ get_or lsas i x → (left : List (List ℕ)) (new : List ℕ)
      → map advertisement_of left ≡ map (changed_lsa keep) (map advertisement_of (take i lsas)) → advertisement_of new ≡ changed_lsa keep (advertisement_of x)
      → map advertisement_of (left ++ new ∷ []) ≡ map (changed_lsa keep) (map advertisement_of (take (i + 1) lsas))
  changed_next lsas i x within is left new same told =
      let next : take (i + 1) lsas ≡ take i lsas ++ x ∷ [] = take_more lsas i x within ∙ ap (λ l. take i lsas ++ l ∷ []) (sym is) in
      map-append advertisement_of left (new ∷ []) ∙ (λ j. same j ++ told j ∷ [])
      ∙ sym (ap (λ l. map (changed_lsa keep) (map advertisement_of l)) next ∙ ap (map (changed_lsa keep)) (map-append advertisement_of (take i lsas) (x ∷ []))
      ∙ map-append (changed_lsa keep) (map advertisement_of (take i lsas)) (advertisement_of x ∷ []))
