-- The items of a graph, and what they tell.
use Rattle.std.proofs.Common.{◌≡◌, ◌+◌, ◌<◌, ◌↔◌, ℕ, Bool, true, false, eqb, eqb-true, List, [], ◌∷◌, ◌++◌, map, length, take, drop, get_or, refl, sym, ◌∙◌, ap, inl, inr, arith, append_assoc, append-nil}
use Rattle.std.specs.Bool.{IsTrue}
use Rattle.std.specs.List.{filter}
use Rattle.std.proofs.lemmas.List.{take-append-drop, map-append, append_cancel_left}
use Rattle.ospf_base.specs.Bytes.{number_at}
use Rattle.ospf_base.specs.declared.ids.RouterId.{RouterId}
use Rattle.ospf_lsa.specs.Lsa.{IsRouterLsa, IsNetworkLsa, links_of, attached_of, network_mask_of}
use Rattle.ospf_lsa.specs.declared.link.Link.{Link}
use Rattle.ospf_graph.specs.Advertisements.{Advertisement, router_lsa, network_lsa}
use Rattle.ospf_graph.specs.SameGraph.{is_graph_kind, graph_part}
use Rattle.ospf_graph.proofs.ListLemmas.{bool_cases}
use Rattle.ospf_graph.specs.EdgeLists.Items.{attached_at, attached_items, graph_in, items_of, items_of_all, link_items, links_at}
use Rattle.ospf_graph.specs.EdgeLists.Listed.{advertisement_of}
use Rattle.ospf_graph.specs.declared.edges.items.GraphItem.{GraphItem}
use Rattle.ospf_graph.specs.declared.edges.items.GraphItem.TheVariants as item
use Rattle.ospf_graph.proofs.EdgeLists.GivenLemmas.{told_more}
use Rattle.ospf_graph.proofs.EdgeLists.ListedLemmas.{router_of, network_of}

-- what stands behind xs, and then behind ys
module _ {X : Type 0} (items xs mid ys : List X) (first : items ≡ xs ++ mid) where
  pub then_some : (rest : List X) → mid ≡ ys ++ rest → items ≡ (xs ++ ys) ++ rest
  then_some rest second = first ∙ ap (λ l. xs ++ l) second ∙ sym (append_assoc xs ys rest)

  -- nor with more behind them
  pub then_never : ((rest : List X) → mid ≡ ys ++ rest → ⊥) → (more rest : List X) → items ≡ (xs ++ (ys ++ more)) ++ rest → ⊥
  then_never none more rest both =
      none (more ++ rest) (append_cancel_left xs mid (ys ++ (more ++ rest)) (sym first ∙ both ∙ append_assoc xs (ys ++ more) rest ∙ ap (λ l. xs ++ l) (append_assoc ys more rest)))

pub link_items-append : (xs ys : List Link) → link_items (xs ++ ys) ≡ link_items xs ++ link_items ys
link_items-append [] ys = refl
link_items-append (l ∷ rest) ys =
    elim (bool_cases (is_graph_kind l.kind)) [
      | inl t ↦ rw t (ap (λ more. item.Link l ∷ more) (link_items-append rest ys))
      | inr f ↦ rw f (link_items-append rest ys)
    ]

pub attached_items-append : (xs ys : List RouterId) → attached_items (xs ++ ys) ≡ attached_items xs ++ attached_items ys
attached_items-append [] ys = refl
attached_items-append (r ∷ rest) ys = ap (λ more. item.Attached r ∷ more) (attached_items-append rest ys)

pub items_of_all-append : (xs ys : List Advertisement) → items_of_all (xs ++ ys) ≡ items_of_all xs ++ items_of_all ys
items_of_all-append [] ys = refl
items_of_all-append (x ∷ rest) ys = ap (λ l. items_of x ++ l) (items_of_all-append rest ys) ∙ sym (append_assoc (items_of x) (items_of_all rest) (items_of_all ys))

-- ---- one link

pub link_in : (l : Link) → is_graph_kind l.kind ≡ true → link_items (l ∷ []) ≡ item.Link l ∷ []
link_in l t = rw t refl

-- ---- what the items tell

same_kinds : (links : List Link) → link_items (filter (λ l. is_graph_kind l.kind) links) ≡ link_items links
same_kinds [] = refl
same_kinds (l ∷ rest) =
    elim (bool_cases (is_graph_kind l.kind)) [
      | inl t ↦ rw (t, t) (ap (λ more. item.Link l ∷ more) (same_kinds rest))
      | inr f ↦ rw f (same_kinds rest)
    ]

-- the items are those of the graph parts
pub items_of_parts : (A : List Advertisement) → items_of_all (map graph_part A) ≡ items_of_all A
items_of_parts [] = refl
items_of_parts (router_lsa r links ∷ rest) = (λ i. item.Router r ∷ (same_kinds links i ++ items_of_parts rest i))
items_of_parts (network_lsa n r mask attached ∷ rest) = ap (λ l. items_of (network_lsa n r mask attached) ++ l) (items_of_parts rest)

no_links : (A : List Advertisement) → links_at (items_of_all A) ≡ []
no_links [] = refl
no_links (router_lsa r links ∷ rest) = refl
no_links (network_lsa n r mask attached ∷ rest) = refl

no_attached : (A : List Advertisement) → attached_at (items_of_all A) ≡ []
no_attached [] = refl
no_attached (router_lsa r links ∷ rest) = refl
no_attached (network_lsa n r mask attached ∷ rest) = refl

links_at-front : (links : List Link) (rest : List GraphItem) → links_at rest ≡ [] → links_at (map (λ l. item.Link l) links ++ rest) ≡ links
links_at-front [] rest none = none
links_at-front (l ∷ more) rest none = ap (λ ls. l ∷ ls) (links_at-front more rest none)

attached_at-front : (routers : List RouterId) (rest : List GraphItem) → attached_at rest ≡ [] → attached_at (attached_items routers ++ rest) ≡ routers
attached_at-front [] rest none = none
attached_at-front (r ∷ more) rest none = ap (λ rs. r ∷ rs) (attached_at-front more rest none)

skip_links : (links : List Link) (rest : List GraphItem) → graph_in (map (λ l. item.Link l) links ++ rest) ≡ graph_in rest
skip_links [] rest = refl
skip_links (l ∷ more) rest = skip_links more rest

skip_attached : (routers : List RouterId) (rest : List GraphItem) → graph_in (attached_items routers ++ rest) ≡ graph_in rest
skip_attached [] rest = refl
skip_attached (r ∷ more) rest = skip_attached more rest

pub graph_in-items : (A : List Advertisement) → graph_in (items_of_all A) ≡ map graph_part A
graph_in-items [] = refl
graph_in-items (router_lsa r links ∷ rest) =
    let kept = filter (λ l. is_graph_kind l.kind) links in
    let own : links_at (link_items links ++ items_of_all rest) ≡ kept = links_at-front kept (items_of_all rest) (no_links rest) in
    let others : graph_in (link_items links ++ items_of_all rest) ≡ map graph_part rest = skip_links kept (items_of_all rest) ∙ graph_in-items rest in
    (λ i. router_lsa r (own i) ∷ others i)
graph_in-items (network_lsa n r mask attached ∷ rest) =
    let own : attached_at (attached_items attached ++ items_of_all rest) ≡ attached = attached_at-front attached (items_of_all rest) (no_attached rest) in
    let others : graph_in (attached_items attached ++ items_of_all rest) ≡ map graph_part rest = skip_attached attached (items_of_all rest) ∙ graph_in-items rest in
    (λ i. network_lsa n r mask (own i) ∷ others i)

-- items that are those of some LSAs are those of another listing exactly where the graph parts are the same
pub same_items : (items : List GraphItem) (A B : List Advertisement) → items ≡ items_of_all A → items ≡ items_of_all B ↔ (map graph_part B ≡ graph_in items)
same_items items A B is = (
  λ same. sym (ap graph_in same ∙ graph_in-items B),
  λ parts.
      let one : map graph_part B ≡ map graph_part A = parts ∙ ap graph_in is ∙ graph_in-items A in
      is ∙ sym (items_of_parts A) ∙ ap items_of_all (sym one) ∙ items_of_parts B,
)

-- ---- by the LSA that has them

module _ (lsa : List ℕ) where
  pub items_of_router : (router : RouterId) (links : List Link) → IsRouterLsa lsa → router.0 ≡ number_at 8 4 lsa → links ≡ links_of lsa
      → items_of (advertisement_of lsa) ≡ (item.Router router ∷ []) ++ link_items links
  items_of_router router links is names links_are =
      ap items_of (router_of lsa is ∙ sym (λ i. router_lsa (record { 0 = names i }) (links_are i)))

  pub items_of_network : (n : ℕ) (router : RouterId) (mask : ℕ) (attached : List RouterId) → IsNetworkLsa lsa → n ≡ number_at 4 4 lsa → router.0 ≡ number_at 8 4 lsa
      → mask ≡ network_mask_of lsa → attached ≡ attached_of lsa → items_of (advertisement_of lsa) ≡ (item.Network n router mask ∷ []) ++ attached_items attached
  items_of_network n router mask attached is id names mask_is attached_are =
      ap items_of (network_of lsa is ∙ sym (λ i. network_lsa (id i) (record { 0 = names i }) (mask_is i) (attached_are i)))

-- one LSA more
pub items_more : (lsas : List (List ℕ)) (i : ℕ) (x : List ℕ) → i < length lsas → x ≡ get_or lsas i x
    → items_of_all (map advertisement_of (take (i + 1) lsas)) ≡ items_of_all (map advertisement_of (take i lsas)) ++ items_of (advertisement_of x)
items_more lsas i x lt is =
    let so_far = map advertisement_of (take i lsas) in
    ap items_of_all (told_more lsas i x lt is) ∙ items_of_all-append so_far (advertisement_of x ∷ []) ∙ ap (λ l. items_of_all so_far ++ l) (append-nil (items_of (advertisement_of x)))

-- all, about that one
pub items_split : (lsas : List (List ℕ)) (i : ℕ) (x : List ℕ) → i < length lsas → x ≡ get_or lsas i x → items_of_all (map advertisement_of lsas)
    ≡ items_of_all (map advertisement_of (take i lsas)) ++ (items_of (advertisement_of x) ++ items_of_all (map advertisement_of (drop (i + 1) lsas)))
items_split lsas i x lt is =
    let behind = items_of_all (map advertisement_of (drop (i + 1) lsas)) in
    ap (λ l. items_of_all (map advertisement_of l)) (sym (take-append-drop (i + 1) lsas))
    ∙ ap items_of_all (map-append advertisement_of (take (i + 1) lsas) (drop (i + 1) lsas))
    ∙ items_of_all-append (map advertisement_of (take (i + 1) lsas)) (map advertisement_of (drop (i + 1) lsas))
    ∙ ap (λ l. l ++ behind) (items_more lsas i x lt is) ∙ append_assoc (items_of_all (map advertisement_of (take i lsas))) (items_of (advertisement_of x)) behind

-- what has nothing behind xs is xs
pub nothing_behind : {X : Type 0} (items xs rest : List X) → items ≡ xs ++ rest → rest ≡ [] ↔ (items ≡ xs)
nothing_behind items xs rest first = (
  λ none. first ∙ ap (λ l. xs ++ l) none ∙ append-nil xs,
  λ same. append_cancel_left xs rest [] (sym first ∙ same ∙ sym (append-nil xs)),
)

pub is_empty_tells : {X : Type 0} (rest : List X) (b : Bool) → b ≡ eqb (length rest) 0 → IsTrue b ↔ (rest ≡ [])
is_empty_tells [] b is = ((λ yes. refl), (λ none. is))
is_empty_tells (x ∷ rest) b is = (
  λ yes. absurd (let zero : length (x ∷ rest) ≡ 0 = eqb-true (length (x ∷ rest)) 0 (sym is ∙ yes) in omega arith),
  λ none. cc,
)
