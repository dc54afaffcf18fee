-- The LSAs of a listing, as the route calculation reads them.
use Rattle.std.proofs.Common.{◌≡◌, ◌≤◌, ℕ, List, refl, sym, ◌∙◌, ap, subst, inl, inr, arith}
use Rattle.std.specs.List.{Contains}
use Rattle.ospf_base.specs.Bytes.{number_at}
use Rattle.ospf_base.specs.declared.ids.RouterId.{RouterId}
use Rattle.ospf_base.specs.declared.ids.LsaKey.{LsaKey}
use Rattle.ospf_base.specs.declared.ids.Kind.TheVariants as kind
use Rattle.ospf_lsa.specs.declared.link.Link.{Link}
use Rattle.ospf_lsa.specs.declared.fault.LsaFault.TheVariants as fault
use Rattle.ospf_lsa.specs.Lsa.{IsLsa, IsRouterLsa, IsNetworkLsa, key_of, kind_of, links_of, attached_of, network_mask_of}
use Rattle.ospf_lsa.specs.Listing.{IsListing, HasKey, IsNetworkOf, IsOfNetwork}
use Rattle.ospf_lsa.proofs.ListingLemmas.{one_key, listed_in}
use Rattle.ospf_graph.specs.Advertisements.{router_lsa, network_lsa, IsListed, IsNetwork}
use Rattle.ospf_graph.proofs.ListLemmas.{member_of_map, member_to_map}
use Rattle.ospf_graph.specs.EdgeLists.Listed.{advertisement_of, advertisements_of}
use Rattle.ospf_graph.specs.EdgeLists.Given.{StandsFor}

-- the key of a router's LSA
abbrev pub router_key : RouterId → LsaKey
router_key r = record { kind = kind.Router; id = r.0; router = r }

pub router_of : (lsa : List ℕ) → IsRouterLsa lsa → advertisement_of lsa ≡ router_lsa (record { 0 = number_at 8 4 lsa }) (links_of lsa)
router_of lsa is = rw is refl

pub network_of : (lsa : List ℕ) → IsNetworkLsa lsa
    → advertisement_of lsa ≡ network_lsa (number_at 4 4 lsa) (record { 0 = number_at 8 4 lsa }) (network_mask_of lsa) (attached_of lsa)
network_of lsa is = rw is refl

router_kind : (lsa : List ℕ) → IsRouterLsa lsa → kind_of lsa ≡ kind.Router
router_kind lsa is = rw is refl

network_kind : (lsa : List ℕ) → IsNetworkLsa lsa → kind_of lsa ≡ kind.Network
network_kind lsa is = rw is refl

is_router : (lsa : List ℕ) → IsLsa lsa → kind_of lsa ≡ kind.Router → IsRouterLsa lsa
is_router lsa is at = elim (is fault.Kind) [ inl r ↦ r | inr n ↦ (let other = network_kind lsa n in cc) ]

-- a listed router-LSA, or network-LSA, in its bytes
pub record IsRouterIn (lsas : List (List ℕ)) (r : RouterId) (links : List Link) (lsa : List ℕ) : Type 0 where
  pub listed : Contains lsas lsa
  pub is : IsRouterLsa lsa
  pub key : key_of lsa ≡ router_key r
  pub links_are : links_of lsa ≡ links

pub record IsNetworkIn (lsas : List (List ℕ)) (n : ℕ) (r : RouterId) (mask : ℕ) (attached : List RouterId) (lsa : List ℕ) : Type 0 where
  pub listed : Contains lsas lsa
  pub is : IsNetworkLsa lsa
  pub id : number_at 4 4 lsa ≡ n
  pub router : number_at 8 4 lsa ≡ r.0
  pub mask_is : network_mask_of lsa ≡ mask
  pub attached_are : attached_of lsa ≡ attached

module _ (lsas : List (List ℕ)) (is : IsListing lsas) where
  valid : (lsa : List ℕ) → Contains lsas lsa → IsLsa lsa
  valid lsa m = (listed_in lsas is lsa m).0

  pub to_listed : (lsa : List ℕ) → Contains lsas lsa → Contains (advertisements_of lsas) (advertisement_of lsa)
  unfolding advertisements_of
  to_listed lsa m = member_to_map advertisement_of lsas lsa m

  -- what is listed stands in some LSA's bytes
  pub router_in : (r : RouterId) (links : List Link) → Contains (advertisements_of lsas) (router_lsa r links) → (lsa : List ℕ) × IsRouterIn lsas r links lsa
  unfolding advertisements_of
  router_in r links h =
      let m = member_of_map advertisement_of lsas (router_lsa r links) h in
      let lsa = m.0 in
      let v = valid lsa m.1 in
      elim (v fault.Kind) [
        | inl router ↦
            let same : router_lsa (record { 0 = number_at 8 4 lsa }) (links_of lsa) ≡ router_lsa r links = sym (router_of lsa router) ∙ m.2 in
            let id : number_at 4 4 lsa ≡ number_at 8 4 lsa = v fault.IdMismatch router in
            let made : RouterId = record { 0 = number_at 8 4 lsa } in
            let named : made ≡ r = cc in
            let names : number_at 8 4 lsa ≡ r.0 = ap (λ (x : RouterId). x.0) named in
            let kinds : kind_of lsa ≡ kind.Router = router_kind lsa router in
            let links_are : links_of lsa ≡ links = cc in
            (lsa, record { listed = m.1; is = router; key = (λ i. record { kind = kinds i; id = (id ∙ names) i; router = named i }); links_are = links_are })
        | inr network ↦
            let same : network_lsa (number_at 4 4 lsa) (record { 0 = number_at 8 4 lsa }) (network_mask_of lsa) (attached_of lsa) ≡ router_lsa r links = sym (network_of lsa network) ∙ m.2 in
            cc
      ]

  pub network_in : (n : ℕ) (r : RouterId) (mask : ℕ) (attached : List RouterId) → Contains (advertisements_of lsas) (network_lsa n r mask attached)
      → (lsa : List ℕ) × IsNetworkIn lsas n r mask attached lsa
  unfolding advertisements_of
  network_in n r mask attached h =
      let m = member_of_map advertisement_of lsas (network_lsa n r mask attached) h in
      let lsa = m.0 in
      elim (valid lsa m.1 fault.Kind) [
        | inl router ↦
            let same : router_lsa (record { 0 = number_at 8 4 lsa }) (links_of lsa) ≡ network_lsa n r mask attached = sym (router_of lsa router) ∙ m.2 in
            cc
        | inr network ↦
            let same : network_lsa (number_at 4 4 lsa) (record { 0 = number_at 8 4 lsa }) (network_mask_of lsa) (attached_of lsa) ≡ network_lsa n r mask attached = sym (network_of lsa network) ∙ m.2 in
            let id : number_at 4 4 lsa ≡ n = cc in
            let made : RouterId = record { 0 = number_at 8 4 lsa } in
            let named : made ≡ r = cc in
            let mask_is : network_mask_of lsa ≡ mask = cc in
            let attached_are : attached_of lsa ≡ attached = cc in
            (lsa, record { listed = m.1; is = network; id = id; router = ap (λ (x : RouterId). x.0) named; mask_is = mask_is; attached_are = attached_are })
      ]

  -- the LSA of a router's key
  pub keyed_router : (r : RouterId) (lsa : List ℕ) → Contains lsas lsa → key_of lsa ≡ router_key r → IsRouterLsa lsa
  keyed_router r lsa m key = is_router lsa (valid lsa m) (ap (λ (k : LsaKey). k.kind) key)

  pub router_at : (r : RouterId) (lsa : List ℕ) → Contains lsas lsa → key_of lsa ≡ router_key r → advertisement_of lsa ≡ router_lsa r (links_of lsa)
  router_at r lsa m key =
      let named : (let made : RouterId = record { 0 = number_at 8 4 lsa } in made) ≡ r = ap (λ (k : LsaKey). k.router) key in
      router_of lsa (keyed_router r lsa m key) ∙ ap (λ x. router_lsa x (links_of lsa)) named

  pub router_found : (r : RouterId) (lsa : List ℕ) → Contains lsas lsa → key_of lsa ≡ router_key r → Contains (advertisements_of lsas) (router_lsa r (links_of lsa))
  router_found r lsa m key = subst (λ x. Contains (advertisements_of lsas) x) (router_at r lsa m key) (to_listed lsa m)

  pub router_only : (r : RouterId) (lsa : List ℕ) → Contains lsas lsa → key_of lsa ≡ router_key r → (links : List Link)
      → Contains (advertisements_of lsas) (router_lsa r links) → links ≡ links_of lsa
  router_only r lsa m key links h =
      let other = router_in r links h in
      sym other.1.links_are ∙ ap links_of (one_key lsas is.rising other.0 lsa other.1.listed m (other.1.key ∙ sym key))

  pub router_none : (r : RouterId) → (HasKey lsas (router_key r) → ⊥) → IsListed (advertisements_of lsas) r → ⊥
  router_none r none listed =
      let m = router_in r listed.0 listed.1 in
      let at = m.1.listed in
      none (at.0, m.0, at.1, at.2, m.1.key)

  -- the network-LSA that stands for an ID
  pub network_at : (n : ℕ) (lsa : List ℕ) → IsOfNetwork n lsa → advertisement_of lsa ≡ network_lsa n (record { 0 = number_at 8 4 lsa }) (network_mask_of lsa) (attached_of lsa)
  network_at n lsa of = network_of lsa of.0 ∙ ap (λ x. network_lsa x (record { 0 = number_at 8 4 lsa }) (network_mask_of lsa) (attached_of lsa)) of.1

  network_here : (n : ℕ) (lsa : List ℕ) → Contains lsas lsa → IsOfNetwork n lsa
      → Contains (advertisements_of lsas) (network_lsa n (record { 0 = number_at 8 4 lsa }) (network_mask_of lsa) (attached_of lsa))
  network_here n lsa m of = subst (λ x. Contains (advertisements_of lsas) x) (network_at n lsa of) (to_listed lsa m)

  pub largest_of : (n : ℕ) (lsa : List ℕ) → IsNetworkOf lsas n lsa → (r : RouterId) (m : ℕ) (others : List RouterId)
      → Contains (advertisements_of lsas) (network_lsa n r m others) → r.0 ≤ number_at 8 4 lsa
  largest_of n lsa top r m others h =
      let x = network_in n r m others h in
      let low = top.largest x.0 x.1.listed (x.1.is, x.1.id) in
      rw x.1.router at low

  pub network_found : (n : ℕ) (lsa : List ℕ) → IsNetworkOf lsas n lsa → IsNetwork (advertisements_of lsas) n (network_mask_of lsa) (attached_of lsa)
  network_found n lsa top =
      record { router = record { 0 = number_at 8 4 lsa }; listed = network_here n lsa top.listed top.of; largest = largest_of n lsa top }

  -- each that stands for it is that LSA
  pub network_same : (n : ℕ) (lsa : List ℕ) → IsNetworkOf lsas n lsa → (mask : ℕ) (attached : List RouterId) (w : IsNetwork (advertisements_of lsas) n mask attached)
      → (mask ≡ network_mask_of lsa) × (attached ≡ attached_of lsa)
  network_same n lsa top mask attached w =
      let x = network_in n w.router mask attached w.listed in
      let up : number_at 8 4 lsa ≤ w.router.0 = w.largest (record { 0 = number_at 8 4 lsa }) (network_mask_of lsa) (attached_of lsa) (network_here n lsa top.listed top.of) in
      let down : w.router.0 ≤ number_at 8 4 lsa = largest_of n lsa top w.router mask attached w.listed in
      let router : number_at 8 4 x.0 ≡ number_at 8 4 lsa = x.1.router ∙ omega arith in
      let id : number_at 4 4 x.0 ≡ number_at 4 4 lsa = x.1.id ∙ sym top.of.1 in
      let kinds : kind_of x.0 ≡ kind_of lsa = network_kind x.0 x.1.is ∙ sym (network_kind lsa top.of.0) in
      let key : key_of x.0 ≡ key_of lsa = λ i. record { kind = kinds i; id = id i; router = record { 0 = router i } } in
      let same : x.0 ≡ lsa = one_key lsas is.rising x.0 lsa x.1.listed top.listed key in
      (sym x.1.mask_is ∙ ap network_mask_of same, sym x.1.attached_are ∙ ap attached_of same)

  pub network_only : (n : ℕ) (lsa : List ℕ) → IsNetworkOf lsas n lsa → (mask : ℕ) (attached : List RouterId) → IsNetwork (advertisements_of lsas) n mask attached
      → attached ≡ attached_of lsa
  network_only n lsa top mask attached w = (network_same n lsa top mask attached w).1

  pub network_none : (n : ℕ) → ((lsa : List ℕ) → Contains lsas lsa → IsOfNetwork n lsa → ⊥) → (mask : ℕ) (attached : List RouterId)
      → IsNetwork (advertisements_of lsas) n mask attached → ⊥
  network_none n none mask attached w =
      let x = network_in n w.router mask attached w.listed in none x.0 x.1.listed (x.1.is, x.1.id)

  pub stands_to : (n : ℕ) (r : RouterId) (lsa : List ℕ) → IsNetworkOf lsas n lsa → number_at 8 4 lsa ≤ r.0 → StandsFor (advertisements_of lsas) n r
  stands_to n r lsa top low = λ q m others h. let up = largest_of n lsa top q m others h in omega arith

  pub stands_from : (n : ℕ) (r : RouterId) (lsa : List ℕ) → IsNetworkOf lsas n lsa → StandsFor (advertisements_of lsas) n r → number_at 8 4 lsa ≤ r.0
  stands_from n r lsa top stands =
      stands (record { 0 = number_at 8 4 lsa }) (network_mask_of lsa) (attached_of lsa) (network_here n lsa top.listed top.of)

  pub stands_none : (n : ℕ) (r : RouterId) → ((lsa : List ℕ) → Contains lsas lsa → IsOfNetwork n lsa → ⊥) → StandsFor (advertisements_of lsas) n r
  stands_none n r none = λ q m others h. let x = network_in n q m others h in absurd (none x.0 x.1.listed (x.1.is, x.1.id))
