-- The values of LSAs hold no float.
use Rattle.std.proofs.Common.{◌≡◌, ◌∙◌, ◌∷◌, ℕ, List, [], false, ap, filter, map, refl}
use Rattle.serde_json.specs.Data.{Data}
use Rattle.serde_json.specs.Written.{has_float, items_have_float}
use Rattle.serde_json.specs.View.{items_of}
use Rattle.ospf_base.specs.Bytes.{number_at}
use Rattle.ospf_graph.specs.declared.hop.NextHop.{NextHop}
use Rattle.ospf_graph.specs.declared.route.Route.{Route}
use Rattle.ospf_inspect.specs.Tables.{TellsRootOf, TellsTable, TellsTables, hop_data, is_router, route_data}
use Rattle.ospf_base.specs.declared.ids.Kind.{Kind}
use Rattle.ospf_base.specs.declared.ids.Kind.TheVariants as kind
use Rattle.ospf_base.specs.declared.ids.RouterId.{RouterId}
use Rattle.ospf_graph.specs.Advertisements.{Advertisement}
use Rattle.ospf_lsa.specs.Lsa.{attached_of, key_of, kind_of, links_of}
use Rattle.ospf_lsa.specs.declared.link.Link.{Link}
use Rattle.ospf_lsa.specs.declared.link.LinkKind.{LinkKind}
use Rattle.ospf_lsa.specs.declared.link.LinkKind.TheVariants.{PointToPoint, Transit, Stub, Virtual}
use Rattle.ospf_inspect.proofs.ValueLemmas.{array_no_float}
use Rattle.ospf_inspect.specs.Values.{TellsAttached, TellsKind, TellsLink, TellsLsa, TellsLsaKind, TellsLsas, TellsNetwork, TellsRouter}

module _ (adverts : List Advertisement) where
  of_kind : (router : RouterId) (link : Link) (kind : LinkKind) (d : Data) → TellsKind adverts router link kind d → has_float d ≡ false
  of_kind router link PointToPoint d is = ap has_float is.2
  of_kind router link Transit d is = ap has_float is.2
  of_kind router link Stub d is = ap has_float is
  of_kind router link Virtual d is = ap has_float is

  of_link : (router : RouterId) (link : Link) (d : Data) → TellsLink adverts router link d → has_float d ≡ false
  of_link router link d is = of_kind router link link.kind d is

  of_attached : (n : ℕ) (router : RouterId) (d : Data) → TellsAttached adverts n router d → has_float d ≡ false
  of_attached n router d is = ap has_float is.2

  of_router : (lsa : List ℕ) (d : Data) → TellsRouter adverts lsa d → has_float d ≡ false
  of_router lsa d is =
      let links = array_no_float (TellsLink adverts (key_of lsa).router) (of_link (key_of lsa).router) (links_of lsa) is.0 is.1 in
      ap has_float is.2 ∙ rw links refl

  of_network : (lsa : List ℕ) (d : Data) → TellsNetwork adverts lsa d → has_float d ≡ false
  of_network lsa d is =
      let attached = array_no_float (TellsAttached adverts (key_of lsa).id) (of_attached (key_of lsa).id) (attached_of lsa) is.0 is.2 in
      ap has_float is.4 ∙ rw attached refl

  of_lsa_kind : (lsa : List ℕ) (k : Kind) (d : Data) → TellsLsaKind adverts lsa k d → has_float d ≡ false
  of_lsa_kind lsa kind.Router d is = of_router lsa d is
  of_lsa_kind lsa kind.Network d is = of_network lsa d is

  of_lsa : (lsa : List ℕ) (d : Data) → TellsLsa adverts lsa d → has_float d ≡ false
  of_lsa lsa d is = of_lsa_kind lsa (kind_of lsa) d is

  pub of_lsas : (lsas : List (List ℕ)) (d : Data) → TellsLsas adverts lsas d → has_float d ≡ false
  of_lsas lsas d is = array_no_float (TellsLsa adverts) of_lsa lsas d is

-- ---- tables

hops_none : (hops : List NextHop) → items_have_float (items_of (map hop_data hops)) ≡ false
hops_none [] = refl
hops_none (hop ∷ hops) = hops_none hops

routes_none : (routes : List Route) → items_have_float (items_of (map route_data routes)) ≡ false
routes_none [] = refl
routes_none (route ∷ routes) = let hops = hops_none route.hops in rw (hops, routes_none routes) refl

pub of_table : (adverts : List Advertisement) (router : ℕ) (d : Data) → TellsTable adverts router d → has_float d ≡ false
of_table adverts router d is = ap has_float is.2 ∙ routes_none is.0

of_root : (adverts : List Advertisement) (lsa : List ℕ) (d : Data) → TellsRootOf adverts lsa d → has_float d ≡ false
of_root adverts lsa d is = let routes = of_table adverts (number_at 8 4 lsa) is.0 is.1 in ap has_float is.2 ∙ rw routes refl

pub of_tables : (adverts : List Advertisement) (lsas : List (List ℕ)) (d : Data) → TellsTables adverts lsas d → has_float d ≡ false
of_tables adverts lsas d is = array_no_float (TellsRootOf adverts) (of_root adverts) (filter (λ lsa. is_router (kind_of lsa)) lsas) d is
