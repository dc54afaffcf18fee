-- The router-LSA of a router whose links are down, and the router's area as it starts, ticks and goes up.
use Rattle.std.proofs.Common.{◌≡◌, inl, ℕ, zero, suc, negsuc, false, List, [], ◌∷◌, None, Some, refl, subst, arith, lit<, lit≤}
use Rattle.std.specs.List.{All, Contains}
use Rattle.ospf_area.specs.Outputs.{OutputsValue, no_outputs}
use Rattle.ospf_area.specs.Sending.{and_sends, context_of}
use Rattle.ospf_area.specs.State.{AreaValue, LinkValue}
use Rattle.ospf_area.specs.Flooding.{flooded_links, goes_anywhere, released}
use Rattle.ospf_area.specs.Numbers.{counts, marked}
use Rattle.ospf_base.specs.declared.ids.Kind.TheVariants.{Router}
use Rattle.ospf_base.specs.declared.ids.LsaKey.{LsaKey}
use Rattle.ospf_base.specs.declared.ids.RouterId.{RouterId}
use Rattle.ospf_base.specs.declared.prefix.Prefix.{Prefix}
use Rattle.ospf_graph.specs.Advertisements.{Advertisement, network_lsa, router_lsa}
use Rattle.ospf_graph.specs.Routes.{IsEnd, IsTable}
use Rattle.ospf_graph.specs.declared.graph.Vertex.{Vertex}
use Rattle.ospf_graph.specs.declared.graph.Vertex.TheVariants as vertex
use Rattle.ospf_router.proofs.AreaStep.StateFacts.{Contains-nil}
use Rattle.ospf_adjacency.specs.LinkSteps.Parts.{link_up}
use Rattle.ospf_adjacency.specs.LinkSteps.Works.{link_changed, up_out_on}
use Rattle.ospf_lsa.specs.declared.link.Link.{Link}
use Rattle.ospf_lsa.specs.declared.link.LinkKind.TheVariants.{Stub}
use Rattle.ospf_lsa.specs.Header.{HeaderFits, header_of}
use Rattle.ospf_lsa.specs.Lsa.{IsLsa, key_of}
use Rattle.ospf_lsa.specs.Value.{IsMade}
use Rattle.ospf_lsa.specs.declared.fault.LsaFault.TheVariants as fault
use Rattle.ospf_lsdb.specs.Database.{Held, entry_from}
use Rattle.ospf_originate.specs.Numbers.{issued}
use Rattle.ospf_originate.proofs.Words.{and_issues}
use Rattle.ospf_router.specs.Starts.{IsAreaOf, area_of, iface_of}
use Rattle.ospf_area.specs.Updates.Aging.{turned_area}
use Rattle.ospf_area.proofs.Updates.Words.{store_updates}
use Rattle.ospf_area.specs.Updates.Removal.{lowest_number}
use Rattle.ospf_originate.specs.Wants.Made.{lsa_value}
use Rattle.ospf_originate.specs.Wants.Wanted.{WantedValue}
use Rattle.ospf_world.proofs.Config.{config, interface, it}
use Rattle.ospf_area.proofs.Words.{greatest_after}

-- ---- the LSA

-- its router-LSA without links, with the first number and its checksum
abbrev pub own_lsa : List ℕ
own_lsa = 0 ∷ 0 ∷ 2 ∷ 1 ∷ 0 ∷ 0 ∷ 0 ∷ 1 ∷ 0 ∷ 0 ∷ 0 ∷ 1 ∷ 128 ∷ 0 ∷ 0 ∷ 1 ∷ 111 ∷ 241 ∷ 0 ∷ 24 ∷ 0 ∷ 0 ∷ 0 ∷ 0 ∷ []

none_of : {X : Type 0} (P : X → Type 0) → All P []
none_of P k d within = absurd (omega arith)

pub is_lsa : IsLsa own_lsa
is_lsa fault.Short = (lit≤ tt, lit≤ tt)
is_lsa fault.Length = lit≤ tt
is_lsa fault.Sum = record { not_zero = λ e. absurd (omega arith); sums = record { plain = refl; weighted = refl } }
is_lsa fault.Kind = inl refl
is_lsa fault.Links = ((λ _. (lit≤ tt, record { entries = []; counted = refl; fit = tt; spelled = refl })), λ e. absurd (omega arith))
is_lsa fault.Mask = ((λ _. none_of _), λ e. absurd (omega arith))
is_lsa fault.ZeroMetric = λ _. none_of _
is_lsa fault.IdMismatch = λ _. refl
is_lsa fault.Number = λ e. absurd (omega arith)
is_lsa fault.Memory = tt

pub is_made : IsMade (lsa_value (negsuc 0x7ffffffe) (WantedValue.RouterLsa it [])) own_lsa
is_made = record {
  sum = 28657;
  checksum = record { high = (lit< tt, lit< tt); low = (lit< tt, lit< tt); sums = record { plain = refl; weighted = refl } };
  bytes = refl;
  read = refl;
}

pub header_fits : HeaderFits (header_of own_lsa)
header_fits = record { options = lit< tt; kind = lit< tt; id = lit< tt; router = lit< tt; number = record { sfits = lit< tt }; sum = lit< tt; length_fits = lit< tt }

abbrev pub own_key : LsaKey
own_key = record { kind = Router; id = 1; router = it }

-- ---- the area

abbrev pub down_link : LinkValue
down_link = record {
  iface = iface_of it interface;
  settings = record {
    cost = 10;
    retransmit = 5;
    transmit_delay = 1;
    mtu = 1500;
    suppressed = false;
    cost_not_zero = lit< tt;
    retransmit_not_zero = lit< tt;
    transmit_delay_at_most = lit≤ tt;
    mtu_at_least = lit≤ tt;
    mtu_at_most = lit≤ tt;
  };
  neighbours = [];
  delayed = [];
  elects = false;
}

-- it starts
abbrev pub begun : AreaValue
begun = area_of config 1 lowest_number (down_link ∷ [])

pub is_area : IsAreaOf config 1 lowest_number begun
is_area = record {
  links = (record { iface = refl; cost = refl; retransmit = refl; transmit_delay = refl; mtu = refl; suppressed = refl; neighbours = refl; delayed = refl; elects = refl }, tt);
  rest = refl;
}

-- a second has passed
abbrev pub ticked : AreaValue
ticked = record begun { tick = 1 }

-- its LSA is stored
abbrev pub stored_lsa : Held
stored_lsa = record { entry = entry_from own_lsa 1 false; reached = false }

abbrev pub stored : AreaValue
stored = record ticked {
  database = stored_lsa ∷ [];
  links = flooded_links (key_of own_lsa) (header_of own_lsa) None 1 (released (key_of own_lsa) ticked.links);
  sent = marked (key_of own_lsa) (goes_anywhere (key_of own_lsa) (header_of own_lsa) None (released (key_of own_lsa) ticked.links)) ticked.sent;
  numbering = counts (key_of own_lsa) (header_of own_lsa).number ticked;
  max_seq = greatest_after (key_of own_lsa) (header_of own_lsa).number ticked;
}

abbrev pub issuing : AreaValue
issuing = record stored { numbering = issued own_key 1 stored.numbering }

abbrev pub issuing_out : OutputsValue
issuing_out = and_issues no_outputs (store_updates own_lsa None ticked) own_lsa

abbrev pub has_issued : AreaValue
has_issued = record (turned_area issuing) { heard = [] }

-- its link has gone up
abbrev pub linked : AreaValue
linked = link_changed link_up 0 has_issued

abbrev pub linked_out : OutputsValue
linked_out = and_sends no_outputs (up_out_on (Some down_link) (context_of has_issued) 0)

-- ---- the routing table

-- the graph of the LSA alone
abbrev pub its_adverts : List Advertisement
its_adverts = router_lsa it [] ∷ []

no_links : (r : RouterId) (links : List Link) → Contains its_adverts (router_lsa r links) → links ≡ []
no_links r links (zero, within, is) = cc
no_links r links (suc k, within, is) = absurd (omega arith)

no_network : (n : ℕ) (r : RouterId) (mask : ℕ) (attached : List RouterId) → Contains its_adverts (network_lsa n r mask attached) → ⊥
no_network n r mask attached (zero, within, is) = absurd (cc)
no_network n r mask attached (suc k, within, is) = absurd (omega arith)

no_end : (prefix : Prefix) (end : Vertex) (cost : ℕ) → IsEnd its_adverts prefix end cost → ⊥
no_end prefix (vertex.Network n) cost (free, mask, attached, is, of) = no_network n is.router mask attached is.listed
no_end prefix (vertex.Router r) cost (id, mask, has, of) = Contains-nil (record { id = id; link_data = mask; kind = Stub; metric = cost })
    (subst (λ (links : List Link). Contains links (record { id = id; link_data = mask; kind = Stub; metric = cost })) (no_links r has.links has.listed) has.link_in)

pub is_table : IsTable its_adverts it []
is_table = record {
  in_order = λ i j d lt within. absurd (omega arith);
  complete = λ prefix way. absurd (no_end prefix way.end way.end_cost way.ends);
  sound = none_of _;
}
