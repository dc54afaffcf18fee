-- A router with one point-to-point link, as it is configured.
use Rattle.std.proofs.Common.{◌<◌, ◌^◌, List, [], ◌∷◌, None, false, length, refl, arith, lit<, lit≤}
use Rattle.std.specs.Global.{Vec}
use denote.RawPtr.{null_ptr}
use Rattle.ospf_base.specs.declared.ids.Addr.{Addr}
use Rattle.ospf_base.specs.declared.ids.RouterId.{RouterId}
use Rattle.ospf_base.specs.declared.interface.InterfaceKind.TheVariants.{PointToPoint}
use Rattle.ospf_config.specs.Host.{IsHostAddress}
use Rattle.ospf_config.specs.declared.config.Config.{Config}
use Rattle.ospf_config.specs.declared.interface.Interface.{Interface}

-- a list in memory
abbrev pub vec_of : {X : Type 0} (xs : List X) → length xs < 2 ^ 63 → Vec X
vec_of xs small = record {
  ptr = null_ptr;
  len = length xs;
  cap = length xs;
  alloc = record { memory = record { seal = tt } };
  items = xs;
  ok = (refl, omega arith);
  small = small;
}

abbrev pub it : RouterId
it = record { 0 = 1 }

-- 10.0.0.1
abbrev pub its_address : Addr
its_address = record { 0 = 167772161 }

pub is_host : IsHostAddress 167772161 24
is_host = record { long = lit≤ tt; short = lit≤ tt; not_zeros = λ _. lit< tt; not_ones = λ _. lit< tt; octet_low = lit≤ tt; octet_high = lit≤ tt }

abbrev pub interface : Interface
interface = record {
  kind = PointToPoint;
  address = record { address = its_address; length = 24; host = is_host };
  cost = 10;
  priority = 1;
  hello = 10;
  dead = 40;
  retransmit = 5;
  transmit_delay = 1;
  mtu = 1500;
  port = None;
  peers = vec_of [] (lit< tt);
  prefix_suppression = false;
  cost_not_zero = lit< tt;
  hello_not_zero = lit< tt;
  dead_over_hello = lit< tt;
  retransmit_not_zero = lit< tt;
  transmit_delay_not_zero = lit< tt;
  transmit_delay_at_most = lit≤ tt;
  mtu_at_least = lit≤ tt;
  mtu_at_most = lit≤ tt;
  few_peers = lit≤ tt;
}

abbrev pub config : Config
config = record {
  router_id = it;
  area = record { 0 = 0 };
  stub_router = false;
  passes_over = false;
  interfaces = vec_of (interface ∷ []) (lit< tt);
  stubs = vec_of [] (lit< tt);
  router_id_not_zero = lit< tt;
  some_interface = lit≤ tt;
  few_interfaces = lit≤ tt;
  few_stubs = lit≤ tt;
  no_conflict = λ i j d lt within. absurd (omega arith);
}
