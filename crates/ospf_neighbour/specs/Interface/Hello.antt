-- Hello packets (RFC 2328, sections 9.5 and 10.5).
use Rattle.std.specs.Prelude.{◌≢◌, ◌≤◌, ◌==◌, ◌&&◌, ◌||◌, Bool, false, true, bit_and}
use Rattle.ospf_base.specs.Addresses.{nowhere}
use Rattle.ospf_base.specs.Constants.{router_options}
use Rattle.ospf_packet.specs.declared.body.Hello.{Hello}
use Rattle.ospf_neighbour.specs.declared.iface.machine.Iface.{Iface}
use Rattle.ospf_neighbour.specs.declared.iface.machine.IfaceState.TheVariants.{Down}
use Rattle.ospf_base.specs.declared.interface.InterfaceKind.TheVariants.{PointToPoint, Broadcast}

-- a Hello agrees in HelloInterval, RouterDeadInterval and the E bit, and on
-- broadcast links in the mask (10.5)
abbrev pub agrees : Iface → Hello → Bool
agrees i h =
    (h.hello_interval == i.settings.hello) && (h.dead_interval == i.settings.dead)
    && (bit_and h.options router_options == router_options)
    && ((h.mask == i.settings.mask)
    || elim i.settings.kind [ PointToPoint ↦ true | Broadcast ↦ false ])

-- the fields of the Hello that an interface sends: it declares the DR and the Backup, and none
-- where the link has two ends (9.5)
abbrev pub own_hello : Iface → Hello
own_hello i = record {
  mask = i.settings.mask;
  hello_interval = i.settings.hello;
  options = router_options;
  priority = i.settings.priority;
  dead_interval = i.settings.dead;
  designated = elim i.settings.kind [ PointToPoint ↦ nowhere | Broadcast ↦ i.dr ];
  backup = elim i.settings.kind [ PointToPoint ↦ nowhere | Broadcast ↦ i.backup ];
}

-- the next tick brings a Hello: the interface is not Down, and no more than that tick
-- is left of HelloInterval (9.5)
pub record IsHelloDue (i : Iface) : Type 0 where
  pub up : i.state ≢ Down
  pub ends : i.hello_in ≤ 1
