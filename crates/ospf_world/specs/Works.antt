-- A network of routers in which something happens.
use Rattle.std.specs.Prelude.{◌≡◌, ℕ, ℤ, [], ◌∷◌, Some, Contains, false, slice_get}
use Rattle.ospf_area.specs.State.{LinkValue}
use Rattle.ospf_base.specs.declared.ids.RouterId.{RouterId}
use Rattle.ospf_config.specs.declared.config.Config.{Config}
use Rattle.ospf_world.specs.Runs.{RunsOn}
use Rattle.ospf_world.specs.World.{Running, router_at}
use Rattle.ospf_base.specs.declared.event.event.WorldEvent.TheVariants.{Start, Tick, LinkUp}
use Rattle.ospf_world.specs.declared.logs.Datagram.{Datagram}
use Rattle.ospf_world.specs.declared.logs.Issued.{Issued}
use Rattle.ospf_neighbour.specs.Interface.Machine.{is_down}
use Rattle.ospf_router.specs.AreaStep.Words.{HasCopy}
use Rattle.ospf_lsa.specs.Lsa.{IsLsa, key_of}
use Rattle.ospf_packet.specs.Meaning.{hello}
use Rattle.ospf_packet.specs.PacketOf.{packet_of}
use Rattle.ospf_packet.specs.declared.body.Hello.{Hello}
use Rattle.ospf_world.specs.Does.{Does}
use Rattle.ospf_world.specs.Worlds.{WorldValue, new_world, world_of}

-- the router has issued this LSA of its own, and its database holds it (12.4)
pub record HasIssued (w : WorldValue) (r : RouterId) (x : Running) (entry : Issued) : Type 0 where
  pub issued : Contains w.logs.issued entry
  pub is_lsa : IsLsa entry.lsa
  pub own : (key_of entry.lsa).router ≡ r
  pub held : HasCopy x.state entry.lsa

-- the router has sent this datagram, which is read as a Hello that names nobody (9.5)
pub record HasGreeted (w : WorldValue) (r : RouterId) (g : Datagram) (fields : Hello) : Type 0 where
  pub sent : Contains w.logs.datagrams g
  pub by : g.router ≡ r
  pub reads : packet_of g.sent.bytes ≡ Some g.sent.packet
  pub says : g.sent.packet.body ≡ hello fields []

-- a network of one router, which starts, ticks, and whose first link goes up, none of
-- them refused: then the router runs, its link is up, it has issued an LSA of its own and
-- holds it, and it has sent a Hello
pub record SomeRouterWorks : Type 0 where
  pub config : Config
  pub dd_start : ℕ
  pub floor : ℤ
  pub after : WorldValue
  pub runs : RunsOn Does
      (Start config.router_id dd_start floor ∷ Tick config.router_id ∷ LinkUp config.router_id 0
      ∷ []) (new_world (config ∷ [])) 0 after 0
  pub x : Running
  pub at : router_at (world_of after) config.router_id ≡ Some x
  pub link : LinkValue
  pub has_link : slice_get x.state.links 0 ≡ Some link
  pub is_up : is_down link.iface.state ≡ false
  pub entry : Issued
  pub has_issued : HasIssued after config.router_id x entry
  pub datagram : Datagram
  pub fields : Hello
  pub has_greeted : HasGreeted after config.router_id datagram fields
