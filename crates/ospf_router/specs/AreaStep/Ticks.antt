-- What a tick does (RFC 2328, sections 9.3, 9.5, 10.3, 10.8, 10.9, 13.5, 13.6 and 14).
use Rattle.std.specs.Prelude.{◌≡◌, [], map}
use Rattle.std.specs.List.{flat_map}
use Rattle.ospf_area.specs.Acting.{OnEachLink}
use Rattle.ospf_area.specs.Outputs.{OutputsValue}
use Rattle.ospf_area.specs.Sending.{context_of}
use Rattle.ospf_area.specs.State.{AreaValue, LinkValue}
use Rattle.ospf_adjacency.specs.Links.{hello_ticked}
use Rattle.ospf_adjacency.specs.Repeats.{due_keys}
use Rattle.ospf_adjacency.specs.LinkSteps.Parts.{hello_out, link_timed}
use Rattle.ospf_adjacency.specs.LinkSteps.Repeats.{link_repeated, link_repeats_out, marked_all}
use Rattle.ospf_area.specs.Updates.Acks.{delayed_out_on}
use Rattle.ospf_area.specs.Updates.Aging.{TickAges}

-- what is due is sent again on each link (10.8, 10.9, 13.6), and the keys whose copies
-- go out are marked (13, step 8)
abbrev pub RepeatsAll : AreaValue → OutputsValue → OutputsValue → AreaValue → Type 0
RepeatsAll s out out' after =
    let keys =
    flat_map
    (λ (link : LinkValue). flat_map (due_keys link.settings.retransmit s.tick s.database)
    link.neighbours) s.links in
    let marked = record s { sent = marked_all keys s.sent } in
    OnEachLink (link_repeated (context_of s) s.database)
    (link_repeats_out (context_of s) s.database)
    marked out out' after

-- a tick: ages, timers, Hellos, acknowledgements and repeats, in this order
pub record TakesTick (s : AreaValue) (out out' : OutputsValue) (after : AreaValue) : Type 0 where
  -- all ages below MaxAge rise, and the copies that reach it are sent to all (14)
  pub aged : AreaValue
  pub aged_out : OutputsValue
  pub ages : TickAges s out aged_out aged
  -- the timers of each link, a tick later (9.3, 10.3)
  pub timed : AreaValue
  pub timers : timed ≡ record aged { links = map link_timed aged.links }
  -- the Hellos that are due, and the Hello timer of each link, a tick later (9.5)
  pub helloed : AreaValue
  pub helloed_out : OutputsValue
  pub hellos : OnEachLink (λ link. record link { iface = hello_ticked link.iface })
      (hello_out (context_of timed)) timed aged_out helloed_out helloed
  -- the delayed acknowledgements, none of which is delayed any longer (13.5)
  pub acknowledged : AreaValue
  pub acknowledged_out : OutputsValue
  pub acknowledgements : OnEachLink (λ link. record link { delayed = [] })
      (delayed_out_on (context_of helloed)) helloed helloed_out acknowledged_out acknowledged
  -- what is sent again (10.8, 10.9, 13.6)
  pub repeats : RepeatsAll acknowledged acknowledged_out out' after
