use Rattle.std.proofs.Common.{◌≡◌, flat_map, string_bytes, take}
use Rattle.ospf_views.specs.Datagrams.{offer_line}
use Rattle.ospf_views.proofs.datagrams.offer_lines.Given as goal

abbrev pub invariant-loop-offer : goal.invariant-loop-offer
invariant-loop-offer l = string_bytes l.lines ≡ flat_map (offer_line l.router.area l.to l.datagram) (take l.offer-index l.offers)
