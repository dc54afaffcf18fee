-- How Database Descriptions are filled.
use Rattle.std.proofs.Common.{◌≡◌, ◌+◌, ◌*◌, List, length, take, drop, refl, arith}
use Rattle.std.proofs.lemmas.List.{length-drop, length-take, take-append-drop}
use Rattle.ospf_base.specs.Constants.{router_options}
use Rattle.ospf_lsa.specs.declared.header.LsaHeader.{LsaHeader}
use Rattle.ospf_packet.specs.Meaning.{description}
use Rattle.ospf_packet.specs.declared.body.Description.{Description}
use Rattle.ospf_packet.proofs.BodyLengths.{description_length}
use Rattle.ospf_exchange.specs.Exchange.{dd_room, describes}
use Rattle.ospf_area.specs.Packing.{ip_length}
use Rattle.ospf_area.specs.Sending.{packet_from}
use Rattle.ospf_area.specs.declared.sending.RouterContext.{RouterContext}
use Rattle.ospf_area.proofs.PackLemmas.{filled, ip_length-is}
use Rattle.ospf_adjacency.specs.Laws.{DescriptionsAreFilled}

description_sized : (own : RouterContext) (fields : Description) (headers : List LsaHeader) → ip_length (packet_from own (description fields headers)) ≡ 52 + length headers * 20
description_sized own fields headers = omega (arith, ip_length-is own (description fields headers), description_length fields headers)

pub descriptions_are_filled : DescriptionsAreFilled
unfolding describes
descriptions_are_filled own i local number n within =
    let m = describes local number n in
    let fields : Description = record { mtu = local.mtu; options = router_options; flags = m.exchanging.flags; number = m.exchanging.number } in
    let room = dd_room local.mtu in
    let long = length-take room n.summary in
    let left = length-drop room n.summary in (
      fields,
      refl,
      filled (λ headers. packet_from own (description fields headers)) local.mtu 52 20 room n.summary (take room n.summary) (drop room n.summary)
          (description_sized own fields) (omega arith) within refl (take-append-drop room n.summary) (omega arith) (omega (arith, left)),
    )
