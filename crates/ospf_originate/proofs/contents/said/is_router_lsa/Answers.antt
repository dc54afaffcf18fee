use Rattle.std.proofs.Common.{◌∙◌, rules}
use Rattle.ospf_originate.proofs.Wants.MadeLemmas.{and_true, and_false}
use Rattle.ospf_originate.proofs.Wants.SaidLemmas.{router_says, long_body, long_size}
use Rattle.ospf_originate.proofs.contents.said.is_router_lsa.Goals as goal

pub link_count-requires : goal.link_count-requires
link_count-requires c = long_size c.args.lsa.now c.as_bytes-lsa.result.now c.u16_at-size.result c.as_bytes-lsa.ensures.bytes c.as_bytes-lsa.ensures.valid (long_body c.args.lsa.now c.as_bytes-lsa.result.now c.as_bytes-lsa.ensures.bytes c.as_bytes-lsa.ensures.kind c.as_bytes-lsa.ensures.router c.as_bytes-lsa.ensures.network) c.u16_at-size.ensures

pub returns-then-same : goal.returns-then-same
returns-then-same c = λ links is. and_true c.has_front-same.result c.is_end-end.result c.if-same.true ∙ router_says c.args.lsa.now c.as_bytes-lsa.result.now c.args.router links c.u16_at-size.result c.has_front-same.result c.is_end-end.result _ c.as_bytes-lsa.ensures.bytes c.as_bytes-lsa.ensures.valid (long_body c.args.lsa.now c.as_bytes-lsa.result.now c.as_bytes-lsa.ensures.bytes c.as_bytes-lsa.ensures.kind c.as_bytes-lsa.ensures.router c.as_bytes-lsa.ensures.network) c.u16_at-size.ensures (search rules) c.is_end-end.ensures is

pub returns-else-same : goal.returns-else-same
returns-else-same c = λ links is. and_false c.has_front-same.result c.is_end-end.result c.if-same.false ∙ router_says c.args.lsa.now c.as_bytes-lsa.result.now c.args.router links c.u16_at-size.result c.has_front-same.result c.is_end-end.result _ c.as_bytes-lsa.ensures.bytes c.as_bytes-lsa.ensures.valid (long_body c.args.lsa.now c.as_bytes-lsa.result.now c.as_bytes-lsa.ensures.bytes c.as_bytes-lsa.ensures.kind c.as_bytes-lsa.ensures.router c.as_bytes-lsa.ensures.network) c.u16_at-size.ensures (search rules) c.is_end-end.ensures is
