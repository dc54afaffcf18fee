use Rattle.std.proofs.Common.{◌∙◌, rules}
use Rattle.ospf_originate.proofs.Wants.MadeLemmas.{and_true, and_false}
use Rattle.ospf_originate.proofs.Wants.SaidLemmas.{network_says, long_body}
use Rattle.ospf_originate.proofs.contents.said.is_network_lsa.Goals as goal

pub returns-then-same : goal.returns-then-same
returns-then-same c = λ routers is. and_true c.has_front-same.result c.is_end-end.result c.if-same.true ∙ network_says c.args.lsa.now c.as_bytes-lsa.result.now c.args.id c.args.router c.args.mask routers c.u16_at-size.result c.has_front-same.result c.is_end-end.result _ c.as_bytes-lsa.ensures.bytes c.as_bytes-lsa.ensures.valid (long_body c.args.lsa.now c.as_bytes-lsa.result.now c.as_bytes-lsa.ensures.bytes c.as_bytes-lsa.ensures.kind c.as_bytes-lsa.ensures.router c.as_bytes-lsa.ensures.network) c.u16_at-size.ensures (search rules) c.is_end-end.ensures is

pub returns-else-same : goal.returns-else-same
returns-else-same c = λ routers is. and_false c.has_front-same.result c.is_end-end.result c.if-same.false ∙ network_says c.args.lsa.now c.as_bytes-lsa.result.now c.args.id c.args.router c.args.mask routers c.u16_at-size.result c.has_front-same.result c.is_end-end.result _ c.as_bytes-lsa.ensures.bytes c.as_bytes-lsa.ensures.valid (long_body c.args.lsa.now c.as_bytes-lsa.result.now c.as_bytes-lsa.ensures.bytes c.as_bytes-lsa.ensures.kind c.as_bytes-lsa.ensures.router c.as_bytes-lsa.ensures.network) c.u16_at-size.ensures (search rules) c.is_end-end.ensures is
