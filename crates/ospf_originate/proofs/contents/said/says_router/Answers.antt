use Rattle.std.proofs.Common.{◌∙◌}
use Rattle.std.specs.List.{flat_map}
use Rattle.ospf_lsa.specs.Link.{link_bytes}
use Rattle.ospf_originate.specs.Wants.Wanted.{own_links}
use Rattle.ospf_originate.proofs.Wants.SaidLemmas.{body_behind, own_behind}
use Rattle.ospf_originate.proofs.contents.said.says_router.Goals as goal

pub returns : goal.returns
returns c =
    let links = own_links c.args.stub_router c.args.links.now c.args.stubs.now in
    c.is_router_lsa.ensures links
    (own_behind c.args.stub_router c.args.links.now c.args.stubs.now _ _ _ c.behind_interfaces-rest.ensures c.behind_stubs-rest.ensures
    ∙ body_behind (flat_map link_bytes links) c.args.copy.now c.as_bytes-lsa.result.now c.as_bytes-lsa.ensures.bytes)
