use Rattle.std.proofs.Common.{◌∙◌, ℕ, List, Option, get_or, option_copied, sym, ap}
use Rattle.ospf_base.specs.declared.stub_network.StubNetwork.{StubNetwork}
use Rattle.ospf_lsa.specs.Link.{link_bytes}
use Rattle.ospf_lsa.specs.declared.link.Link.{Link}
use Rattle.ospf_originate.specs.Wants.Said.{behind, stub_bytes}
use Rattle.ospf_originate.proofs.Wants.SaidLemmas.{behind_more}
use Rattle.ospf_originate.proofs.contents.said.behind_stubs.Goals as goal

pub loop-stub-preserved : goal.loop-stub-preserved
loop-stub-preserved c =
    let here : StubNetwork = c.stub-item.result in
    let at : StubNetwork = get_or c.args.stubs.now c.loop-stub.stub-index here in
    c.behind_link-rest.ensures
    ∙ ap (λ (l : Link). behind (link_bytes l) (option_copied c.loop-stub.rest)) c.stub_link.ensures
    ∙ ap (λ (n : StubNetwork). behind (stub_bytes n) (option_copied c.loop-stub.rest)) c.stub-item.is
    ∙ ap (λ (o : Option (List ℕ)). behind (stub_bytes at) o) c.loop-stub.invariant
    ∙ sym (behind_more stub_bytes c.args.stubs.now c.loop-stub.stub-index here (option_copied c.args.bytes) c.loop-stub-test.true)
