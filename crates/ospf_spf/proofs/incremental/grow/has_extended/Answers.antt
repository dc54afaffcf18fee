use Rattle.std.proofs.Common.{IsTrue, ◌↔◌, subst}
use Rattle.std.specs.List.{Contains}
use Rattle.std.proofs.lemmas.List.Elements.{contains_decides, Decides-contains}
use Rattle.ospf_graph.proofs.StartOrder.{starts_decide}
use Rattle.ospf_graph.specs.contracts.graph.StartPartialEq.TheImpl.{eq-value}
use Rattle.ospf_graph.specs.declared.graph.Start.{Start}
use Rattle.ospf_spf.proofs.incremental.grow.has_extended.Goals as goal

pub returns : goal.returns
returns c =
    let there = c.args.there.now in
    let further = c.extended.result in
    subst (λ (x : Start). IsTrue c.contains.result ↔ Contains there x) c.extended.ensures
    (Decides-contains there further c.contains.result (contains_decides eq-value.it starts_decide there further c.contains.result c.contains.ensures.cases))
