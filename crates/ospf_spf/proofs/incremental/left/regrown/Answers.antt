use Rattle.std.proofs.Common.{ap, subst}
use Rattle.std.specs.List.{Contains}
use Rattle.ospf_graph.specs.declared.graph.Vertex.{Vertex}
use Rattle.ospf_spf.specs.IncrementalSpf.Growth.{OffersIn, PaysAll}
use Rattle.ospf_spf.specs.IncrementalSpf.Left.{AreBeside}
use Rattle.ospf_spf.proofs.IncrementalSpf.LeftLemmas.{beside_grows, regrows}
use Rattle.ospf_spf.proofs.incremental.left.regrown.Goals as goal

pub returns-then-are_among-clause-regrown : goal.returns-then-are_among-clause-regrown
returns-then-are_among-clause-regrown c left takes t closed =
    let edges = c.args.edges.now in
    let less = c.args.less.now in
    let f = c.args.found.now.reached.items in
    let gone = c.args.gone.now in
    let root = c.args.root in
    let inner = c.in_ok-inner.inner.items in
    let own = c.in_ok-own.own in
    let grown = c.settle.new.found in
    let touched = c.settle.new.changed.items in
    let ends = c.in_ok-inner.ensures.members in
    let b = subst (λ l. AreBeside f root l gone own.reached.items) c.deref.ensures.value c.in_ok-own.ensures.beside in
    let offered = subst (λ l. OffersIn own l c.new-waits.result c.offer_all.new.waits) c.deref-2.ensures.value c.in_ok-offer_all.ensures in
    let begins = beside_grows edges less left inner root f gone t takes closed ends own.reached.items c.new-waits.result.list c.offer_all.new.waits.list
    (ap (λ w. w.list) c.new-waits.ensures) b offered in
    let settles = subst (λ l. PaysAll l c.offer_all.new.waits own grown) c.deref-3.ensures.value (c.in_ok-settle.ensures.settles c.if-branch.true) in
    let all : (v : Vertex) → Contains touched v → Contains gone v =
    subst (λ l. (v : Vertex) → Contains l v → Contains gone v) c.deref-then-branch.ensures.value (c.are_among.ensures c.if-are_among.true) in
    regrows edges less left inner root f gone t takes closed ends own.reached.items grown.reached.items touched b c.in_ok-settle.ensures.spares all (settles left root begins)
