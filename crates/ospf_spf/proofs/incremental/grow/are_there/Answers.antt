use Rattle.std.proofs.Common.{rules, tests}
use Rattle.std.specs.Bool.{⊤}
use Rattle.std.specs.List.{Contains}
use Rattle.std.proofs.lemmas.Iterator.{YieldsList-from_slice, cases_from_all}
use Rattle.std.proofs.lemmas.List.Elements.{All-from_all_within}
use Rattle.ospf_graph.specs.declared.graph.Start.{Start}
use Rattle.ospf_graph.specs.Tree.{extend}
use Rattle.ospf_spf.proofs.incremental.grow.are_there.Goals as goal

pub returns : goal.returns
returns c holds =
    let starts = c.args.starts.now in
    let there = λ (x : Start). Contains c.args.there.now (extend x c.args.edge.to c.args.edge.link_data) in
    All-from_all_within there starts
    (rw holds at (cases_from_all _ _ _ there (λ x. ⊤) c.all.ensures.ran (YieldsList-from_slice starts cc) (λ x q k. search (rules, tests)) (λ x q k. tt)))
