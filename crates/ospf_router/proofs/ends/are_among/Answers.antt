use Rattle.std.proofs.Common.{rules, tests}
use Rattle.std.specs.Bool.{⊤}
use Rattle.std.specs.List.{Contains}
use Rattle.std.proofs.lemmas.Iterator.{YieldsList-from_slice, cases_from_all}
use Rattle.std.proofs.lemmas.List.Elements.{All-contains, All-from_all_within}
use Rattle.ospf_graph.specs.declared.edges.end.End.{End}
use Rattle.ospf_router.proofs.SameEnds.{end_there}
use Rattle.ospf_router.proofs.ends.are_among.Goals as goal

pub returns : goal.returns
returns c holds e m =
    let some = c.args.some.now in
    let there = λ (x : End). Contains c.args.others.now x in
    let all = All-from_all_within there some
    (rw holds at (cases_from_all _ _ _ there (λ x. ⊤) c.all.ensures.ran (YieldsList-from_slice some cc) (λ x q k. search (rules, tests, end_there)) (λ x q k. tt))) in
    All-contains there some e all m
