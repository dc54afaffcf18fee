use Rattle.std.proofs.Common.{rules}
use borrow.Author.Tests.{tests}
use Rattle.std.proofs.lemmas.Iterator.{cases_from_any}
use Rattle.std.proofs.lemmas.Iterator.Consumers.{YieldsList-from_first}
use Rattle.ospf_graph.proofs.EdgeLists.LinkLists.{names_by}
use Rattle.ospf_graph.specs.EdgeLists.Costs.{IsTo}
use Rattle.ospf_graph.proofs.edges.lookups.has_link.Goals as goal

pub returns : goal.returns
returns c =
    names_by c.args.kind c.args.id c.any.result c.args.links (cases_from_any _ _ _ (IsTo c.args.kind c.args.id) (λ l. IsTo c.args.kind c.args.id l → ⊥) c.any.ensures.ran
    (YieldsList-from_first (λ x. x) (λ s. s) c.args.links cc) (λ x q k. search (rules, tests)) (λ x q k. search (rules, tests)))
