use Rattle.std.proofs.Common.{not, rules, tests}
use Rattle.std.proofs.lemmas.Iterator.Consumers.{YieldsList-from_first}
use Rattle.std.proofs.lemmas.Iterator.Search.{all_from_yields_List}
use Rattle.ospf_lsa.specs.declared.link.Link.{Link}
use Rattle.ospf_whatif.specs.Failure.{takes}
use Rattle.ospf_whatif.proofs.WithoutLemmas.{all_kept}
use Rattle.ospf_whatif.proofs.area.keeps_all.Goals as goal

pub returns : goal.returns
returns c =
    let f = c.args.failure.now in
    let r = c.args.router in
    let inner = c.args.inner.now in
    all_kept inner f r c.args.links c.all.result
    (all_from_yields_List (λ (l : Link). not (takes inner f r l)) _ _ _ c.all.ensures.ran (YieldsList-from_first (λ x. x) (λ s. s) c.args.links cc)
    (λ x b q k. search (rules, tests)))
