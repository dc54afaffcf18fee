use Rattle.std.proofs.Common.{ap, sym}
use Rattle.ospf_adjacency.specs.LinkSteps.Parts.{description_part}
use Rattle.ospf_area.specs.Sending.{context_of}
use Rattle.ospf_area.specs.State.{AreaValue}
use Rattle.ospf_adjacency.proofs.LinkSteps.WorkLemmas.{works_nowhere, is_past}
use Rattle.ospf_adjacency.proofs.link_steps.descriptions.take_description.Goals as goal

pub returns-in-None : goal.returns-in-None
returns-in-None c =
    works_nowhere (description_part (context_of c.args.area.now) c.args.from c.args.fields c.args.headers c.args.area.now.database c.args.area.now.next_dd) c.args.from.link c.args.area.now _ c.args.out.now
    (is_past c.area.inside.links.items c.args.area.now.links c.args.from.link c.get_mut.result (sym (ap (λ (s : AreaValue). s.links) c.area.view_is)) c.in-None.is c.get_mut.follows.1.1.0)
    c.area.view_is
