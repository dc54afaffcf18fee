use Rattle.std.proofs.Common.{ap, sym, ◌∙◌}
use Rattle.ospf_inspect.proofs.AreaDrawing.Drawn.{attached_found, attached_none}
use Rattle.ospf_lsa.specs.Lsa.{attached_of}
use Rattle.ospf_inspect.proofs.drawing.ends.attached_to.Goals as goal

pub returns-in-Some-clause-found : goal.returns-in-Some-clause-found
returns-in-Some-clause-found c =
    c.attached.ensures ∙ ap attached_of c.view.ensures.same
    ∙ sym (attached_found c.args.id c.args.listing.now c.in-Some.lsa.now c.network.ensures.listing c.in-Some.ensures.found)

pub returns-in-None-clause-none : goal.returns-in-None-clause-none
returns-in-None-clause-none c = attached_none c.args.id c.args.listing.now c.in-None.ensures.none
