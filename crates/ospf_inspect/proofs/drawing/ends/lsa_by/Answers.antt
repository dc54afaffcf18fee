use Rattle.std.proofs.Common.{List, ℕ, ap, subst, sym, ◌∙◌}
use Rattle.ospf_graph.proofs.EdgeLists.ListedLemmas.{keyed_router}
use Rattle.ospf_inspect.proofs.AreaDrawing.Drawn.{links_found, links_none}
use Rattle.ospf_lsa.specs.Lsa.{IsRouterLsa, links_of}
use Rattle.ospf_inspect.proofs.drawing.ends.lsa_by.Goals as goal

pub returns-in-Some-clause-is_router : goal.returns-in-Some-clause-is_router
returns-in-Some-clause-is_router c =
    let found = c.in-Some.ensures.found in
    subst (λ (l : List ℕ). IsRouterLsa l) (sym c.view.ensures.same)
    (keyed_router c.args.listing.now c.router.ensures.listing c.args.router c.in-Some.lsa.now found.0 found.1)

pub returns-in-Some-clause-found : goal.returns-in-Some-clause-found
returns-in-Some-clause-found c =
    let found = c.in-Some.ensures.found in
    ap links_of c.view.ensures.same
    ∙ sym (links_found c.args.listing.now c.router.ensures.listing c.args.router c.in-Some.lsa.now found.0 found.1)

pub returns-in-None-clause-none : goal.returns-in-None-clause-none
returns-in-None-clause-none c = links_none c.args.listing.now c.router.ensures.listing c.args.router c.in-None.ensures.none
