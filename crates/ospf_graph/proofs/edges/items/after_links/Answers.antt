use Rattle.std.proofs.Common.{◌≡◌, ◌++◌, ◌∷◌, [], ap, ◌∙◌}
use Rattle.ospf_graph.specs.EdgeLists.Items.{link_items}
use Rattle.ospf_graph.proofs.EdgeLists.ItemLemmas.{link_items-append, then_never}
use Rattle.ospf_graph.proofs.edges.items.after_links.Goals as goal

pub returns-in_default-clause-none : goal.returns-in_default-clause-none
returns-in_default-clause-none c rest both =
    let one = link_items (c.in-Some.link ∷ []) in
    let behind = link_items c.next.new.self in
    let all : link_items c.args.links ≡ link_items c.loop-link.yielded ++ (one ++ behind) =
    ap link_items (c.loop-link.invariant.walked ∙ ap (λ t. c.loop-link.yielded ++ t) c.in-Some.ensures.steps)
    ∙ link_items-append c.loop-link.yielded (c.in-Some.link ∷ c.next.new.self) ∙ ap (λ l. link_items c.loop-link.yielded ++ l) (link_items-append (c.in-Some.link ∷ []) c.next.new.self) in
    then_never c.args.items.now (link_items c.loop-link.yielded) c.loop-link.rest.now one c.loop-link.invariant.behind c.in_default.ensures.none behind rest
    (both ∙ ap (λ l. l ++ rest) all)
