use Rattle.std.proofs.Common.{◌≡◌, ◌++◌, ◌∷◌, [], ap, ◌∙◌}
use Rattle.ospf_graph.specs.EdgeLists.Items.{attached_items}
use Rattle.ospf_graph.proofs.EdgeLists.ItemLemmas.{attached_items-append, then_never}
use Rattle.ospf_graph.proofs.edges.items.after_attached.Goals as goal

pub returns-in_default-clause-none : goal.returns-in_default-clause-none
returns-in_default-clause-none c rest both =
    let one = attached_items (c.in-Some.router ∷ []) in
    let behind = attached_items c.next.new.self in
    let all : attached_items c.args.attached ≡ attached_items c.loop-router.yielded ++ (one ++ behind) =
    ap attached_items (c.loop-router.invariant.walked ∙ ap (λ t. c.loop-router.yielded ++ t) c.in-Some.ensures.steps)
    ∙ attached_items-append c.loop-router.yielded (c.in-Some.router ∷ c.next.new.self) ∙ ap (λ l. attached_items c.loop-router.yielded ++ l) (attached_items-append (c.in-Some.router ∷ []) c.next.new.self) in
    then_never c.args.items.now (attached_items c.loop-router.yielded) c.loop-router.rest.now one c.loop-router.invariant.behind c.in_default.ensures.none behind rest
    (both ∙ ap (λ l. l ++ rest) all)
