use Rattle.std.proofs.Common.{◌≡◌, ◌++◌, ◌∷◌, [], sym, ap, ◌∙◌, append_assoc, append-nil}
use Rattle.ospf_graph.specs.EdgeLists.Items.{attached_items}
use Rattle.ospf_graph.specs.declared.edges.items.GraphItem.TheVariants as item
use Rattle.ospf_graph.proofs.EdgeLists.ItemLemmas.{attached_items-append}
use Rattle.ospf_graph.proofs.edges.items.push_attached.Goals as goal

pub loop-router-init : goal.loop-router-init
loop-router-init c = record { walked = sym c.into_iter-router-iterator.ensures.into_iter_gives; pushed = sym (append-nil c.args.items.now.items) }

pub loop-router-preserved : goal.loop-router-preserved
loop-router-preserved c = record {
  walked =
      c.loop-router.invariant.walked ∙ ap (λ t. c.loop-router.yielded ++ t) c.in-Some.ensures.steps
      ∙ sym (append_assoc c.loop-router.yielded (c.in-Some.router ∷ []) c.next.new.self);
  pushed =
      c.in_ok-push.ensures.items ∙ ap (λ l. l ++ item.Attached c.in-Some.router ∷ []) c.loop-router.invariant.pushed
      ∙ append_assoc c.args.items.now.items (attached_items c.loop-router.yielded) (item.Attached c.in-Some.router ∷ [])
      ∙ ap (λ l. c.args.items.now.items ++ l) (sym (attached_items-append c.loop-router.yielded (c.in-Some.router ∷ [])));
}

pub returns : goal.returns
returns c =
    let all : c.args.attached ≡ c.loop-router.yielded = c.loop-router.invariant.walked ∙ ap (λ t. c.loop-router.yielded ++ t) c.in-None.ensures.steps.0 ∙ append-nil c.loop-router.yielded in
    c.loop-router.invariant.pushed ∙ ap (λ l. c.args.items.now.items ++ attached_items l) (sym all)
