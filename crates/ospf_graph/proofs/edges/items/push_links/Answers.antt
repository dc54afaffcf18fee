use Rattle.std.proofs.Common.{◌≡◌, ◌++◌, ◌∷◌, [], sym, ap, ◌∙◌, append_assoc, append-nil}
use Rattle.ospf_graph.specs.EdgeLists.Items.{link_items}
use Rattle.ospf_graph.proofs.EdgeLists.ItemLemmas.{link_items-append}
use Rattle.ospf_graph.proofs.edges.items.push_links.Goals as goal

pub loop-link-init : goal.loop-link-init
loop-link-init c = record { walked = sym c.into_iter-link-iterator.ensures.into_iter_gives; pushed = sym (append-nil c.args.items.now.items) }

pub loop-link-preserved : goal.loop-link-preserved
loop-link-preserved c = record {
  walked =
      c.loop-link.invariant.walked ∙ ap (λ t. c.loop-link.yielded ++ t) c.in-Some.ensures.steps
      ∙ sym (append_assoc c.loop-link.yielded (c.in-Some.link ∷ []) c.next.new.self);
  pushed =
      c.in_ok-push_link.ensures ∙ ap (λ l. l ++ link_items (c.in-Some.link ∷ [])) c.loop-link.invariant.pushed
      ∙ append_assoc c.args.items.now.items (link_items c.loop-link.yielded) (link_items (c.in-Some.link ∷ []))
      ∙ ap (λ l. c.args.items.now.items ++ l) (sym (link_items-append c.loop-link.yielded (c.in-Some.link ∷ [])));
}

pub returns : goal.returns
returns c =
    let all : c.args.links ≡ c.loop-link.yielded = c.loop-link.invariant.walked ∙ ap (λ t. c.loop-link.yielded ++ t) c.in-None.ensures.steps.0 ∙ append-nil c.loop-link.yielded in
    c.loop-link.invariant.pushed ∙ ap (λ l. c.args.items.now.items ++ link_items l) (sym all)
