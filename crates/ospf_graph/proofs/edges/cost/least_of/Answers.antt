use Rattle.std.proofs.Common.{◌++◌, ◌∷◌, [], Some, ℕ, ap, sym, subst, append_assoc, ◌∙◌}
use Rattle.ospf_graph.specs.EdgeLists.Listed.{advertisements_of}
use Rattle.ospf_graph.specs.EdgeLists.Costs.{IsLeastOf, Leads}
use Rattle.ospf_graph.proofs.EdgeLists.LinkLists.{least_more}
use Rattle.ospf_graph.proofs.edges.cost.least_of.Goals as goal

pub loop-link-preserved-then-leads : goal.loop-link-preserved-then-leads
loop-link-preserved-then-leads c =
    let P = Leads (advertisements_of c.args.listing.now) c.args.router c.args.hop.now in
    let seen = c.loop-link.yielded in
    let link = c.in-Some.link in
    record {
      walked = c.loop-link.invariant.walked ∙ ap (λ t. seen ++ t) c.in-Some.ensures.steps ∙ sym (append_assoc seen (link ∷ []) c.next.new.self);
      least = subst (λ (n : ℕ). IsLeastOf P (seen ++ link ∷ []) (Some n)) (sym c.lesser.ensures)
          (least_more P seen link c.loop-link.least (c.leads.ensures.0 c.if-leads.true) c.loop-link.invariant.least);
    }
