use Rattle.std.proofs.Common.{rules, ◌≡◌, ◌∙◌, ap, subst, not, filter}
use Rattle.std.proofs.lemmas.Fn.{filter_same}
use Rattle.ospf_plan.specs.declared.ends.LinkEnd.{LinkEnd}
use Rattle.ospf_plan.specs.Unheard.{AreByNetwork}
use Rattle.ospf_plan.specs.Wires.{has_wire, is_wired, wire_key}
use Rattle.ospf_plan.proofs.UnheardLemmas.{one_function}
use Rattle.ospf_plan.proofs.unheard.gather.Goals as goal

pub returns : goal.returns
returns c =
    let ends = c.args.ends.now in
    let outward = c.in_ok-outward.outward in
    let kept : c.retain.new.self.items ≡ filter (λ (e : LinkEnd). not (has_wire outward (wire_key e 0))) ends =
    filter_same _ (λ (e : LinkEnd). not (has_wire outward (wire_key e 0))) _ (λ x b f' k. search rules) _ _ c.retain.ensures.filtered
    ∙ ap (λ es. filter (λ (e : LinkEnd). not (has_wire outward (wire_key e 0))) es) c.in_ok-rest.ensures.items in
    let are = one_function (has_wire outward) (is_wired c.args.wires.now) c.in_ok-outward.ensures in
    record {
      outward_are = λ e. c.in_ok-outward.ensures (wire_key e 0);
      all_are = c.in_ok-all.ensures;
      inward_are = subst (AreByNetwork c.in_ok-inward.inward)
          (c.deref.ensures.value ∙ kept ∙ ap (λ has. filter (λ (e : LinkEnd). not (has (wire_key e 0))) ends) are) c.in_ok-inward.ensures;
    }
