use Rattle.std.proofs.Common.{◌≡◌, ◌++◌, ◌∷◌, [], sym, ap, ◌∙◌, append_assoc, append-nil}
use Rattle.ospf_change.proofs.edit.applied.listed.Goals as goal

pub loop-link-init : goal.loop-link-init
loop-link-init c = record { walked = sym c.into_iter-link-iterator.ensures.into_iter_gives; all_so_far = c.new-all.ensures.items }

pub loop-link-preserved : goal.loop-link-preserved
loop-link-preserved c = record {
  walked =
      c.loop-link.invariant.walked ∙ ap (λ t. c.loop-link.yielded ++ t) c.in-Some.ensures.steps
      ∙ sym (append_assoc c.loop-link.yielded (c.in-Some.link ∷ []) c.next.new.self);
  all_so_far = c.in_ok-push.ensures.items ∙ ap (λ l. l ++ c.in-Some.link ∷ []) c.loop-link.invariant.all_so_far;
}

pub returns : goal.returns
returns c =
    let all : c.args.links ≡ c.loop-link.yielded = c.loop-link.invariant.walked ∙ ap (λ t. c.loop-link.yielded ++ t) c.in-None.ensures.steps.0 ∙ append-nil c.loop-link.yielded in
    c.loop-link.invariant.all_so_far ∙ sym all
