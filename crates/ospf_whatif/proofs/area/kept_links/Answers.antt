use Rattle.std.proofs.Common.{◌≡◌, ◌++◌, ◌∷◌, [], sym, ap, ◌∙◌, append_assoc, append-nil}
use Rattle.ospf_whatif.specs.Failure.{kept_links}
use Rattle.ospf_whatif.proofs.WithoutLemmas.{kept_links-append}
use Rattle.ospf_whatif.proofs.area.kept_links.Goals as goal

pub loop-link-init : goal.loop-link-init
loop-link-init c = record { walked = sym c.into_iter-link-iterator.ensures.into_iter_gives; kept_so_far = c.new-kept.ensures.items }

pub loop-link-preserved : goal.loop-link-preserved
loop-link-preserved c = record {
  walked =
      c.loop-link.invariant.walked ∙ ap (λ t. c.loop-link.yielded ++ t) c.in-Some.ensures.steps
      ∙ sym (append_assoc c.loop-link.yielded (c.in-Some.link ∷ []) c.next.new.self);
  kept_so_far =
      c.in_ok-push_kept.ensures ∙ ap (λ l. l ++ kept_links c.args.inner.now c.args.failure.now c.args.router (c.in-Some.link ∷ [])) c.loop-link.invariant.kept_so_far
      ∙ sym (kept_links-append c.args.inner.now c.args.failure.now c.args.router c.loop-link.yielded (c.in-Some.link ∷ []));
}

pub returns : goal.returns
returns c =
    let all : c.args.links ≡ c.loop-link.yielded = c.loop-link.invariant.walked ∙ ap (λ t. c.loop-link.yielded ++ t) c.in-None.ensures.steps.0 ∙ append-nil c.loop-link.yielded in
    c.loop-link.invariant.kept_so_far ∙ ap (λ l. kept_links c.args.inner.now c.args.failure.now c.args.router l) (sym all)
