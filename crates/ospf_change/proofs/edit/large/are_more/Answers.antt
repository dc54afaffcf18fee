use Rattle.std.proofs.Common.{◌++◌, ◌∷◌, [], refl, sym, ap, ◌∙◌, append_assoc, arith, length-append}
use Rattle.ospf_change.proofs.Edits.LargeLemmas.{seen_all, seen_more}
use Rattle.ospf_change.proofs.edit.large.are_more.Goals as goal

pub loop-link-init : goal.loop-link-init
loop-link-init c = record { walked = sym c.into_iter-link-iterator.ensures.into_iter_gives; counted = omega arith }

pub loop-link-preserved : goal.loop-link-preserved
loop-link-preserved c = record {
  walked =
      c.loop-link.invariant.walked ∙ ap (λ t. c.loop-link.yielded ++ t) c.in-Some.ensures.steps
      ∙ sym (append_assoc c.loop-link.yielded (c.in-Some.link ∷ []) c.next.new.self);
  counted = omega (arith, length-append c.loop-link.yielded (c.in-Some.link ∷ []), c.loop-link.invariant.counted);
}

pub returns-then-left-eq0 : goal.returns-then-left-eq0
returns-then-left-eq0 c = (
  λ _. seen_more c.args.links c.loop-link.yielded c.loop-link.link-iterator c.in-Some.link c.next.new.self c.args.most c.loop-link.left c.loop-link.invariant.walked
      c.in-Some.ensures.steps c.loop-link.invariant.counted c.if-left-eq0.true,
  λ _. refl,
)

pub returns : goal.returns
returns c = (
  λ yes. cc,
  λ more. absurd (seen_all c.args.links c.loop-link.yielded c.loop-link.link-iterator c.args.most c.loop-link.left c.loop-link.invariant.walked c.in-None.ensures.steps.0
      c.loop-link.invariant.counted more),
)
