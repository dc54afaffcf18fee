use Rattle.std.proofs.Common.{◌≡◌, ◌∙◌, ap, rules, sym, subst}
use Rattle.std.proofs.lemmas.Result.{IfOk-weaker}
use Rattle.ospf_plan.specs.Joins.{IsJoined}
use Rattle.ospf_plan.specs.Parts.{adjacent_ends, joins_of}
use Rattle.ospf_plan.proofs.PartLemmas.{joined_of, way_of}
use Rattle.ospf_plan.proofs.parts.reached_of.Goals as goal

pub returns : goal.returns
returns c =
    let ends = adjacent_ends c.args.ends.now in
    let some : c.deref.result.now ≡ ends = search rules in
    let are : c.deref-2.result.now ≡ joins_of ends = c.deref-2.ensures.value ∙ c.in_ok-joins.ensures ∙ ap joins_of some in
    IfOk-weaker c.joined_with.result _ _ (λ reached is q. (
      (λ t. way_of ends q (subst (λ js. IsJoined js 0 q) are ((is q).0 t))),
      (λ w. (is q).1 (subst (λ js. IsJoined js 0 q) (sym are) (joined_of ends q w))),
    )) c.joined_with.ensures
