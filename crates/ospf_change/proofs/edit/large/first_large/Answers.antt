use Rattle.std.proofs.Common.{◌≤◌, ◌∙◌, ℕ, List, length, ap, sym, subst, arith}
use Rattle.ospf_base.specs.declared.ids.LsaKey.{LsaKey}
use Rattle.ospf_lsa.specs.Lsa.{key_of}
use Rattle.ospf_graph.specs.EdgeLists.Listed.{advertisement_of}
use Rattle.ospf_whatif.specs.Failure.{IsLarge}
use Rattle.ospf_change.proofs.Edits.LargeLemmas.{first_is, none_at_start, none_more, none_of_all}
use Rattle.ospf_change.proofs.edit.large.first_large.Goals as goal

pub loop-lsa-init : goal.loop-lsa-init
loop-lsa-init c = none_at_start c.lsas-lsa-items.result.now

pub loop-lsa-preserved : goal.loop-lsa-preserved
loop-lsa-preserved c =
    none_more c.lsas-lsa-items.result.now c.loop-lsa.lsa-index c.lsa-item.result c.loop-lsa-test.true c.lsa-item.is c.loop-lsa.invariant
    (λ large. let yes = c.is_large.ensures.1 (subst (λ (l : List ℕ). IsLarge (advertisement_of l)) (sym c.view-view.ensures.same) large) in let not_so = c.if-is_large.false in cc)

pub returns-then-is_large-clause-some : goal.returns-then-is_large-clause-some
returns-then-is_large-clause-some c =
    first_is c.lsas-lsa-items.result.now c.loop-lsa.lsa-index c.lsa-item.result c.loop-lsa-test.true c.lsa-item.is c.loop-lsa.invariant c.args.listing.now _
    c.lsas-lsa-items.ensures.lsas (subst (λ (l : List ℕ). IsLarge (advertisement_of l)) c.view-view.ensures.same (c.is_large.ensures.0 c.if-is_large.true))
    (ap (λ (k : LsaKey). k.router) (c.key.ensures ∙ ap key_of c.view-view.ensures.same))

pub returns-clause-none : goal.returns-clause-none
returns-clause-none c =
    let end : length c.lsas-lsa-items.result.now ≤ c.loop-lsa.lsa-index = omega (arith, c.loop-lsa-test.false) in
    none_of_all c.lsas-lsa-items.result.now c.args.listing.now c.loop-lsa.lsa-index end c.lsas-lsa-items.ensures.lsas c.loop-lsa.invariant
