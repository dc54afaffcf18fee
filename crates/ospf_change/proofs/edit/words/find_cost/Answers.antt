use Rattle.std.proofs.Common.{◌≡◌, ◌≤◌, ◌∷◌, [], ℕ, arith, List, length, subst, sym}
use Rattle.ospf_graph.specs.EdgeLists.Listed.{advertisement_of}
use Rattle.ospf_change.specs.Edit.Words.{IsCostWord}
use Rattle.ospf_change.specs.declared.edit.change.Change.{Change}
use Rattle.ospf_change.proofs.Edits.WordLemmas.{cost_found, cost_in_none, each_more, each_of_all}
use Rattle.ospf_change.proofs.edit.words.find_cost.Goals as goal

pub returns-in-Some-clause-some : goal.returns-in-Some-clause-some
returns-in-Some-clause-some c =
    let here : IsCostWord (advertisement_of c.view.result ∷ []) c.args.word.now c.in-Some.change = rw c.in-Some.is at c.in_ok-change.ensures.some in
    cost_found c.args.word.now c.in-Some.change c.lsas-lsa-items.result.now c.args.listing.now c.lsa-item.result c.lsas-lsa-items.ensures.lsas
    (c.loop-lsa.lsa-index, c.loop-lsa-test.true, sym c.lsa-item.is)
    (subst (λ (l : List ℕ). IsCostWord (advertisement_of l ∷ []) c.args.word.now c.in-Some.change) c.view.ensures.same here)

pub loop-lsa-preserved : goal.loop-lsa-preserved
loop-lsa-preserved c =
    let here : (d : Change) → IsCostWord (advertisement_of c.view.result ∷ []) c.args.word.now d → ⊥ = rw c.in_default.is at c.in_ok-change.ensures.none in
    each_more (λ (l : List ℕ). (d : Change) → IsCostWord (advertisement_of l ∷ []) c.args.word.now d → ⊥) c.lsas-lsa-items.result.now c.loop-lsa.lsa-index c.lsa-item.result
    c.loop-lsa-test.true c.lsa-item.is c.loop-lsa.invariant
    (subst (λ (l : List ℕ). (d : Change) → IsCostWord (advertisement_of l ∷ []) c.args.word.now d → ⊥) c.view.ensures.same here)

pub returns-clause-none : goal.returns-clause-none
returns-clause-none c = λ d.
    let end : length c.lsas-lsa-items.result.now ≤ c.loop-lsa.lsa-index = omega (arith, c.loop-lsa-test.false) in
    cost_in_none c.args.word.now d c.lsas-lsa-items.result.now c.args.listing.now c.lsas-lsa-items.ensures.lsas
    (λ lsa m. each_of_all (λ (l : List ℕ). (e : Change) → IsCostWord (advertisement_of l ∷ []) c.args.word.now e → ⊥) c.lsas-lsa-items.result.now c.loop-lsa.lsa-index end
    c.loop-lsa.invariant lsa m d)
