use Rattle.std.proofs.Common.{◌≡◌, ◌≤◌, ◌∙◌, false, length, inl, inr, refl, sym, subst}
use Rattle.std.proofs.lemmas.List.{take_all}
use Rattle.ospf_graph.specs.declared.edges.end.End.{End}
use Rattle.ospf_graph.proofs.ListLemmas.{more_members}
use Rattle.ospf_whatif.specs.Outage.{left_of_area}
use Rattle.ospf_whatif.specs.Told.{IsLive}
use Rattle.ospf_whatif.proofs.OutageLemmas.{false_true}
use Rattle.ospf_whatif.proofs.root.is_told.Goals as goal

pub returns-then-tells : goal.returns-then-tells
returns-then-tells c = λ adverts graph is.
    let h = (c.tells.ensures adverts graph is).0 c.if-tells.true in
    ((λ t. (c.end-item.result, (c.loop-end.end-index, c.loop-end-test.true, sym c.end-item.is), h.0, h.1)), (λ h. refl))

pub loop-end-preserved : goal.loop-end-preserved
loop-end-preserved c = λ adverts graph is h. elim ((more_members c.args.ends.now c.loop-end.end-index c.end-item.result c.loop-end-test.true h.0).0 h.1) [
  | inl before ↦ c.loop-end.invariant adverts graph is (h.0, before, h.2, h.3)
  | inr here ↦ false_true c.tells.result c.if-tells.false
      ((c.tells.ensures adverts graph is).1
      (subst (λ (x : End). (x.prefix ≡ c.args.prefix) × IsLive (left_of_area adverts c.args.outage.now) x.vertex) (sym (c.end-item.is ∙ here)) (h.2, h.3)))
]

pub returns : goal.returns
returns c = λ adverts graph is.
    let end : length c.args.ends.now ≤ c.loop-end.end-index = c.loop-end-test.false in
    let none = rw take_all at c.loop-end.invariant in
    ((λ t. absurd (false_true false refl t)), (λ h. absurd (none adverts graph is h)))
