use Rattle.std.proofs.Common.{◌≡◌, ◌∷◌, [], IfNone, IfOk, Option, Result, Some, None, Ok, Err, ap, subst, sym, ◌∙◌}
use Rattle.ospf_base.specs.declared.ids.LsaKey.{LsaKey}
use Rattle.ospf_graph.specs.Advertisements.{Advertisement, router_lsa}
use Rattle.ospf_graph.specs.EdgeLists.Listed.{advertisement_of}
use Rattle.ospf_graph.proofs.EdgeLists.ListedLemmas.{router_of}
use Rattle.ospf_change.specs.Edit.Words.{IsCostWord, IsCostWordOf}
use Rattle.ospf_change.specs.declared.edit.change.Change.{Change}
use Rattle.ospf_change.proofs.Edits.WordLemmas.{of_router}
use Rattle.ospf_change.proofs.edit.words.cost_in.Goals as goal

none_too : {X E : Type 0} (r : Result (Option X) E) (P Q : Type 0) → (P → Q) → IfOk r (λ found. IfNone found P) → IfOk r (λ found. IfNone found Q)
none_too (Ok None) P Q f p = f p
none_too (Ok (Some x)) P Q f p = tt
none_too (Err e) P Q f p = tt

pub returns-in-Router-clause-none : goal.returns-in-Router-clause-none
returns-in-Router-clause-none c =
    let routers = ap (λ (k : LsaKey). k.router) c.key.ensures in
    let read : advertisement_of c.args.lsa.now ≡ router_lsa c.key.result.router c.links.result =
    router_of c.args.lsa.now (c.kind.ensures.router c.in-Router.is) ∙ (λ i. router_lsa (sym routers i) (sym c.links.ensures i)) in
    none_too c.cost_among.result ((d : Change) → IsCostWordOf c.key.result.router c.links.result c.args.word.now d → ⊥)
    ((d : Change) → IsCostWord (advertisement_of c.args.lsa.now ∷ []) c.args.word.now d → ⊥)
    (λ none d is. none d (of_router c.args.word.now d c.key.result.router c.links.result (subst (λ (a : Advertisement). IsCostWord (a ∷ []) c.args.word.now d) read is)))
    c.cost_among.ensures.none
