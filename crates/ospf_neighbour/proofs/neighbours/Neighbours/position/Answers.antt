use Rattle.std.proofs.Common.{◌≡◌, ◌∙◌, ℕ, ap, subst, sym, arith, get_or, List}
use Rattle.std.proofs.lemmas.List.{get_or_default}
use Rattle.ospf_base.specs.declared.ids.RouterId.{RouterId}
use Rattle.ospf_neighbour.specs.Neighbour.{NeighbourValue}
use Rattle.ospf_neighbour.specs.Neighbours.{AreNeighboursRising, neighbour_place, place_for}
use Rattle.ospf_neighbour.proofs.NeighbourLemmas.{IsPlace-for, place_found, place_missing}
use Rattle.ospf_neighbour.proofs.Words.{IsNeighbourPlace}
use Rattle.ospf_neighbour.proofs.neighbours.Neighbours.position.Goals.{else-at-len-via-then-at-len+else-router, else-at-len-via-else-at-len}
use Rattle.ospf_neighbour.proofs.neighbours.Neighbours.position.Goals as goal

place_at : (ns : List NeighbourValue) (q : RouterId) (at : ℕ) → AreNeighboursRising ns → at ≡ place_for ns q.0 → IsNeighbourPlace ns q.0 at
place_at ns q at rises is = subst (IsNeighbourPlace ns q.0) (sym is) (IsPlace-for ns q.0 rises)

pub returns-then-router : goal.returns-then-router
returns-then-router c =
    let ns = c.self.inside.all.items in
    let q = c.args.router in
    let at = c.place_for-at.result in
    let n = c.index.result.now in
    let place = place_at ns q at c.self.invariant.rising (c.place_for-at.ensures ∙ ap (λ (l : List NeighbourValue). place_for l q.0) c.deref.ensures.value) in
    let here : (get_or ns at n).router.0 ≡ q.0 = omega (arith, ap (λ (x : NeighbourValue). x.router.0) c.index.ensures, ap (λ (r : RouterId). r.0) c.router.ensures, c.if-router.true) in
    sym (place_found ns q at n place (omega (arith, c.len.ensures, c.if-at-len.true)) here) ∙ ap (λ (ms : List NeighbourValue). neighbour_place ms q) c.self.view_is

pub returns-else-at-len : goal.returns-else-at-len
returns-else-at-len c =
    let ns = c.self.inside.all.items in
    let place = place_at ns c.args.router c.place_for-at.result c.self.invariant.rising
    (c.place_for-at.ensures ∙ ap (λ (l : List NeighbourValue). place_for l c.args.router.0) c.deref.ensures.value) in
    sym (place_missing ns c.args.router c.place_for-at.result c.self.invariant.rising place
    (elim c.else-at-len.branch [
      | else-at-len-via-then-at-len+else-router w ↦ (λ d lt same. w.if-router.false
          (ap (λ (r : RouterId). r.0) w.router.ensures ∙ ap (λ (x : NeighbourValue). x.router.0) (w.index.ensures ∙ get_or_default ns c.place_for-at.result w.index.result.now d lt) ∙ same))
      | else-at-len-via-else-at-len w ↦ (λ d lt same. absurd (omega (arith, w.if-at-len.false, c.len.ensures)))
    ]))
    ∙ ap (λ (ms : List NeighbourValue). neighbour_place ms c.args.router) c.self.view_is
