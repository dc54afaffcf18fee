use Rattle.std.proofs.Common.{◌≡◌, ◌∙◌, List, Option, None, Some, IsTrue, Bool, true, false, ap, sym, slice_get}
use Rattle.std.proofs.lemmas.Option.{get_or_from_slice_get}
use Rattle.ospf_neighbour.specs.Neighbour.{NeighbourValue}
use Rattle.ospf_neighbour.specs.Neighbours.{neighbour_of, place_for}
use Rattle.ospf_adjacency.specs.Heard.{neighbourhood}
use Rattle.ospf_area.specs.Turns.{Turn, turn}
use Rattle.ospf_adjacency.proofs.LinkSteps.Words.{description_by}
use Rattle.ospf_adjacency.proofs.LinkSteps.WorkLemmas.{described_found, described_router, is_none}
use Rattle.ospf_adjacency.proofs.link_steps.descriptions.describe_in.Goals as goal
use Rattle.ospf_adjacency.proofs.link_steps.descriptions.describe_in.Goals.{Then-not-is_at, In_ok-elects}

subst-true : (b : Bool) → b ≡ true → IsTrue b
subst-true b e = e

nobody : (c : Then-not-is_at) → neighbour_of c.args.all.now.items c.args.from.router ≡ None
nobody c =
    let ns = c.args.all.now.items in
    let at : c.place_for-place.result ≡ place_for ns c.args.from.router.0 = c.place_for-place.ensures ∙ ap (λ (l : List NeighbourValue). place_for l c.args.from.router.0) c.deref.ensures.value in
    is_none ns c.place_for-place.result c.args.from.router c.requires at
    (λ o there. c.is_at.ensures.other c.if-not-is_at.true o (ap (λ (l : List NeighbourValue). slice_get l c.place_for-place.result) c.deref-2.ensures.value ∙ there))

pub returns-then-not-is_at : goal.returns-then-not-is_at
returns-then-not-is_at c =
    let x = neighbourhood c.args.all.now.items false c.args.outbox.now in
    ap (λ (o : Option NeighbourValue). description_by o c.args.at.now.iface c.args.at.now.local c.args.from.router c.args.fields c.args.headers c.args.database.now x) (sym (nobody c))

-- the neighbour that stands there
record Stands (c : In_ok-elects) : Type 0 where
  at : c.place_for-place.result ≡ place_for c.args.all.now.items c.args.from.router.0
  there : slice_get c.args.all.now.items c.place_for-place.result ≡ Some c.index_mut-neighbour.result.now
  same : c.index_mut-neighbour.result.now.router ≡ c.args.from.router

stands : (c : In_ok-elects) → Stands c
stands c =
    let ns = c.args.all.now.items in
    let k = c.place_for-place.result in
    let e = c.index_mut-neighbour.result.now in
    let h = c.is_at.ensures.there (subst-true c.is_at.result c.if-not-is_at.false) in
    let there : slice_get ns k ≡ Some h.0 = ap (λ (l : List NeighbourValue). slice_get l k) (sym c.deref-2.ensures.value) ∙ h.1 in
    let is : e ≡ h.0 = c.index_mut-neighbour.ensures.value ∙ get_or_from_slice_get ns k h.0 e there in
    record {
      at = c.place_for-place.ensures ∙ ap (λ (l : List NeighbourValue). place_for l c.args.from.router.0) c.deref.ensures.value;
      there = there ∙ ap (λ (n : NeighbourValue). Some n) (sym is);
      same = ap (λ (n : NeighbourValue). n.router) is ∙ h.2;
    }

pub returns : goal.returns
returns c =
    let s = stands c in
    let i = c.args.at.now.iface in
    let local = c.args.at.now.local in
    let t = c.in_ok-elects.ensures in
    let e = c.index_mut-neighbour.result.now in
    described_found i local c.args.from.router c.args.fields c.args.headers c.args.database.now c.args.all.now.items c.args.outbox.now c.describe.new.outbox c.place_for-place.result
    e c.describe.new.neighbour c.in_ok-elects.elects s.at s.there s.same
    (described_router i local c.args.from.router c.args.fields c.args.headers c.args.database.now (turn e c.args.outbox.now) c.describe.new.neighbour (ap (λ (u : Turn). u.neighbour) t.turn)) t.turn t.elects
