use Rattle.std.proofs.Common.{◌≡◌, ◌≤◌, ◌∙◌, List, Some, ap, sym, refl, length, arith, slice_get}
use Rattle.std.proofs.lemmas.Option.{get_or_from_slice_get}
use Rattle.ospf_neighbour.specs.Neighbour.{NeighbourValue}
use Rattle.ospf_neighbour.specs.Neighbours.{place_for}
use Rattle.ospf_neighbour.proofs.NeighbourLemmas.{place_within}
use Rattle.ospf_adjacency.specs.Heard.{neighbourhood}
use Rattle.ospf_adjacency.proofs.HelloLemmas.{hello_found, hello_new}
use Rattle.ospf_adjacency.proofs.heard.receive_hello.Goals as goal

pub insert-requires : goal.insert-requires
insert-requires c =
    let within : c.place_for-place.result ≤ length c.deref.result.now = rw c.place_for-place.ensures (place_within c.deref.result.now c.args.sender.0) in
    omega (arith, within, ap (λ (ns : List NeighbourValue). length ns) c.deref.ensures.value)

pub returns-then-is_at : goal.returns-then-is_at
returns-then-is_at c =
    let ns = c.args.neighbours.now.items in
    let k = c.place_for-place.result in
    let e = c.index_mut-neighbour.result.now in
    let at : k ≡ place_for ns c.args.sender.0 = c.place_for-place.ensures ∙ ap (λ (l : List NeighbourValue). place_for l c.args.sender.0) c.deref.ensures.value in
    let h = c.if-is_at.ensures.there refl in
    let there : slice_get ns k ≡ Some h.0 = ap (λ (l : List NeighbourValue). slice_get l k) (sym c.deref-2.ensures.value) ∙ h.1 in
    let is : e ≡ h.0 = c.index_mut-neighbour.ensures.value ∙ get_or_from_slice_get ns k h.0 e there in
    hello_found c.args.at.now.iface c.args.at.now.local c.args.sender c.args.source c.args.hello.now c.args.named ns c.args.outbox.now c.hello_of.new.outbox k
    e c.hello_of.new.neighbour c.in_ok-elects.elects at (there ∙ ap (λ (n : NeighbourValue). Some n) (sym is)) (ap (λ (n : NeighbourValue). n.router) is ∙ h.2)
    c.in_ok-elects.ensures.turn c.in_ok-elects.ensures.elects

pub returns : goal.returns
returns c =
    let ns = c.args.neighbours.now.items in
    let at : c.place_for-place.result ≡ place_for ns c.args.sender.0 = c.place_for-place.ensures ∙ ap (λ (l : List NeighbourValue). place_for l c.args.sender.0) c.deref.ensures.value in
    let other = c.is_at.ensures.other c.if-is_at.false in
    ap (λ (l : List NeighbourValue). neighbourhood l c.in_ok-elects-2.elects c.hello_of-2.new.outbox) c.in_ok-insert.ensures.items
    ∙ hello_new c.args.at.now.iface c.args.at.now.local c.args.sender c.args.source c.args.hello.now c.args.named ns c.args.outbox.now c.hello_of-2.new.outbox c.place_for-place.result
    c.new-neighbour.result c.hello_of-2.new.neighbour c.in_ok-elects-2.elects c.requires at
    (λ o there. other o (ap (λ (l : List NeighbourValue). slice_get l c.place_for-place.result) c.deref-2.ensures.value ∙ there))
    c.new-neighbour.ensures c.in_ok-elects-2.ensures.turn c.in_ok-elects-2.ensures.elects
