use Rattle.std.proofs.Common.{◌≡◌, ◌∷◌, [], List, sym, ap, subst, ◌∙◌, arith}
use Rattle.std.proofs.lemmas.List.{nil_from_length}
use Rattle.ospf_graph.specs.declared.route.Route.{Route}
use Rattle.ospf_spf.proofs.EditLemmas.{edited_none}
use Rattle.ospf_spf.specs.Changes.{edited}
use Rattle.ospf_spf.specs.declared.changes.Change.{Change}
use Rattle.ospf_fib.proofs.PrefixIndex.ReplaceLemmas.{put_next}
use Rattle.ospf_fib.specs.PrefixIndex.Replaced.{AreRoutesBefore}
use Rattle.ospf_fib.proofs.index.replace.put_routes.Goals as goal

pub index_mut-requires : goal.index_mut-requires
index_mut-requires c =
    let made = c.loop-change.routes.items in
    let rest = c.pop_front.new.self.items in
    let q = c.in-Put.route in
    let place = c.routes_before-place.result in
    let before = subst (λ (rs : List Route). AreRoutesBefore rs q.prefix place) c.deref.ensures.value c.routes_before-place.ensures in
    let next = put_next c.args.table.now c.args.changes.items c.loop-change.left.items rest made q place c.loop-change.invariant
    (c.in-Some.ensures.items ∙ ap (λ (x : Change). x ∷ rest) c.in-Put.is) before in
    let many = c.loop-change.routes.ok.0 in
    omega (arith, next.0)

pub loop-change-preserved : goal.loop-change-preserved
loop-change-preserved c =
    let made = c.loop-change.routes.items in
    let rest = c.pop_front.new.self.items in
    let q = c.in-Put.route in
    let place = c.routes_before-place.result in
    let before = subst (λ (rs : List Route). AreRoutesBefore rs q.prefix place) c.deref.ensures.value c.routes_before-place.ensures in
    (put_next c.args.table.now c.args.changes.items c.loop-change.left.items rest made q place c.loop-change.invariant
    (c.in-Some.ensures.items ∙ ap (λ (x : Change). x ∷ rest) c.in-Put.is) before).1

pub returns : goal.returns
returns c =
    let made = c.loop-change.routes.items in
    let none : c.loop-change.left.items ≡ [] = nil_from_length c.loop-change.left.items (omega (arith, c.loop-change.left.ok, c.in_default.ensures.cases)) in
    c.of_routes.ensures ∙ sym (c.loop-change.invariant.so_far ∙ ap (λ (l : List Change). edited made l) none ∙ edited_none made)
