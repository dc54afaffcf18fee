use Rattle.std.proofs.Common.{rules, ◌≡◌, ◌≤◌, ◌+◌, ◌↔◌, ◌∙◌, ◌++◌, ◌∷◌, [], All, List, length, map, refl, subst, sym, take, arith}
use Rattle.std.specs.List.{AllPairs, Contains}
use Rattle.std.proofs.lemmas.List.{take_all}
use Rattle.std.proofs.lemmas.List.Elements.{All-nil}
use Rattle.ospf_base.specs.declared.prefix.Prefix.{Prefix}
use Rattle.ospf_graph.specs.declared.route.Route.{Route}
use Rattle.ospf_graph.specs.Routes.{IsRouteBefore}
use Rattle.ospf_spf.specs.Changes.{IsGone, IsNewRoute, prefix_of}
use Rattle.ospf_spf.specs.declared.changes.Change.{Change}
use Rattle.ospf_spf.specs.declared.changes.Change.TheVariants.{Gone, Put}
use Rattle.ospf_change.specs.Diff.Difference.{AreDifferences, IsDifference, IsDifferenceBy, IsOfTable, prefix_at}
use Rattle.ospf_change.specs.declared.diff.difference.RouteDifference.{RouteDifference}
use Rattle.ospf_change.proofs.Diffs.DifferenceLemmas.{all_found, of_table, prefixes_more, sound_more}
use Rattle.ospf_change.proofs.diff.difference.differences.Goals as goal

pub loop-change-init : goal.loop-change-init
loop-change-init c =
    let none : c.in_ok-found.found.items ≡ [] = search rules in
    record { prefixes = rw none refl; sound = rw none (All-nil _) }

pub difference_by-requires-clause-in_order : goal.difference_by-requires-clause-in_order
difference_by-requires-clause-in_order c = rw c.routes.ensures.routes c.routes.ensures.in_order

pub difference_by-requires-clause-gone : goal.difference_by-requires-clause-gone
difference_by-requires-clause-gone c =
    let changes = c.in_ok-changes.changes.items in
    let there : Contains changes c.change-item.result =
    subst (λ (l : List Change). Contains l c.change-item.result) c.deref-change-items.ensures.value (c.loop-change.change-index, c.loop-change-test.true, sym c.change-item.is) in
    subst (λ (l : List Route). IsOfTable l c.change-item.result) (sym c.routes.ensures.routes)
    (of_table c.args.before.now c.args.after.now changes c.in_ok-changes.ensures.puts c.in_ok-changes.ensures.gone c.change-item.result there)

pub loop-change-preserved : goal.loop-change-preserved
loop-change-preserved c =
    let before = c.args.before.now in
    let after = c.args.after.now in
    let items = c.deref-change-items.result.now in
    let same : c.in_ok-changes.changes.items ≡ items = sym c.deref-change-items.ensures.value in
    let puts = subst (λ (l : List Change). (route : Route) → Contains l (Put route) ↔ IsNewRoute before after route) same c.in_ok-changes.ensures.puts in
    let gone = subst (λ (l : List Change). (prefix : Prefix) → Contains l (Gone prefix) ↔ IsGone before after prefix) same c.in_ok-changes.ensures.gone in
    let d = c.in_ok-difference_by.field-0 in
    let by : IsDifferenceBy before c.change-item.result d = subst (λ (l : List Route). IsDifferenceBy l c.change-item.result d) c.routes.ensures.routes c.in_ok-difference_by.ensures in
    let found = c.loop-change.found.items in
    let i = c.loop-change.change-index in
    let e : c.push.new.self.items ≡ found ++ d ∷ [] = c.in_ok-push.ensures.items in
    record {
      prefixes = subst (λ (l : List RouteDifference). map prefix_at l ≡ map prefix_of (take (i + 1) items)) (sym e)
          (prefixes_more before after items puts gone i c.change-item.result d found c.loop-change-test.true c.change-item.is by c.loop-change.invariant.prefixes);
      sound = subst (λ (l : List RouteDifference). All (IsDifference before after) l) (sym e)
          (sound_more before after items puts gone i c.change-item.result d found c.loop-change-test.true c.change-item.is by c.loop-change.invariant.sound);
    }

pub returns : goal.returns
returns c =
    let items = c.deref-change-items.result.now in
    let end : length items ≤ c.loop-change.change-index = omega (arith, c.loop-change-test.false) in
    let found = c.loop-change.found.items in
    let all : map prefix_at found ≡ map prefix_of c.in_ok-changes.changes.items =
    subst (λ (l : List Change). map prefix_at found ≡ map prefix_of l) (take_all c.loop-change.change-index items end ∙ c.deref-change-items.ensures.value)
    c.loop-change.invariant.prefixes in
    all_found c.args.before.now c.args.after.now c.in_ok-changes.changes.items c.in_ok-changes.ensures.puts c.in_ok-changes.ensures.gone found all c.loop-change.invariant.sound
    c.in_ok-changes.ensures.in_order
