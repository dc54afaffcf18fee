use Rattle.std.proofs.Common.{◌≤◌, ◌<◌, ◌++◌, ◌∷◌, [], ◌∙◌, ap, length, inl, inr, sym, subst}
use Rattle.std.specs.List.{Contains}
use Rattle.std.proofs.lemmas.List.{take_all}
use Rattle.std.proofs.lemmas.List.Elements.{All-push, Contains-append_left, Contains-push}
use Rattle.ospf_graph.specs.declared.edges.end.End.{End}
use Rattle.ospf_graph.proofs.ListLemmas.{more_members}
use Rattle.ospf_graph.specs.declared.route.Route.{Route}
use Rattle.ospf_whatif.proofs.EffectLemmas.{one_place}
use Rattle.ospf_whatif.proofs.root.add_places.Goals as goal
use Rattle.ospf_whatif.proofs.root.add_places.Goals.{in-Some+in_ok-push-in-Some, in-None}

pub loop-end-preserved : goal.loop-end-preserved
loop-end-preserved c =
    let inv = c.loop-end.invariant in
    let routes = c.args.routes.now in
    let places = c.loop-end.places.items in
    elim c.match-place_to.branch [
      | in-Some+in_ok-push-in-Some w ↦ rw (w.places-is, w.in_ok-push-in-Some.ensures.items) (record {
        kept = λ k m. Contains-append_left places (w.in-Some.place ∷ []) k (inv.kept k m);
        within = λ all. All-push (λ k. k < length routes) places w.in-Some.place (inv.within all) w.in-Some.ensures.some.0;
        ends = λ k r e lt is m of. elim ((more_members c.args.ends.now c.loop-end.end-index c.end-item.result c.loop-end-test.true e).0 m) [
          | inl before ↦ Contains-append_left places (w.in-Some.place ∷ []) k (inv.ends k r e lt is before of)
          | inr here ↦
              (let same = one_place routes c.requires w.in-Some.place k r w.in-Some.ensures.some.0 lt
              (w.in-Some.ensures.some.1 r ∙ ap (λ (x : End). x.prefix) (c.end-item.is ∙ here) ∙ of ∙ ap (λ (x : Route). x.prefix) is) in
              subst (λ j. Contains (places ++ w.in-Some.place ∷ []) j) same (Contains-push places w.in-Some.place))
        ];
      })
      | in-None w ↦ rw w.places-is (record {
        kept = inv.kept;
        within = inv.within;
        ends = λ k r e lt is m of. elim ((more_members c.args.ends.now c.loop-end.end-index c.end-item.result c.loop-end-test.true e).0 m) [
          | inl before ↦ inv.ends k r e lt is before of
          | inr here ↦ absurd (w.in-None.ensures.none (r, (k, lt, sym is), sym of ∙ sym (ap (λ (x : End). x.prefix) (c.end-item.is ∙ here))))
        ];
      })
    ]

pub returns-clause-ends : goal.returns-clause-ends
returns-clause-ends c =
    let end : length c.args.ends.now ≤ c.loop-end.end-index = c.loop-end-test.false in
    rw take_all at c.loop-end.invariant.ends
