use Rattle.std.proofs.Common.{◌∙◌, List, ap, subst, sym}
use Rattle.ospf_base.specs.declared.prefix.Prefix.{Prefix}
use Rattle.ospf_graph.specs.EdgeLists.Listed.{advertisements_of}
use Rattle.ospf_graph.specs.declared.edges.end.End.{End}
use Rattle.std.specs.List.{Contains}
use Rattle.ospf_graph.specs.declared.graph.Vertex.{Vertex}
use Rattle.ospf_router.specs.Growing.{HasEndOf, IsUntouched}
use Rattle.ospf_router.proofs.GrowingLemmas.{edges_turn, ends_stay, ends_turn, spared, tree_over, without_ends}
use Rattle.ospf_router.proofs.growing.turned.Goals as goal
use Rattle.ospf_router.proofs.growing.turned.Goals.{then-is_same_answer+in_ok-touch_turn, else-is_same_answer+in_ok-touch+in_ok-touch-2, then-not-are_same_ends+in_ok-replace_ends, else-not-are_same_ends}

pub replace_ends-requires-clause-were : goal.replace_ends-requires-clause-were
replace_ends-requires-clause-were c = λ e m here.
    let turn = c.requires in
    subst (λ (es : List End). Contains es e) (sym c.deref-then-not-are_same_ends.ensures.value) ((turn.1.before_is.ends e).1 ((turn.1.over.ends_are e).0 m, here))

pub invariant_of-result : goal.invariant_of-result
invariant_of-result c =
    let turn = c.requires in
    let g = c.in_ok-paths in
    let went = rw (c.deref.ensures.value, c.deref-2.ensures.value) at c.in_ok-gone.ensures in
    let changes = rw (c.deref-3.ensures.value, c.deref-4.ensures.value) at g.ensures.edges in
    record {
      root_is = g.ensures.root ∙ turn.1.over.root_is;
      edges_are = edges_turn turn.0 c.args.listing c.args.root c.args.paths c.args.ends.items c.args.turn turn.1 c.in_ok-gone.gone.items went g.paths.edges changes;
      tree = g.ensures.tree;
      ends_are = elim c.if-not-are_same_ends.branch [
        | then-not-are_same_ends+in_ok-replace_ends w ↦ rw w.ends-is (ends_turn turn.0 c.args.listing c.args.root c.args.paths c.args.ends.items c.args.turn turn.1 _
            (rw w.deref-then-not-are_same_ends-2.ensures.value at w.in_ok-replace_ends.ensures.members))
        | else-not-are_same_ends w ↦ rw w.ends-is (ends_stay turn.0 c.args.listing c.args.root c.args.paths c.args.ends.items c.args.turn turn.1
            (sym c.deref-5.ensures.value ∙ c.are_same_ends.ensures w.if-not-are_same_ends.false ∙ c.deref-6.ensures.value))
      ];
      ends_in_order = elim c.if-not-are_same_ends.branch [
        | then-not-are_same_ends+in_ok-replace_ends w ↦ rw w.ends-is w.in_ok-replace_ends.ensures.in_order
        | else-not-are_same_ends w ↦ rw w.ends-is turn.1.over.ends_in_order
      ];
    }

pub returns-clause-spares : goal.returns-clause-spares
returns-clause-spares c = λ old turn p free.
    let g = c.in_ok-paths in
    let t = c.args.turn in
    let went = rw (c.deref.ensures.value, c.deref-2.ensures.value) at c.in_ok-gone.ensures in
    let changes = rw (c.deref-3.ensures.value, c.deref-4.ensures.value) at g.ensures.edges in
    let edges = edges_turn old c.args.listing c.args.root c.args.paths c.args.ends.items t turn c.in_ok-gone.gone.items went g.paths.edges changes in
    let now = tree_over c.args.root c.args.listing g.paths (g.ensures.root ∙ turn.over.root_is) edges g.ensures.tree in
    elim c.if-is_same_answer.branch [
      | then-is_same_answer+in_ok-touch_turn w ↦
          let rest = w.in_ok-touch_turn.ensures.rest p (λ m. free (subst (λ (v : List Prefix). Contains v p) (sym (ap (λ v. v.items) w.touched-is)) m)) in
          spared old c.args.listing c.args.root c.args.paths g.paths c.args.ends.items t turn now c.change.new.changed.items g.ensures.same (c.is_same_answer.ensures w.if-is_same_answer.true) p
          (subst (λ (vs : List Vertex). IsUntouched (advertisements_of c.args.listing) vs g.paths.settled t p) w.deref-then-is_same_answer.ensures.value rest)
      | else-is_same_answer+in_ok-touch+in_ok-touch-2 w ↦
          let gone : Contains w.touch-else-is_same_answer.new.touched.items p → ⊥ = λ m. free (subst (λ (v : List Prefix). Contains v p) (sym (ap (λ v. v.items) w.touched-is)) m) in
          without_ends old c.args.listing c.args.root c.args.paths c.args.ends.items t turn p
          (λ has. gone (w.in_ok-touch-2.ensures.kept p (w.in_ok-touch.ensures.ends p (subst (λ (es : List End). HasEndOf es p) (sym w.deref-else-is_same_answer.ensures.value) has))))
          (λ has. gone (w.in_ok-touch-2.ensures.ends p (subst (λ (es : List End). HasEndOf es p) (sym w.deref-else-is_same_answer-2.ensures.value) has)))
    ]

pub returns-clause-touched : goal.returns-clause-touched
returns-clause-touched c = λ p m. elim c.if-is_same_answer.branch [
  | then-is_same_answer+in_ok-touch_turn w ↦ subst (λ (v : List Prefix). Contains v p) (sym (ap (λ v. v.items) w.touched-is)) (w.in_ok-touch_turn.ensures.kept p m)
  | else-is_same_answer+in_ok-touch+in_ok-touch-2 w ↦ subst (λ (v : List Prefix). Contains v p) (sym (ap (λ v. v.items) w.touched-is)) (w.in_ok-touch-2.ensures.kept p (w.in_ok-touch.ensures.kept p m))
]
