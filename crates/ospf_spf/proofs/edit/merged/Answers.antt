use Rattle.std.proofs.Common.{arith, ◌≡◌, ◌++◌, [], length, subst, sym, ap, ◌∙◌, List}
use Rattle.std.proofs.lemmas.List.{nil_from_length}
use Rattle.ospf_base.specs.declared.prefix.Prefix.{Prefix}
use Rattle.ospf_graph.specs.declared.route.Route.{Route}
use Rattle.ospf_spf.specs.Changes.{edited, IsParted}
use Rattle.ospf_spf.specs.Table.{IsInOrder}
use Rattle.ospf_spf.proofs.OrderLemmas.{IsEdited, edit_start, edit_next, edit_end, edited_table}
use Rattle.ospf_spf.proofs.edit.merged.Goals as goal
use Rattle.ospf_spf.proofs.edit.merged.Goals.{After-drop-changes}

pub loop-change-init : goal.loop-change-init
loop-change-init c =
    let start = edit_start c.args.routes.items c.args.changes.items c.requires.table.in_order c.requires.changes.0 in
    let cs = c.from_vec-changes.ensures.items in
    let rs = c.from_vec-left.ensures.items in
    let none : c.args.room.items ≡ [] = c.requires.room.0 in (
      rw (cs, rs, none) start,
      omega (arith, c.from_vec-left.ensures.len, c.from_vec-changes.ensures.len, ap length none),
    )

pub loop-change-preserved : goal.loop-change-preserved
loop-change-preserved c =
    let p = subst (λ (q : Prefix). IsParted q c.loop-change.left.items c.loop-change.made.items c.part.new.left.items c.part.new.made.items) c.prefix.ensures c.part.ensures.parted in
    let next = edit_next c.args.routes.items c.args.changes.items c.loop-change.changes.items c.pop_front.new.self.items c.in-Some.change c.loop-change.left.items c.loop-change.made.items
    c.part.new.left.items c.part.new.made.items c.in-Some.ensures.items c.loop-change.invariant.0 p in (
      subst (λ (l : List Route). IsEdited c.args.routes.items c.args.changes.items c.pop_front.new.self.items c.part.new.left.items l) (sym c.put.ensures.items) next,
      omega (arith, c.in-Some.ensures.len, c.part.ensures.len, c.part.ensures.room, c.put.ensures.len, c.put.ensures.room),
    )

-- at the end no change is left
whole : (c : After-drop-changes) → c.append.new.self.items ≡ edited c.args.routes.items c.args.changes.items
whole c =
    let none : c.loop-change.changes.items ≡ [] = nil_from_length c.loop-change.changes.items (omega (arith, c.loop-change.changes.ok, c.in_default.ensures.cases)) in
    let end = edit_end c.args.routes.items c.args.changes.items c.loop-change.changes.items c.loop-change.left.items c.loop-change.made.items c.loop-change.invariant.0 none in
    c.in-Ok.ensures.items ∙ ap (λ l. c.loop-change.made.items ++ l) c.into_vec.ensures.items ∙ end

pub returns-clause-edited : goal.returns-clause-edited
returns-clause-edited c = whole (goal.at.returns-clause-edited c).After-drop-changes

pub returns-clause-table : goal.returns-clause-table
returns-clause-table c =
    subst (λ (l : List Route). IsInOrder l) (sym (whole (goal.at.returns-clause-table c).After-drop-changes))
    (edited_table c.args.routes.items c.args.changes.items c.requires.table c.requires.changes.1)
