use Rattle.std.proofs.Common.{rules, ◌≡◌, ◌+◌, ◌++◌, ◌∷◌, [], ap, subst, arith, List, get_or, sym, ◌∙◌, true}
use Rattle.std.proofs.lemmas.List.{get_or_default}
use Rattle.ospf_graph.specs.declared.route.Route.{Route}
use Rattle.ospf_spf.specs.Changes.{IsMergeStep}
use Rattle.ospf_spf.specs.declared.changes.Change.{Change}
use Rattle.ospf_spf.specs.declared.changes.Change.TheVariants.{Put, Gone}
use Rattle.ospf_spf.proofs.ChangeLemmas.{IsMerged, start, old_next, new_next, both_same, both_differ, before_rest, all_puts, all_gone}
use Rattle.ospf_spf.proofs.changes.changes_of.Goals as goal
use Rattle.ospf_spf.proofs.changes.changes_of.Goals.{then-not-is_same_route+in_ok-copy-in-Both+in_ok-push-in-Both, else-not-is_same_route}

pub loop-step-init : goal.loop-step-init
loop-step-init c = let e : c.new-changes.result.items ≡ [] = c.new-changes.ensures.items in rw e (start c.args.old.now c.args.new.now)

pub loop-step-preserved-in-Old : goal.loop-step-preserved-in-Old
loop-step-preserved-in-Old c =
    let old = c.args.old.now in
    let new = c.args.new.now in
    let i = c.loop-step.i in
    let j = c.loop-step.j in
    let d = c.index-old-i.result in
    let step = subst (IsMergeStep old i new j) c.in-Old.is c.in-Some.ensures in
    let first = before_rest (get_or old i d).prefix new j c.requires.1 in
    let later : (cs : List Change) → cs ≡ c.loop-step.changes.items ++ Gone (get_or old i d).prefix ∷ [] → IsMerged old new (i + 1) j cs =
    λ cs e. rw e (old_next old new i j c.loop-step.changes.items c.requires.0 c.requires.1 c.loop-step.invariant d step.0
    (λ l e le within. first (λ e. step.1 (omega arith) d e) l e le within)) in
    later c.push.new.self.items c.in_ok-push-in-Old.ensures.items

pub loop-step-preserved-in-New : goal.loop-step-preserved-in-New
loop-step-preserved-in-New c =
    let old = c.args.old.now in
    let new = c.args.new.now in
    let i = c.loop-step.i in
    let j = c.loop-step.j in
    let d = c.index-new-j.result in
    let route : c.in_ok-copy-in-New.field-0 ≡ get_or new j d = c.in_ok-copy-in-New.ensures ∙ c.index-new-j.is in
    let step = subst (IsMergeStep old i new j) c.in-New.is c.in-Some.ensures in
    let first = before_rest (get_or new j d).prefix old i c.requires.0 in
    let later : (cs : List Change) → cs ≡ c.loop-step.changes.items ++ Put (get_or new j d) ∷ [] → IsMerged old new i (j + 1) cs =
    λ cs e. rw e (new_next old new i j c.loop-step.changes.items c.requires.0 c.requires.1 c.loop-step.invariant d step.0
    (λ l e le within. first (λ e. step.1 (omega arith) e d) l e le within)) in
    later c.push-in-New.new.self.items (c.in_ok-push-in-New.ensures.items ∙ ap (λ (r : Route). c.loop-step.changes.items ++ Put r ∷ []) route)

pub loop-step-preserved : goal.loop-step-preserved
loop-step-preserved c =
    let old = c.args.old.now in
    let new = c.args.new.now in
    let i = c.loop-step.i in
    let j = c.loop-step.j in
    let a = c.index-old-i-in-Both.result in
    let b = c.index-new-j-in-Both.result in
    let step = subst (IsMergeStep old i new j) c.in-Both.is c.in-Some.ensures in
    let same = c.is_same_route.ensures in
    let of_old : a ≡ get_or old i a = c.index-old-i-in-Both.is in
    let of_new : b ≡ get_or new j b = c.index-new-j-in-Both.is in
    let before = c.loop-step.changes.items in
    elim c.if-not-is_same_route.branch [
      | then-not-is_same_route+in_ok-copy-in-Both+in_ok-push-in-Both w ↦
          let e = w.index-new-j-then-not-is_same_route.result in
          let put = w.in_ok-copy-in-Both.field-0 in
          let route : put ≡ get_or new j b = w.in_ok-copy-in-Both.ensures ∙ w.index-new-j-then-not-is_same_route.is ∙ sym (get_or_default new j b e step.1) in
          let other : get_or old i a ≡ get_or new j b → ⊥ =
          λ e. let is : a ≡ b = of_old ∙ e ∙ sym of_new in let t = same.1 is in cc (t, w.if-not-is_same_route.true) in
          let is : c.if-not-is_same_route.changes.items ≡ before ++ Put (get_or new j b) ∷ [] =
          ap (λ v. v.items) w.changes-is ∙ w.in_ok-push-in-Both.ensures.items ∙ ap (λ (r : Route). before ++ Put r ∷ []) route in
          let later : (cs : List Change) → cs ≡ before ++ Put (get_or new j b) ∷ [] → IsMerged old new (i + 1) (j + 1) cs =
          λ cs e. rw e (both_differ old new i j before c.requires.0 c.requires.1 c.loop-step.invariant a b step.0 step.1 (step.2 a b) other) in
          later c.if-not-is_same_route.changes.items is
      | else-not-is_same_route w ↦
          let one : get_or old i a ≡ get_or new j b = let t : c.is_same_route.result ≡ true = cc (w.if-not-is_same_route.false) in sym of_old ∙ same.0 t ∙ of_new in
          let is : c.if-not-is_same_route.changes.items ≡ before = ap (λ v. v.items) w.changes-is in
          let later : (cs : List Change) → cs ≡ before → IsMerged old new (i + 1) (j + 1) cs =
          λ cs e. rw e (both_same old new i j before c.requires.0 c.requires.1 c.loop-step.invariant a b step.0 step.1 (step.2 a b) one) in
          later c.if-not-is_same_route.changes.items is
    ]

pub returns-clause-puts : goal.returns-clause-puts
returns-clause-puts c = all_puts c.args.old.now c.args.new.now c.loop-step.i c.loop-step.j c.loop-step.changes.items c.loop-step.invariant (search rules) (search rules)

pub returns-clause-gone : goal.returns-clause-gone
returns-clause-gone c = all_gone c.args.old.now c.args.new.now c.loop-step.i c.loop-step.j c.loop-step.changes.items c.loop-step.invariant (search rules) (search rules)
