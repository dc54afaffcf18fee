use Rattle.std.proofs.Common.{◌≡◌, ◌<◌, ◌-◌, ◌++◌, ◌∷◌, [], Bool, true, false, List, Some, drop, length, slice_get, refl, ap, sym, ◌∙◌, subst, arith}
use Rattle.std.proofs.lemmas.Result.{IfOk-weaker}
use Rattle.ospf_spf.specs.Changes.{edited}
use Rattle.ospf_spf.specs.declared.changes.Change.{Change}
use Rattle.ospf_fib.specs.PrefixIndex.Known.{Table}
use Rattle.ospf_fib.specs.Versions.{EndsWith, found_of}
use Rattle.ospf_fib.specs.Writing.{shown_end}
use Rattle.ospf_fib.specs.declared.shown.HandedOver.{HandedOver}
use Rattle.ospf_fib.proofs.Lists.{ends_with}
use Rattle.ospf_fib.proofs.publisher.OpenPublisher.publish_changes.Goals as goal

-- a list of which it is told that it is empty
told_empty : {X : Type 0} (xs : List X) (b : Bool) → (0 < length xs → b ≡ true) → b ≡ false → xs ≡ []
told_empty [] b some fails = refl
told_empty (x ∷ xs) b some fails = let told : b ≡ true = some (omega arith) in absurd (cc)

-- nothing waits, so all comes to what is shown, which is the last table of the list
pub returns-in-Ok-clause-published : goal.returns-in-Ok-clause-published
returns-in-Ok-clause-published g c =
    let copies = c.self.inside.copies in
    let shown = copies.desk.shown.value in
    let none : drop copies.behind copies.log.items ≡ [] =
    told_empty (drop copies.behind copies.log.items) c.has_pending_operations.result c.has_pending_operations.ensures.1 c.if-has_pending_operations.false in
    let tables = shown.known.tables in
    let last : slice_get tables (length tables - 1) ≡ Some shown.table = subst (λ b. found_of b shown.table tables ≡ Some shown.table) c.self.invariant.1.0 shown.ends in
    let e = ends_with tables shown.table last in
    let list = c.args.self.list.tables in
    let same = c.self.invariant.1.1 ∙ ap (λ o. o.list) c.self.view_is in
    let ends : EndsWith list shown.table = (e.0, sym (ap (λ k. k.tables) same) ∙ e.1) in
    let end : c.args.self.end.table ≡ shown.table = sym (ap (λ o. o.end.table) c.self.view_is) ∙ ap (λ (l : List HandedOver). (shown_end shown l).table) none in
    let changes : c.in-Ok.plan.changes ≡ c.args.changes = c.in-Ok.ensures.changes in
    IfOk-weaker c.publish.result.1 _ _ (λ _ h. (
      shown.table,
      ends,
      h ∙ ap (λ (t : Table). list ++ edited t c.in-Ok.plan.changes ∷ []) end
          ∙ ap (λ (cs : List Change). list ++ edited shown.table cs ∷ []) changes,
    )) c.publish.ensures.published
