use Rattle.std.proofs.Common.{◌≡◌, List, [], drop, ◌∷◌, ◌++◌, Bool, true, false, Result, Ok, Err, is_ok, subst, refl, ap, sym, ◌∙◌}
use Rattle.std.specs.Result.{IfOk}
use Rattle.left_right.specs.Sides.{view}
use Rattle.ospf_fib.specs.PrefixIndex.Known.{Known, Table}
use Rattle.ospf_spf.specs.declared.changes.Change.{Change}
use Rattle.ospf_fib.specs.Rule.{IsKnownBook}
use Rattle.ospf_fib.specs.Versions.{added_unless, edited_by}
use Rattle.ospf_fib.specs.Writing.{IsListShown, common_of, shown_end}
use Rattle.ospf_fib.specs.declared.rule.Knows.{Knows}
use Rattle.ospf_fib.specs.declared.shown.Common.{Common}
use Rattle.ospf_fib.specs.declared.shown.HandedOver.{HandedOver}
use Rattle.ospf_fib.specs.declared.shown.ShownTable.{ShownTable}
use Rattle.ospf_fib.proofs.fib.opening_copies.Goals as goal
use Rattle.ospf_fib.proofs.fib.opening_copies.Goals.{in-Ok, in-Err}

-- what holds of a result that is `Ok`
ok_holds : {X E : Type 0} (r : Result X E) (P : Type 0) → is_ok r ≡ true → IfOk r (λ _. P) → P
ok_holds (Ok x) P e h = h
ok_holds (Err x) P e h = absurd cc

-- the list that a live table ends is the one that is known
live_list : (b : Bool) (table : Table) (known : Known) → b ≡ true → record { fib = known.fib; tables = added_unless b table known.tables } ≡ known
live_list true table known e = refl
live_list false table known e = absurd cc

abbrev common : Table → Known → Common
common table list = record { table = table; list = list }

-- the opening leaves no route and the list as it is
opened : (b : Bool) (was : Table) (changes : List Change) (known : Known) → b ≡ true
    → common (edited_by b was changes) (record { fib = known.fib; tables = added_unless b (edited_by b was changes) known.tables }) ≡ common [] known
opened true was changes known e = refl
opened false was changes known e = absurd cc

-- what is shown where the opening alone waited, and nothing waits any more
shows_opening : (v : Knows) (shown first : ShownTable) (rest waiting : List HandedOver) (next : HandedOver) (known : Known)
    → next.is_opening ≡ true → next.known ≡ known → waiting ≡ next ∷ [] → rest ≡ [] → common_of shown ≡ shown_end first waiting → IsKnownBook v shown.known.fib
    → shown.live ≡ true → IsKnownBook v known.fib × IsListShown shown known × ((shown_end shown rest).table ≡ [])
shows_opening v shown first rest waiting next known opens same one none shows named live =
    let end : shown_end first waiting ≡ common [] next.known = ap (shown_end first) one ∙ opened next.is_opening first.table next.changes next.known opens in
    let is : common_of shown ≡ common [] next.known = shows ∙ end in
    let list : shown.known ≡ known = sym (live_list shown.live shown.table shown.known live) ∙ ap (λ x. x.list) is ∙ same in
    (subst (λ (k : Known). IsKnownBook v k.fib) list named, (live, list), ap (λ l. (shown_end shown l).table) none ∙ ap (λ x. x.table) is)

pub returns-then-published-clause-named : goal.returns-then-published-clause-named
returns-then-published-clause-named g c =
    let done = sym c.is_ok.ensures.value ∙ c.if-is_ok.true in
    elim c.match-append.branch [
      | in-Ok w ↦
          let later = w.show-later.result in
          let fine = sym (ap (λ r. is_ok r) w.done-is) ∙ done in
          let ends = w.show-later.ensures in
          let live = sym (ap (λ x. x.desk.shown.value.live) w.copies-is) ∙ sym (ap (λ s. s.live) c.published.ensures) ∙ c.if-published.true in
          let next = c.in_ok-next.next in
          let waits = w.in-Ok.ensures.pending ∙ ap (λ l. l ++ next ∷ []) (c.in_ok-copies.ensures.1) in
          let facts = shows_opening (view later.0.desk.place) later.0.desk.shown.value c.append.new.self.desk.shown.value (drop later.0.behind later.0.log.items) (drop c.append.new.self.behind c.append.new.self.log.items)
          next c.args.known.now c.in_ok-next.ensures.opens c.in_ok-next.ensures.known waits (ok_holds later.1 _ fine ends.done) (ok_holds later.1 _ fine ends.shown) (ok_holds later.1 _ fine ends.named) live in
          rw w.copies-is facts.0
      | in-Err w ↦ absurd (let failed = sym (ap (λ r. is_ok r) w.done-is) ∙ done in cc)
    ]

pub returns-then-published-clause-shown : goal.returns-then-published-clause-shown
returns-then-published-clause-shown g c =
    let done = sym c.is_ok.ensures.value ∙ c.if-is_ok.true in
    elim c.match-append.branch [
      | in-Ok w ↦
          let later = w.show-later.result in
          let fine = sym (ap (λ r. is_ok r) w.done-is) ∙ done in
          let ends = w.show-later.ensures in
          let live = sym (ap (λ x. x.desk.shown.value.live) w.copies-is) ∙ sym (ap (λ s. s.live) c.published.ensures) ∙ c.if-published.true in
          let next = c.in_ok-next.next in
          let waits = w.in-Ok.ensures.pending ∙ ap (λ l. l ++ next ∷ []) (c.in_ok-copies.ensures.1) in
          let facts = shows_opening (view later.0.desk.place) later.0.desk.shown.value c.append.new.self.desk.shown.value (drop later.0.behind later.0.log.items) (drop c.append.new.self.behind c.append.new.self.log.items)
          next c.args.known.now c.in_ok-next.ensures.opens c.in_ok-next.ensures.known waits (ok_holds later.1 _ fine ends.done) (ok_holds later.1 _ fine ends.shown) (ok_holds later.1 _ fine ends.named) live in
          rw w.copies-is facts.1
      | in-Err w ↦ absurd (let failed = sym (ap (λ r. is_ok r) w.done-is) ∙ done in cc)
    ]

pub returns-then-published-clause-table : goal.returns-then-published-clause-table
returns-then-published-clause-table g c =
    let done = sym c.is_ok.ensures.value ∙ c.if-is_ok.true in
    elim c.match-append.branch [
      | in-Ok w ↦
          let later = w.show-later.result in
          let fine = sym (ap (λ r. is_ok r) w.done-is) ∙ done in
          let ends = w.show-later.ensures in
          let live = sym (ap (λ x. x.desk.shown.value.live) w.copies-is) ∙ sym (ap (λ s. s.live) c.published.ensures) ∙ c.if-published.true in
          let next = c.in_ok-next.next in
          let waits = w.in-Ok.ensures.pending ∙ ap (λ l. l ++ next ∷ []) (c.in_ok-copies.ensures.1) in
          let facts = shows_opening (view later.0.desk.place) later.0.desk.shown.value c.append.new.self.desk.shown.value (drop later.0.behind later.0.log.items) (drop c.append.new.self.behind c.append.new.self.log.items)
          next c.args.known.now c.in_ok-next.ensures.opens c.in_ok-next.ensures.known waits (ok_holds later.1 _ fine ends.done) (ok_holds later.1 _ fine ends.shown) (ok_holds later.1 _ fine ends.named) live in
          rw w.copies-is facts.2
      | in-Err w ↦ absurd (let failed = sym (ap (λ r. is_ok r) w.done-is) ∙ done in cc)
    ]
