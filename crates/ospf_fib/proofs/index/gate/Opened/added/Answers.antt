use Rattle.std.proofs.Common.{arith, ◌≡◌, [], ◌∷◌, ◌++◌, refl, sym, ◌∙◌, ap}
use Rattle.ospf_fib.proofs.PrefixIndex.Steps.{adds_moves, told}
use Rattle.ospf_fib.specs.declared.index.rule.ListEvent.TheVariants.{Added}
use Rattle.ospf_fib.proofs.PrefixIndex.Events.{after_added}
use Rattle.ospf_fib.proofs.index.gate.Opened.added.Goals as goal

pub compare_exchange-found-requires : goal.compare_exchange-found-requires
compare_exchange-found-requires c =
    let is_counter = c.requires in
    let offer = c.plain-offer.ensures in
    let pen = c.no_pen-pen.ensures in
    let again = c.again-seen.ensures in
    let book = ap (λ k. k.fib) c.self.view_is in (
      ap (λ w. w.tracked) is_counter,
      ap (λ s. s.book) again ∙ book ∙ sym (ap (λ w. w.book) is_counter),
      pen.0 ∙ ap (λ s. s.book) again ∙ book ∙ sym (ap (λ w. w.book) is_counter),
      offer.0,
      rw (ap (λ w. w.key) is_counter, pen.1, offer.1, offer.3, again) (adds_moves c.self.inside.seen.log c.args.table.now c.self.inside.events (sym c.self.invariant.1) c.self.invariant.2),
    )

pub invariant_of-result : goal.invariant_of-result
invariant_of-result c =
    let log : c.compare_exchange-found.new.seen.log ≡ c.self.inside.seen.log ++ Added c.args.table.now ∷ [] =
    told c.compare_exchange-found.result c.self.inside.events (omega (arith, c.if-found-events.true)) c.compare_exchange-found.ensures.7 ∙ rw (c.again-seen.ensures, c.plain-offer.ensures.1) refl in
    let r = after_added c.self.inside.seen.log c.compare_exchange-found.new.seen.log c.args.table.now c.self.inside.count c.self.inside.events log c.self.invariant.0 c.self.invariant.1 c.self.invariant.2 in
    (omega (arith, r.0), r.1, r.2)

pub returns-then-found-events-clause-tables : goal.returns-then-found-events-clause-tables
returns-then-found-events-clause-tables c =
    let log : c.compare_exchange-found.new.seen.log ≡ c.self.inside.seen.log ++ Added c.args.table.now ∷ [] =
    told c.compare_exchange-found.result c.self.inside.events (omega (arith, c.if-found-events.true)) c.compare_exchange-found.ensures.7 ∙ rw (c.again-seen.ensures, c.plain-offer.ensures.1) refl in
    let r = after_added c.self.inside.seen.log c.compare_exchange-found.new.seen.log c.args.table.now c.self.inside.count c.self.inside.events log c.self.invariant.0 c.self.invariant.1 c.self.invariant.2 in
    r.3 ∙ ap (λ k. k.tables ++ c.args.table.now ∷ []) c.self.view_is
