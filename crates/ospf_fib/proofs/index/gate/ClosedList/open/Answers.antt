use Rattle.std.proofs.Common.{◌≡◌, [], ◌∷◌, ◌++◌, refl, sym, ◌∙◌, ap}
use Rattle.ospf_fib.proofs.PrefixIndex.Steps.{opens_moves}
use Rattle.ospf_fib.specs.declared.index.rule.ListEvent.TheVariants.{Opened}
use Rattle.ospf_fib.proofs.PrefixIndex.Events.{after_opened}
use Rattle.ospf_fib.proofs.index.gate.ClosedList.open.Goals as goal

pub compare_exchange-requires : goal.compare_exchange-requires
compare_exchange-requires c =
    let is_counter = c.requires in
    let offer = c.plain-offer.ensures in
    let inv = c.self.invariant in
    let book = ap (λ w. w.known.fib) c.self.view_is in (
      ap (λ w. w.tracked) is_counter,
      book ∙ sym (ap (λ w. w.book) is_counter),
      inv.3 ∙ book ∙ sym (ap (λ w. w.book) is_counter),
      offer.0,
      rw (ap (λ w. w.key) is_counter, inv.4, offer.1, offer.3) (opens_moves c.self.inside.seen.log c.self.inside.events (sym inv.1) inv.2),
    )

pub invariant_of-result : goal.invariant_of-result
invariant_of-result c =
    let log : c.compare_exchange.new.seen.log ≡ c.self.inside.seen.log ++ Opened ∷ [] = c.compare_exchange.ensures.7 ∙ rw (c.plain-offer.ensures.1) refl in
    let r = after_opened c.self.inside.seen.log c.compare_exchange.new.seen.log c.self.inside.count c.self.inside.events log c.self.invariant.0 c.self.invariant.1 in
    (r.0, r.1, r.2)

pub returns-clause-opened : goal.returns-clause-opened
returns-clause-opened c =
    let log : c.compare_exchange.new.seen.log ≡ c.self.inside.seen.log ++ Opened ∷ [] = c.compare_exchange.ensures.7 ∙ rw (c.plain-offer.ensures.1) refl in
    let r = after_opened c.self.inside.seen.log c.compare_exchange.new.seen.log c.self.inside.count c.self.inside.events log c.self.invariant.0 c.self.invariant.1 in
    rw (r.3, c.compare_exchange.ensures.0) (ap (λ w. w.known) c.self.view_is)
