use Rattle.std.proofs.Common.{◌≡◌, [], ◌∷◌, ◌++◌, refl, sym, ◌∙◌, ap}
use Rattle.std.proofs.Common.{suc}
use Rattle.logbook.specs.Pages.{nib, may_write}
use Rattle.ospf_fib.specs.PrefixIndex.Rule.{opens}
use Rattle.ospf_fib.proofs.PrefixIndex.Steps.{closes_moves, told}
use Rattle.ospf_fib.specs.declared.index.rule.ListEvent.TheVariants.{Closed}
use Rattle.ospf_fib.proofs.PrefixIndex.Events.{after_closed}
use Rattle.ospf_fib.proofs.index.gate.Opened.close.Goals as goal

pub compare_exchange-found-requires : goal.compare_exchange-found-requires
compare_exchange-found-requires c =
    let is_counter = c.requires in
    let offer = c.plain-offer.ensures in
    let pen = c.no_pen-pen.ensures in
    let again = c.again-seen.ensures in
    let book = ap (λ k. k.fib) c.self.view_is in (
      ap (λ w. w.tracked) is_counter,
      ap (λ s. s.book) again ∙ book ∙ sym (ap (λ w. w.book) is_counter),
      pen.0 ∙ ap (λ s. s.book) again ∙ book ∙ sym (ap (λ w. w.book) is_counter),
      offer.0,
      rw (ap (λ w. w.key) is_counter, pen.1, offer.1, offer.3, again) (closes_moves c.self.inside.seen.log c.self.inside.events (sym c.self.invariant.1) c.self.invariant.2),
    )

pub invariant_of-result : goal.invariant_of-result
invariant_of-result c =
    let tells = told c.compare_exchange-found.result c.self.inside.events c.if-found-events.false c.compare_exchange-found.ensures.7 in
    let log : c.compare_exchange-found.new.seen.log ≡ c.self.inside.seen.log ++ Closed ∷ [] = tells.0 ∙ rw (c.again-seen.ensures, c.plain-offer.ensures.1) refl in
    let r = after_closed c.self.inside.seen.log c.compare_exchange-found.new.seen.log c.self.inside.count c.self.inside.events log c.self.invariant.0 c.self.invariant.1 in
    let book = c.tracked-word.ensures.1 ∙ c.compare_exchange-found.ensures.5 ∙ c.no_pen-pen.ensures.0 ∙ sym c.compare_exchange-found.ensures.0 in
    let pen : c.tracked-word.new.pen.nib ≡ nib may_write (suc (suc (opens c.self.inside.seen.log))) 0 = c.tracked-word.ensures.2 ∙ rw (tells.1, c.again-seen.ensures) refl in
    (r.0, r.1, r.2, book, pen ∙ rw (r.4) refl)

pub returns : goal.returns
returns c =
    let tells = told c.compare_exchange-found.result c.self.inside.events c.if-found-events.false c.compare_exchange-found.ensures.7 in
    let log : c.compare_exchange-found.new.seen.log ≡ c.self.inside.seen.log ++ Closed ∷ [] = tells.0 ∙ rw (c.again-seen.ensures, c.plain-offer.ensures.1) refl in
    let r = after_closed c.self.inside.seen.log c.compare_exchange-found.new.seen.log c.self.inside.count c.self.inside.events log c.self.invariant.0 c.self.invariant.1 in
    rw (r.3, c.compare_exchange-found.ensures.0, c.again-seen.ensures) c.self.view_is
