use Rattle.std.proofs.Common.{arith, ◌≡◌, ◌+◌, [], ◌∷◌, ◌++◌, length, sym, ap, ◌∙◌, subst, length-append}
use Rattle.std.specs.List.{All}
use Rattle.std.proofs.lemmas.List.Elements.{All-append, All-cons, All-nil}
use Rattle.ospf_fib.specs.PrefixIndex.Known.{Known}
use Rattle.ospf_fib.proofs.fib.seats_of.Goals as goal

pub loop-preserved : goal.loop-preserved
loop-preserved c =
    let P : Known → Type 0 = λ s. s ≡ c.args.known.now in
    let made = c.in_ok-seat_of.ensures in
    let seat = c.in_ok-seat_of.field-0 in
    let items : c.push.new.self.items ≡ c.loop.seats.items ++ seat ∷ [] = c.in_ok-push.ensures.items in
    let more : length c.push.new.self.items ≡ c.loop.counter + 1 = ap length items ∙ omega (arith, length-append c.loop.seats.items (seat ∷ []), c.loop.invariant.0) in (
      more,
      made.named,
      made.shown ∙ c.loop.invariant.2,
      made.waiting ∙ c.loop.invariant.3,
      subst (All P) (sym items) (All-append P c.loop.seats.items (seat ∷ []) c.loop.invariant.4 (All-cons P seat [] made.seat (All-nil P))),
    )
