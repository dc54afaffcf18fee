use Rattle.std.proofs.Common.{◌≡◌, Option, Some, subst}
use Rattle.std.specs.Option.{IfSome}
use Rattle.std.proofs.lemmas.List.Elements.{All-pop}
use Rattle.ospf_drive_tests.proofs.publishes.opened_one.Goals as goal

holds_of : {X : Type 0} (P : X → Type 0) (r : Option X) (x : X) → r ≡ Some x → IfSome r P → P x
holds_of P r x is holds = subst (λ o. IfSome o P) is holds

pub returns-in-Some : goal.returns-in-Some
returns-in-Some g c =
    holds_of (λ seat. seat ≡ c.in_ok-writer.writer) c.pop.result c.in-Some.seat c.in-Some.is
    (All-pop (λ seat. seat ≡ c.in_ok-writer.writer) c.in_ok-writer.seats.items _ c.pop.result c.pop.ensures.items c.in_ok-writer.ensures.seats).1
