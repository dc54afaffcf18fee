use Rattle.std.proofs.Common.{◌≡◌, drop, length}
use Rattle.std.specs.List.{All}
use Rattle.left_right.specs.Sides.{view}
use Rattle.ospf_fib.specs.Rule.{IsKnownBook}
use Rattle.ospf_fib.proofs.fib.seats_of.Given as goal

-- so many seats are made, and the copies show what they showed
abbrev pub invariant-loop : goal.invariant-loop
invariant-loop l =
    (length l.seats.items ≡ l.counter)
    × IsKnownBook (view l.copies.desk.place) l.known.fib
    × (l.copies.desk.shown ≡ l.initial.copies.desk.shown)
    × (drop l.copies.behind l.copies.log.items ≡ drop l.initial.copies.behind l.initial.copies.log.items)
    × All (λ seat. seat ≡ l.known) l.seats.items
