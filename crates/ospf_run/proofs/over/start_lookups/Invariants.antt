use Rattle.std.proofs.Common.{◌≡◌, ◌+◌, ◌≤◌, ◌++◌, vec_len, vec_capacity}
use Rattle.std.specs.List.{AllZip}
use Rattle.ospf_run.specs.Lookups.{IsFrom}
use Rattle.ospf_run.proofs.over.start_lookups.Given as goal

-- each seat so far has what looks up there, and there is room for those of the seats that are left
abbrev pub invariant-loop-seat : goal.invariant-loop-seat
invariant-loop-seat g l = record {
  walked : l.fn.seats.items ≡ l.yielded ++ l.seat-iterator.rest.items;
  room : vec_len l.router_seats + l.seat-iterator.rest.len ≤ vec_capacity l.router_seats;
  started : AllZip IsFrom l.yielded l.router_seats.items;
}
