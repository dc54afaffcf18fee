use Rattle.std.proofs.Common.{◌≡◌, ◌≤◌, ◌+◌, take, length, vec_len, vec_capacity}
use Rattle.std.specs.HashSet.{contains, spare}
use Rattle.ospf_neighbour.specs.Lists.{requests_put, AreNamesOf, name_eq}
use Rattle.ospf_neighbour.proofs.requests.put_requests.Given as goal

-- the headers so far are put, and there is room for the others
abbrev pub invariant-loop-header : goal.invariant-loop-header
invariant-loop-header l = record {
  put : l.all.items ≡ requests_put (take l.header-index l.headers) l.initial.all.items;
  names : AreNamesOf (contains name_eq l.names) l.all.items;
  room : vec_len l.all + length l.headers ≤ vec_capacity l.all + l.header-index;
  spare : length l.headers ≤ spare l.names + l.header-index;
}
