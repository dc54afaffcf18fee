use Rattle.std.proofs.Common.{◌≡◌, ◌+◌, ◌<◌, ◌≤◌, ℕ, [], length, get_or, take, vec_len, vec_capacity}
use Rattle.std.specs.List.{sum_by}
use Rattle.ospf_graph.specs.declared.route.Route.{Route}
use Rattle.ospf_fib.specs.PrefixIndex.Sets.{AreChained, hops_of}
use Rattle.ospf_fib.proofs.index.numbering.numbers_of.Given as goal

-- the routes so far have their numbers, and there is room for the others
abbrev pub invariant-loop-route : goal.invariant-loop-route
invariant-loop-route l = record {
  chained : AreChained l.numbering;
  last : l.last < vec_len l.numbering.sets.sets;
  none : hops_of l.numbering.sets 0 ≡ [];
  sets : vec_len l.numbering.sets.sets ≤ l.route-index + 1;
  hops : vec_len l.numbering.sets.hops ≤ sum_by (λ (r : Route). length r.hops) (take l.route-index l.routes);
  room_sets : length l.routes + 1 ≤ vec_capacity l.numbering.sets.sets;
  room_hops : sum_by (λ (r : Route). length r.hops) l.routes ≤ vec_capacity l.numbering.sets.hops;
  room_links : length l.routes + 1 ≤ vec_capacity l.numbering.links;
  room : length l.routes ≤ vec_capacity l.numbers;
  so_far : length l.numbers.items ≡ l.route-index;
  within : (k : ℕ) → k < l.route-index → get_or l.numbers.items k 0 < vec_len l.numbering.sets.sets;
  exact : (k : ℕ) (d : Route) → k < l.route-index → hops_of l.numbering.sets (get_or l.numbers.items k 0) ≡ (get_or l.routes k d).hops;
}
