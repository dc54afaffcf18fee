-- The ranges at the end of the sweep.
use Rattle.std.proofs.Common.{subst, suc, zero, ◌≡◌, ◌+◌, ◌-◌, ◌^◌, ◌<◌, ◌≤◌, ◌⊎◌, ℕ, List, length, get_or, sym, ap, ◌∙◌, inl, inr, arith}
use Rattle.std.specs.List.{AllPairs}
use Rattle.ospf_graph.specs.declared.route.Route.{Route}
use Rattle.ospf_graph.specs.Routes.{IsRouteBefore}
use Rattle.ospf_fib.proofs.PrefixIndex.BlockLemmas.{table_nested, longest_answers}
use Rattle.ospf_fib.proofs.PrefixIndex.SweepLemmas.{closes}
use Rattle.ospf_fib.specs.PrefixIndex.Ranges.{HasRanges, AreStartsRising}
use Rattle.ospf_fib.specs.PrefixIndex.Sweep.{IsLongest, IsSwept, blocks_of}
use Rattle.ospf_fib.specs.declared.index.ranges.Ranges.{Ranges}

same_or_less : (i j : ℕ) → i ≤ j → (i ≡ j) ⊎ (i < j)
same_or_less i j le = grind arith

-- starts that rise are no less than their places
pub at_most_start : (starts : List ℕ) → AreStartsRising starts → (i : ℕ) → i < length starts → i ≤ get_or starts i 0
at_most_start starts order zero lt = omega arith
at_most_start starts order (suc i) lt = omega (arith, at_most_start starts order i (omega arith), order i (suc i) (omega arith) lt)

-- once all routes have begun, and those that are open end behind the last address, each range has its answer
pub all_swept : (routes : List Route) (n : ℕ) (opened : List ℕ) (ranges : Ranges) → AllPairs IsRouteBefore routes → length routes ≤ n
    → IsSwept (blocks_of routes) n opened ranges.starts.items ranges.places.items
    → (0 < length opened → 2 ^ 32 - 1 < (blocks_of routes).end (get_or opened (length opened - 1) 0)) → HasRanges routes ranges.starts.items ranges.places.items
all_swept routes n opened ranges order all m behind =
    let starts = ranges.starts.items in
    let places = ranges.places.items in
    let b = blocks_of routes in
    record {
      same_length = m.same_length;
      some = m.some;
      from_first = m.from_first;
      in_order = m.in_order;
      exact = λ i address lt small inside.
          longest_answers routes order address (get_or places i 0) small
          (elim (same_or_less (i + 1) (length starts) (omega arith)) [
            | inr more ↦ m.exact i address more inside.0 (inside.1 more)
            | inl last ↦
                let e : i ≡ length starts - 1 = omega arith in
                let from : get_or starts (length starts - 1) 0 ≤ address = subst (λ (k : ℕ). get_or starts k 0 ≤ address) e inside.0 in
                let p = closes b (table_nested routes order) n opened starts places m (2 ^ 32) (λ k le lt. absurd (omega arith)) (λ some. omega (arith, behind some)) address from small in
                subst (λ (n : ℕ). IsLongest b address n) (sym (ap (λ k. get_or places k 0) e ∙ m.current)) p
          ]);
    }
