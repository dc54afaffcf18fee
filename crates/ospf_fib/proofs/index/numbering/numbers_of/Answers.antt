use Rattle.std.proofs.Common.{◌≡◌, ◌+◌, ◌<◌, ◌++◌, ◌∷◌, [], ◌⊎◌, ℕ, length, get_or, sym, ap, ◌∙◌, inl, inr, arith}
use Rattle.std.proofs.lemmas.List.{get_or_append_left, get_or_default, get_or_push, length_push}
use Rattle.std.proofs.lemmas.List.Sums.{sum_by_more, sum_by_more_le}
use Rattle.ospf_graph.specs.declared.route.Route.{Route}
use Rattle.ospf_fib.specs.PrefixIndex.Sets.{hops_of}
use Rattle.ospf_fib.proofs.index.numbering.numbers_of.Goals as goal

same_or_less : (i j : ℕ) → i < j + 1 → (i ≡ j) ⊎ (i < j)
same_or_less i j lt = grind arith

abbrev many : Route → ℕ
many r = length r.hops

pub number-last-requires-clause-room_hops : goal.number-last-requires-clause-room_hops
number-last-requires-clause-room_hops c =
    let r = c.route-item.result in
    let inv = c.loop-route.invariant in
    let most = sum_by_more_le many c.args.routes.now c.loop-route.route-index r (omega arith) in
    omega (arith, most, ap many c.route-item.is, ap length c.as_slice.ensures.hops, inv.hops, inv.room_hops)

pub loop-route-preserved : goal.loop-route-preserved
loop-route-preserved c =
    let routes = c.args.routes.now in
    let i = c.loop-route.route-index in
    let r = c.route-item.result in
    let inv = c.loop-route.invariant in
    let new = c.number-last.new.self in
    let number = c.number-last.result in
    let grown = c.number-last.ensures.grown in
    let old_numbers = c.loop-route.numbers.items in
    let numbers = c.push.new.self.items in
    let within : i < length routes = omega arith in
    let items : numbers ≡ old_numbers ++ number ∷ [] = c.in-Ok.ensures.items in
    let last : (k : ℕ) → k ≡ i → get_or numbers k 0 ≡ number = λ k e. ap (λ l. get_or l k 0) items ∙ get_or_push old_numbers number 0 k (omega (arith, inv.so_far, e)) in
    let before : (k : ℕ) → k < i → get_or numbers k 0 ≡ get_or old_numbers k 0 = λ k lt. ap (λ l. get_or l k 0) items ∙ get_or_append_left old_numbers (number ∷ []) 0 k (omega (arith, inv.so_far, lt)) in
    record {
      chained = c.number-last.ensures.chained;
      last = c.number-last.ensures.within;
      none = grown.same 0 (omega (arith, inv.last)) ∙ inv.none;
      sets = omega (arith, grown.one_more, inv.sets);
      hops = omega (arith, sum_by_more many routes i r within, ap many c.route-item.is, ap length c.as_slice.ensures.hops, grown.hops_more, inv.hops);
      room_sets = omega (arith, grown.room_sets, inv.room_sets);
      room_hops = omega (arith, grown.room_hops, inv.room_hops);
      room_links = omega (arith, grown.room_links, inv.room_links);
      room = omega (arith, c.in-Ok.ensures.capacity, inv.room);
      so_far = omega (arith, ap length items, length_push old_numbers number, inv.so_far);
      within = λ k lt. elim (same_or_less k i lt) [
        | inl same ↦ omega (arith, last k same, c.number-last.ensures.within)
        | inr less ↦ omega (arith, before k less, inv.within k less, grown.more)
      ];
      exact = λ k d lt. elim (same_or_less k i lt) [
        | inl same ↦
            let found : (get_or routes i d).hops ≡ r.hops = ap (λ x. x.hops) (get_or_default routes i d r within ∙ sym c.route-item.is) in
            ap (hops_of new.sets) (last k same) ∙ c.number-last.ensures.exact ∙ c.as_slice.ensures.hops ∙ sym found ∙ ap (λ n. (get_or routes n d).hops) (sym same)
        | inr less ↦ ap (hops_of new.sets) (before k less) ∙ grown.same (get_or old_numbers k 0) (inv.within k less) ∙ inv.exact k d less
      ];
    }
