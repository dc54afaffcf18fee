use Rattle.std.proofs.Common.{subst, ◌≡◌, ◌+◌, ◌<◌, ◌++◌, ◌∷◌, [], ◌⊎◌, ℕ, length, get_or, sym, ap, ◌∙◌, inl, inr, arith}
use Rattle.std.proofs.lemmas.List.{get_or_append_left, get_or_push, length_push}
use Rattle.ospf_fib.specs.PrefixIndex.Entries.{IsEntryAt}
use Rattle.ospf_fib.specs.declared.index.entries.Entry.{Entry}
use Rattle.ospf_fib.proofs.index.entries.entries_of.Goals as goal

same_or_less : (i j : ℕ) → i < j + 1 → (i ≡ j) ⊎ (i < j)
same_or_less i j lt = grind arith

pub loop-place-preserved : goal.loop-place-preserved
loop-place-preserved c =
    let routes = c.args.routes.now in
    let numbers = c.args.numbers.now in
    let places = c.args.places.now in
    let index = c.loop-place.place-index in
    let inv = c.loop-place.invariant in
    let old = c.loop-place.entries.items in
    let new = c.push.new.self.items in
    let entry = c.entry_of.result in
    let items : new ≡ old ++ entry ∷ [] = c.in-Ok.ensures.items in
    record {
      so_far = omega (arith, ap length items, length_push old entry, inv.so_far);
      room = omega (arith, c.in-Ok.ensures.capacity, inv.room);
      exact = λ i d lt. elim (same_or_less i index lt) [
        | inl same ↦
            let is : get_or new i d ≡ entry = ap (λ l. get_or l i d) items ∙ get_or_push old entry d i (omega (arith, inv.so_far, same)) in
            let here : IsEntryAt routes numbers (get_or places i 0) entry = subst (λ (k : ℕ). IsEntryAt routes numbers (get_or places k 0) entry) (sym same) c.entry_of.ensures in
            subst (λ (e : Entry). IsEntryAt routes numbers (get_or places i 0) e) (sym is) here
        | inr less ↦
            let is : get_or new i d ≡ get_or old i d = ap (λ l. get_or l i d) items ∙ get_or_append_left old (entry ∷ []) d i (omega (arith, inv.so_far, less)) in
            subst (λ (e : Entry). IsEntryAt routes numbers (get_or places i 0) e) (sym is) (inv.exact i d less)
      ];
    }

pub returns : goal.returns
returns c =
    let inv = c.loop-place.invariant in
    record {
      same_length = omega (arith, inv.so_far);
      exact = λ i d lt. inv.exact i d (omega arith);
    }
