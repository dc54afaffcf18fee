use Rattle.std.proofs.Common.{subst, ◌≡◌, ◌<◌, ◌≤◌, ◌^◌, ◌⊎◌, ℕ, List, [], ◌∷◌, length, get_or, sym, ap, ◌∙◌, inl, inr, arith}
use Rattle.ospf_graph.specs.declared.route.Route.{Route}
use Rattle.ospf_fib.specs.PrefixIndex.Entries.{IsEntryAt, IsEntryFor}
use Rattle.ospf_fib.specs.PrefixIndex.Indexes.{IsIndexOf}
use Rattle.ospf_fib.specs.PrefixIndex.Ranges.{IsInRange}
use Rattle.ospf_fib.specs.PrefixIndex.Sets.{hops_of}
use Rattle.ospf_fib.specs.declared.index.entries.Entry.{Entry}
use Rattle.ospf_fib.specs.declared.index.index.Index.{Index}
use Rattle.ospf_fib.proofs.index.index.Index.entry.Goals as goal

less_or_more : (i j : ℕ) → (i < j) ⊎ (j ≤ i)
less_or_more i j = grind arith

-- the entry of the range that has the address
entry_found : (routes : List Route) (index : Index) (m : IsIndexOf routes index) (range address : ℕ) (d : Entry) → range < length index.starts.items → address < 2 ^ 32
    → IsInRange index.starts.items range address → IsEntryFor routes index.sets address (get_or index.entries.items range d)
entry_found routes index m range address d within small inside =
    let entry = get_or index.entries.items range d in
    let place = get_or m.places range 0 in
    let at : IsEntryAt routes m.numbers place entry = m.entries.exact range d (omega (arith, m.ranges.same_length, within)) in
    record {
      place = place;
      answers = m.ranges.exact range address within small inside;
      stand = m.sets.stand;
      within = elim (less_or_more place (length routes)) [
        | inl less ↦ let is : entry.set ≡ get_or m.numbers place 0 = (at.0 less (some_route routes place less)).2 in omega (arith, is, m.sets.within place less)
        | inr more ↦ let is : entry.set ≡ 0 = at.1 more in omega (arith, is, m.sets.some)
      ];
      prefix_is = λ less r. (at.0 less r).0;
      cost_is = λ less r. (at.0 less r).1;
      hops_are = λ less r. ap (hops_of index.sets) ((at.0 less r).2) ∙ m.sets.exact place r less;
      none = λ more. ap (hops_of index.sets) (at.1 more) ∙ m.sets.none;
    }
  where
    some_route : (rs : List Route) (k : ℕ) → k < length rs → Route
    some_route [] k lt = absurd (omega arith)
    some_route (r ∷ rs) k lt = r

pub returns : goal.returns
returns c =
    let index = c.args.self.now in
    let routes = c.args.routes.now in
    let range = c.range_near-range.result in
    let starts = c.deref.ensures.value in
    let within : range < length index.starts.items = subst (λ (l : List ℕ). range < length l) starts c.range_near-range.ensures.within in
    let inside : IsInRange index.starts.items range c.args.address = subst (λ (l : List ℕ). IsInRange l range c.args.address) starts c.range_near-range.ensures.exact in
    let small : c.args.address < 2 ^ 32 = omega (arith, c.ranges.address.fits) in
    let found = entry_found routes index c.requires range c.args.address c.index-3.result.now within small inside in
    subst (λ (e : Entry). IsEntryFor routes index.sets c.args.address e) (sym c.index-3.ensures) found
