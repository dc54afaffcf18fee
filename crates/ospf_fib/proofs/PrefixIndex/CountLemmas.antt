-- How many hops a table has after changes.
use Rattle.std.proofs.Common.{arith, ◌≡◌, ◌+◌, ◌≤◌, Bool, true, false, ℕ, List, [], ◌∷◌, ◌++◌, length, cond, refl, ap}
use Rattle.std.specs.List.{filter, sum_by}
use Rattle.std.proofs.lemmas.List.Sums.{sum_by-append, sum_by-cons}
use Rattle.ospf_graph.specs.declared.route.Route.{Route}
use Rattle.ospf_spf.proofs.EditLemmas.{edited_more, edited_none, no_turn, told}
use Rattle.ospf_spf.specs.Changes.{changed, edited, prefix_of, put_of, stands_before}
use Rattle.ospf_spf.specs.declared.changes.Change.{Change}
use Rattle.ospf_spf.specs.declared.changes.Change.TheVariants.{Put, Gone}
use Rattle.ospf_fib.specs.PrefixIndex.Room.{hops_in, hops_put}

abbrev many : Route → ℕ
many r = length r.hops

-- the hops of what passes one of two tests that no route passes both of
both_filters : (p q : Route → Bool) → ((x : Route) → p x ≡ true → q x ≡ true → ⊥) → (xs : List Route) → hops_in (filter p xs) + hops_in (filter q xs) ≤ hops_in xs
both_filters p q apart [] = omega arith
both_filters p q apart (x ∷ xs) = by_tests (p x) (q x) refl refl (both_filters p q apart xs)
  where
    by_tests : (a b : Bool) → p x ≡ a → q x ≡ b → hops_in (filter p xs) + hops_in (filter q xs) ≤ hops_in xs
        → hops_in (cond a (x ∷ filter p xs) (filter p xs)) + hops_in (cond b (x ∷ filter q xs) (filter q xs)) ≤ hops_in (x ∷ xs)
    by_tests true true e f rest = absurd (apart x e f)
    by_tests true false e f rest = omega (arith, rest, sum_by-cons many x (filter p xs), sum_by-cons many x xs)
    by_tests false true e f rest = omega (arith, rest, sum_by-cons many x (filter q xs), sum_by-cons many x xs)
    by_tests false false e f rest = omega (arith, rest, sum_by-cons many x xs)

put_hops : (c : Change) → hops_in (put_of c) ≤ hops_put c
put_hops (Put route) = omega arith
put_hops (Gone prefix) = omega arith

changed_hops : (routes : List Route) (c : Change) → hops_in (changed routes c) ≤ hops_in routes + hops_put c
unfolding changed
changed_hops routes c =
    let p = prefix_of c in
    let front : Route → Bool = λ r. stands_before r.prefix p in
    let back : Route → Bool = λ r. stands_before p r.prefix in
    let both = both_filters front back (λ r e f. no_turn r.prefix p ((told r.prefix p).0 e) ((told p r.prefix).0 f)) routes in
    let one = put_hops c in
    omega (arith, both, one, sum_by-append many (filter front routes) (put_of c ++ filter back routes), sum_by-append many (put_of c) (filter back routes))

-- the hops that were there, and those that are put
pub edited_hops : (routes : List Route) (cs : List Change) → hops_in (edited routes cs) ≤ hops_in routes + sum_by hops_put cs
edited_hops routes [] = omega (arith, ap hops_in (edited_none routes))
edited_hops routes (c ∷ cs) = omega (arith, ap hops_in (edited_more routes c cs), edited_hops (changed routes c) cs, changed_hops routes c, sum_by-cons hops_put c cs)
