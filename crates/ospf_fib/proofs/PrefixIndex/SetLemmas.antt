-- Sets of hops in one list, and one set more.
use Rattle.std.proofs.Common.{◌≡◌, ◌+◌, ◌≤◌, List, [], ◌∷◌, ◌++◌, length, take, drop, refl, ap, ◌∙◌, arith, length-drop}
use Rattle.std.specs.Prelude.{map}
use Rattle.std.specs.List.{All}
use Rattle.std.proofs.lemmas.List.{drop-append-le, drop_at, map_push, take-append-le, take_all}
use Rattle.std.proofs.lemmas.List.Elements.{All-head, All-tail}
use Rattle.ospf_graph.specs.declared.hop.NextHop.{NextHop}
use Rattle.ospf_fib.specs.declared.index.sets.HopSet.{HopSet}

-- the hops of a set in the list of all
abbrev part : List NextHop → HopSet → List NextHop
part hops s = take s.count (drop s.first hops)

abbrev Stands : List NextHop → HopSet → Type 0
Stands hops s = s.first + s.count ≤ length hops

-- what stands behind a set does not change it
same_parts : (hops more : List NextHop) (sets : List HopSet) → All (Stands hops) sets → map (part (hops ++ more)) sets ≡ map (part hops) sets
same_parts hops more [] h = refl
same_parts hops more (s ∷ ss) h =
    let fits : s.first + s.count ≤ length hops = All-head (Stands hops) s ss h in
    let dropped : drop s.first (hops ++ more) ≡ drop s.first hops ++ more = drop-append-le s.first hops more (omega arith) in
    let taken : take s.count (drop s.first hops ++ more) ≡ take s.count (drop s.first hops) = take-append-le s.count (drop s.first hops) more (omega (arith, length-drop s.first hops)) in
    let one : part (hops ++ more) s ≡ part hops s = ap (take s.count) dropped ∙ taken in
    rw (one, same_parts hops more ss (All-tail (Stands hops) s ss h)) refl

-- a set is put behind all others
pub one_part_more : (hops more : List NextHop) (sets : List HopSet) (s : HopSet) → All (Stands hops) sets → s.first ≡ length hops → s.count ≡ length more
    → map (part (hops ++ more)) (sets ++ s ∷ []) ≡ map (part hops) sets ++ more ∷ []
one_part_more hops more sets s h first count =
    let dropped : drop s.first (hops ++ more) ≡ more = rw first (drop_at hops more (length hops) refl) in
    let last : part (hops ++ more) s ≡ more = ap (take s.count) dropped ∙ take_all s.count more (omega (arith, count)) in
    map_push (part (hops ++ more)) sets s ∙ rw (last, same_parts hops more sets h) refl
