-- The index after a route was put in the place of the one to its prefix.
use Rattle.std.proofs.Common.{◌≡◌, ◌+◌, ◌<◌, ◌≤◌, ◌⊎◌, ℕ, List, [], ◌∷◌, ◌++◌, length, get_or, set, take, vec_capacity, vec_len, sym, ap, subst, ◌∙◌, inl, inr, arith}
use Rattle.std.specs.List.{All, sum_by}
use Rattle.std.proofs.lemmas.List.{get_or_append_left, get_or_push, get_or-set_same, get_or-set_other, length_push, length-map, length-set, take_all, take_more}
use Rattle.std.proofs.lemmas.List.Elements.{All-weaker}
use Rattle.std.proofs.lemmas.List.Sums.{sum_by_more}
use Rattle.ospf_base.specs.declared.prefix.Prefix.{Prefix}
use Rattle.ospf_base.specs.Prefixes.{Holds}
use Rattle.ospf_graph.specs.declared.hop.NextHop.{NextHop}
use Rattle.ospf_graph.specs.declared.route.Route.{Route}
use Rattle.ospf_spf.proofs.EditLemmas.{edited_none, edited_push}
use Rattle.ospf_spf.proofs.OrderLemmas.{changed_table}
use Rattle.ospf_spf.specs.Changes.{changed, edited, PutsHops, Reaches}
use Rattle.ospf_spf.specs.Table.{IsInOrder}
use Rattle.ospf_spf.specs.declared.changes.Change.{Change}
use Rattle.ospf_spf.specs.declared.changes.Change.TheVariants.{Put}
use Rattle.ospf_fib.proofs.PrefixIndex.BlockLemmas.{holds_in}
use Rattle.ospf_fib.proofs.PrefixIndex.ReplaceLemmas.{ArePrefixesKept, at_place, kept_put, only_place, place_kept, put_is_set, replaces_kept, route_here, route_other, same_or_other}
use Rattle.ospf_fib.specs.PrefixIndex.Entries.{IsEntryAt}
use Rattle.ospf_fib.specs.PrefixIndex.Indexes.{IsIndexOf}
use Rattle.ospf_fib.specs.PrefixIndex.Ranges.{HasRanges, IsDirectory, IsInRange, IsPlaceFor}
use Rattle.ospf_fib.specs.PrefixIndex.Replaced.{AreSetsLonger, IsRoutePut, Replaces, answered_entry}
use Rattle.ospf_fib.specs.PrefixIndex.Room.{hops_put}
use Rattle.ospf_fib.specs.PrefixIndex.Sets.{AreNumbersOf, hops_of, lists_of}
use Rattle.ospf_fib.specs.declared.index.entries.Entry.{Entry}
use Rattle.ospf_fib.specs.declared.index.index.Index.{Index}
use Rattle.ospf_fib.specs.declared.index.sets.HopSets.{HopSets}

less_or_more : (i j : ℕ) → (i < j) ⊎ (j ≤ i)
less_or_more i j = grind arith

none_or_some : (n : ℕ) → (n ≡ 0) ⊎ (0 < n)
none_or_some n = grind arith

lists_long : (sets : HopSets) → length (lists_of sets) ≡ length sets.sets.items
lists_long sets = length-map sets.sets.items _

module _ (routes : List Route) (table : IsInOrder routes) (old new : Index) (m : IsIndexOf routes old) (q : Route) (place : ℕ) (lt : place < length routes)
    (at : (d : Route) → (get_or routes place d).prefix ≡ q.prefix)
    (put : IsRoutePut old q new) where
  abbrev after : List Route
  after = set routes place q

  abbrev many : ℕ
  many = length old.sets.sets.items

  abbrev numbers : List ℕ
  numbers = set m.numbers place many

  old_hops : (k : ℕ) → k < many → hops_of new.sets k ≡ hops_of old.sets k
  old_hops k less = ap (λ (l : List (List NextHop)). get_or l k []) put.lists ∙ get_or_append_left (lists_of old.sets) (q.hops ∷ []) [] k (omega (arith, lists_long old.sets))

  new_hops : hops_of new.sets many ≡ q.hops
  new_hops = ap (λ (l : List (List NextHop)). get_or l many []) put.lists ∙ get_or_push (lists_of old.sets) q.hops [] many (lists_long old.sets)

  more : length new.sets.sets.items ≡ many + 1
  more = sym (lists_long new.sets) ∙ ap length put.lists ∙ length_push (lists_of old.sets) q.hops ∙ ap (λ (n : ℕ). n + 1) (lists_long old.sets)

  number_here : (k : ℕ) → k ≡ place → get_or numbers k 0 ≡ many
  number_here k same = ap (λ (n : ℕ). get_or numbers n 0) same ∙ get_or-set_same m.numbers place many 0 (omega (arith, m.sets.same_length))

  number_other : (k : ℕ) → (k ≡ place → ⊥) → get_or numbers k 0 ≡ get_or m.numbers k 0
  number_other k other = get_or-set_other m.numbers place k many 0 other

  long : length after ≡ length routes
  long = length-set routes place q

  sets_after : AreNumbersOf after new.sets numbers
  sets_after = record {
    stand = put.stand;
    some = omega (arith, more);
    none = old_hops 0 m.sets.some ∙ m.sets.none;
    same_length = length-set m.numbers place many ∙ m.sets.same_length ∙ sym long;
    within = λ k less. elim (same_or_other k place) [
      | inl same ↦ omega (arith, number_here k same, more)
      | inr other ↦ omega (arith, number_other k other, m.sets.within k (omega (arith, long)), more)
    ];
    exact = λ k d less. elim (same_or_other k place) [
      | inl same ↦ ap (hops_of new.sets) (number_here k same) ∙ new_hops ∙ sym (ap (λ (r : Route). r.hops) (route_here routes table.in_order q place lt at k d same))
      | inr other ↦
          let within : k < length routes = omega (arith, long) in
          ap (hops_of new.sets) (number_other k other) ∙ old_hops (get_or m.numbers k 0) (m.sets.within k within) ∙ m.sets.exact k d within
          ∙ sym (ap (λ (r : Route). r.hops) (route_other routes table.in_order q place lt at k d other))
    ];
  }

  -- the ranges that the route answers lie within its prefix
  in_walk : (i : ℕ) → i < length old.starts.items → get_or m.places i 0 ≡ place → (put.from ≤ i) × (i < put.to)
  in_walk i less here =
      let starts = old.starts.items in
      let start = get_or starts i 0 in
      let inside : IsInRange starts i start = (omega arith, λ next. m.ranges.in_order i (i + 1) (omega arith) next) in
      let answer : IsPlaceFor routes start place = subst (λ (n : ℕ). IsPlaceFor routes start n) here (m.ranges.exact i start less (put.addresses i 0 less) inside) in
      let held : Holds q.prefix start = subst (λ (p : Prefix). Holds p start) (at q) ((answer.0 lt).holds q) in
      let bounds = holds_in q.prefix start (put.addresses i 0 less) held in (
        elim (less_or_more i put.from) [ inl early ↦ absurd (omega (arith, put.first.before i early, bounds.0)) | inr ok ↦ ok ],
        elim (less_or_more i put.to) [ inl ok ↦ ok | inr late ↦ absurd (omega (arith, put.last.behind i late less, bounds.1)) ],
      )

  module _ (i : ℕ) (d : Entry) (less : i < length m.places) where
    abbrev was_place : ℕ
    was_place = get_or m.places i 0

    abbrev entry : Entry
    entry = get_or old.entries.items i d

    was : IsEntryAt routes m.numbers was_place entry
    was = m.entries.exact i d less

    -- the place of the route: it has a hop, so its set is not that of no hop
    here_after : was_place ≡ place → IsEntryAt after numbers was_place (get_or new.entries.items i d)
    here_after here =
        let within : was_place < length routes = omega (arith, here) in
        let of = was.0 within q in
        let prefix : entry.prefix ≡ q.prefix = of.0 ∙ ap (λ (n : ℕ). (get_or routes n q).prefix) here ∙ at q in
        let some : 0 < entry.set = elim (none_or_some entry.set) [
          | inr some ↦ some
          | inl none ↦
              let empty : (get_or routes was_place q).hops ≡ [] = sym (m.sets.exact was_place q within) ∙ ap (hops_of old.sets) (sym of.2 ∙ none) ∙ m.sets.none in
              absurd (omega (arith, ap length empty, table.have_hops was_place q within))
        ] in
        let walk = in_walk i (omega (arith, m.ranges.same_length)) here in
        let is : get_or new.entries.items i d ≡ answered_entry q many = put.entries.anew i d walk.0 walk.1 prefix some in
        let made : IsEntryAt after numbers was_place (answered_entry q many) = (
          λ low e.
              let at_e = route_here routes table.in_order q place lt at was_place e here in
              (sym (ap (λ (r : Route). r.prefix) at_e), sym (ap (λ (r : Route). r.cost) at_e), sym (number_here was_place here)),
          λ high. absurd (omega (arith, long, within)),
        ) in
        subst (λ (e : Entry). IsEntryAt after numbers was_place e) (sym is) made

    -- any other route
    other_after : (was_place ≡ place → ⊥) → was_place < length routes → IsEntryAt after numbers was_place (get_or new.entries.items i d)
    other_after other within =
        let unlike : entry.prefix ≡ q.prefix → entry.set ≡ 0 =
        λ same. absurd (other (only_place routes table.in_order q place lt at was_place q within (sym (was.0 within q).0 ∙ same))) in
        let is : get_or new.entries.items i d ≡ entry = put.entries.others i d unlike in
        let made : IsEntryAt after numbers was_place entry = (
          λ low e.
              let of = was.0 within e in
              let at_e = route_other routes table.in_order q place lt at was_place e other in
              (of.0 ∙ sym (ap (λ (r : Route). r.prefix) at_e), of.1 ∙ sym (ap (λ (r : Route). r.cost) at_e), of.2 ∙ sym (number_other was_place other)),
          λ high. absurd (omega (arith, long, within)),
        ) in
        subst (λ (e : Entry). IsEntryAt after numbers was_place e) (sym is) made

    -- no route
    none_after : length routes ≤ was_place → IsEntryAt after numbers was_place (get_or new.entries.items i d)
    none_after beyond =
        let none : entry.set ≡ 0 = was.1 beyond in
        let is : get_or new.entries.items i d ≡ entry = put.entries.others i d (λ _. none) in
        let made : IsEntryAt after numbers was_place entry = (λ low e. absurd (omega (arith, long, beyond)), λ high. none) in
        subst (λ (e : Entry). IsEntryAt after numbers was_place e) (sym is) made

    entry_after : IsEntryAt after numbers was_place (get_or new.entries.items i d)
    entry_after = elim (same_or_other was_place place) [
      | inl here ↦ here_after here
      | inr other ↦ elim (less_or_more was_place (length routes)) [ inl within ↦ other_after other within | inr beyond ↦ none_after beyond ]
    ]

  ranges_after : HasRanges after old.starts.items m.places
  ranges_after =
      let kept : ArePrefixesKept routes after = subst (λ (rs : List Route). ArePrefixesKept routes rs) (put_is_set routes table.in_order q place lt at) (kept_put routes table.in_order q place lt at) in
      record {
        same_length = m.ranges.same_length;
        some = m.ranges.some;
        from_first = m.ranges.from_first;
        in_order = m.ranges.in_order;
        exact = λ i address less fits inside. place_kept routes after kept address (get_or m.places i 0) (m.ranges.exact i address less fits inside);
      }

  index_of_set : IsIndexOf after new
  index_of_set = record {
    places = m.places;
    numbers = numbers;
    ranges = subst (λ (starts : List ℕ). HasRanges after starts m.places) (sym put.starts) ranges_after;
    sets = sets_after;
    entries = record { same_length = put.entries.same_length ∙ m.entries.same_length; exact = entry_after };
    directory = subst (λ (starts : List ℕ). IsDirectory starts new.directory.items) (sym put.starts)
        (subst (λ (directory : List ℕ). IsDirectory old.starts.items directory) (sym put.directory) m.directory);
  }

  pub index_after : IsIndexOf (changed routes (Put q)) new
  index_after = subst (λ (rs : List Route). IsIndexOf rs new) (sym (put_is_set routes table.in_order q place lt at)) index_of_set

-- the index is that of the routes after so many of the changes, and there is room for the sets of the others
pub record IsFollowed (routes : List Route) (cs : List Change) (n : ℕ) (old new : Index) : Type 0 where
  pub table : IsInOrder (edited routes (take n cs))
  pub index : IsIndexOf (edited routes (take n cs)) new
  pub replace : All (Replaces (edited routes (take n cs))) cs
  pub sets : vec_len new.sets.sets ≡ vec_len old.sets.sets + n
  pub hops : vec_len new.sets.hops ≡ vec_len old.sets.hops + sum_by hops_put (take n cs)
  pub room_sets : vec_capacity old.sets.sets ≤ vec_capacity new.sets.sets
  pub room_hops : vec_capacity old.sets.hops ≤ vec_capacity new.sets.hops

pub follow_start : (routes : List Route) (cs : List Change) (old : Index) → IsInOrder routes → IsIndexOf routes old → All (Replaces routes) cs → IsFollowed routes cs 0 old old
follow_start routes cs old table index replace =
    let none : routes ≡ edited routes [] = sym (edited_none routes) in
    record {
      table = subst (λ (rs : List Route). IsInOrder rs) none table;
      index = subst (λ (rs : List Route). IsIndexOf rs old) none index;
      replace = subst (λ (rs : List Route). All (Replaces rs) cs) none replace;
      sets = omega arith;
      hops = omega arith;
      room_sets = omega arith;
      room_hops = omega arith;
    }

pub follow_next : (routes : List Route) (cs : List Change) (n : ℕ) (old now new : Index) (q : Route) → n < length cs → get_or cs n (Put q) ≡ Put q → All PutsHops cs
    → IsFollowed routes cs n old now → IsRoutePut now q new → AreSetsLonger now.sets q new.sets
    → IsFollowed routes cs (n + 1) old new
follow_next routes cs n old now new q lt is hops m put longer =
    let made = edited routes (take n cs) in
    let more : take (n + 1) cs ≡ take n cs ++ Put q ∷ [] = take_more cs n (Put q) lt ∙ ap (λ (c : Change). take n cs ++ c ∷ []) is in
    let next : changed made (Put q) ≡ edited routes (take (n + 1) cs) = sym (ap (λ (l : List Change). edited routes l) more ∙ edited_push routes (take n cs) (Put q)) in
    let there : Reaches made q.prefix = subst (λ (c : Change). Replaces made c) is (m.replace n (Put q) lt) in
    let at = at_place made q.prefix there in
    let kept = kept_put made m.table.in_order q there.1.0 there.1.1 at in
    record {
      table = subst (λ (rs : List Route). IsInOrder rs) next (changed_table made (Put q) m.table (subst (λ (c : Change). PutsHops c) is (hops n (Put q) lt)));
      index = subst (λ (rs : List Route). IsIndexOf rs new) next (index_after made m.table now new m.index q there.1.0 there.1.1 at put);
      replace = subst (λ (rs : List Route). All (Replaces rs) cs) next (All-weaker (Replaces made) (Replaces (changed made (Put q))) (λ c h. replaces_kept made (changed made (Put q)) kept c h) cs m.replace);
      sets = omega (arith, longer.sets, m.sets);
      hops = omega (arith, longer.hops, m.hops, sum_by_more hops_put cs n (Put q) lt, ap hops_put is);
      room_sets = omega (arith, longer.room_sets, m.room_sets);
      room_hops = omega (arith, longer.room_hops, m.room_hops);
    }
