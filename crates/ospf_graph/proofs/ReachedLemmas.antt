-- What is reached, seen as lists of distances and starts.
use Rattle.std.proofs.Common.{◌≡◌, ◌+◌, ◌<◌, ◌⊎◌, ℕ, zero, suc, Option, Some, None, List, [], ◌∷◌, ◌++◌, map, length, take, get_or, set, refl, sym, ◌∙◌, ap, subst, inl, inr, ⊎_elim, arith, append_assoc, append-nil}
use Rattle.std.specs.List.{Contains}
use Rattle.std.proofs.lemmas.List.{get_or_default, get_or-set_same, get_or-set_other, length-set, take_more}
use Rattle.std.proofs.lemmas.Bool.{cases_eq}
use Rattle.std.proofs.lemmas.List.Elements.{Contains-append_left, Contains-append_right, Contains-append_cases}
use Rattle.ospf_graph.proofs.ListLemmas.{member_cases, member_head, member_later, member_of_map, member_to_map}
use Rattle.ospf_graph.proofs.CandidateLemmas.{code_injective}
use Rattle.ospf_graph.specs.Adds.{Adds}
use Rattle.ospf_graph.specs.Reached.{ArePlaces, extended_by, settled_of, starts_at, starts_of}
use Rattle.ospf_graph.specs.Search.{AtIn, BringsStarts, vertex_code}
use Rattle.ospf_graph.specs.Tree.{extend}
use Rattle.ospf_graph.specs.declared.graph.Edge.{Edge}
use Rattle.ospf_graph.specs.declared.graph.Start.{Start}
use Rattle.ospf_graph.specs.declared.graph.Vertex.{Vertex}
use Rattle.ospf_graph.specs.declared.paths.VertexStart.{VertexStart}
use Rattle.ospf_graph.specs.declared.reached.Reached.{Reached}

-- who has a start
pub starts_from : (rs : List Reached) (b : VertexStart) → Contains (starts_of rs) b → (r : Reached) × Contains rs r × (r.vertex ≡ b.vertex) × Contains r.starts.items b.start
starts_from [] b h = absurd (let low = h.1 in omega arith)
starts_from (r ∷ rest) b h =
    elim (Contains-append_cases (map (λ x. record { vertex = r.vertex; start = x }) r.starts.items) (starts_of rest) b h) [
      | inl here ↦
          let m = member_of_map (λ (x : Start). record { vertex = r.vertex; start = x }) r.starts.items b here in
          (r, member_head r rest, ap (λ c. c.vertex) m.2, rw (← ap (λ c. c.start) m.2) m.1)
      | inr later ↦ let ih = starts_from rest b later in (ih.0, member_later r rest ih.0 ih.1, ih.2, ih.3)
    ]

pub starts_to : (rs : List Reached) (r : Reached) (x : Start) → Contains rs r → Contains r.starts.items x → Contains (starts_of rs) (record { vertex = r.vertex; start = x })
starts_to [] r x h has = absurd (let low = h.1 in omega arith)
starts_to (s ∷ rest) r x h has =
    elim (member_cases s rest r h) [
      | inl same ↦
          let has' : Contains s.starts.items x = rw same has in
          let there : Contains (starts_of (s ∷ rest)) (record { vertex = s.vertex; start = x }) =
          Contains-append_left (map (λ y. record { vertex = s.vertex; start = y }) s.starts.items) (starts_of rest) _ (member_to_map (λ (y : Start). record { vertex = s.vertex; start = y }) s.starts.items x has') in
          rw (← same) there
      | inr later ↦ Contains-append_right (map (λ y. record { vertex = s.vertex; start = y }) s.starts.items) (starts_of rest) _ (starts_to rest r x later has)
    ]

-- a vertex with no start
pub starts_of-push : (rs : List Reached) (r : Reached) → r.starts.items ≡ [] → starts_of (rs ++ r ∷ []) ≡ starts_of rs
starts_of-push [] r none = rw none
starts_of-push (s ∷ rest) r none = ap (λ l. map (λ y. record { vertex = s.vertex; start = y }) s.starts.items ++ l) (starts_of-push rest r none)

-- one entry anew, at its vertex and distance
pub settled_of-set : (rs : List Reached) (k : ℕ) (r : Reached) → ((d : Reached) → k < length rs → (get_or rs k d).vertex ≡ r.vertex)
    → ((d : Reached) → k < length rs → (get_or rs k d).distance ≡ r.distance) → settled_of (set rs k r) ≡ settled_of rs
settled_of-set [] k r same near = refl
settled_of-set (s ∷ rest) zero r same near = let a = same r (omega arith) in let b = near r (omega arith) in rw (← a, ← b) refl
settled_of-set (s ∷ rest) (suc k) r same near =
    ap (λ l. record { vertex = s.vertex; distance = s.distance } ∷ l) (settled_of-set rest k r (λ d lt. same d (omega arith)) (λ d lt. near d (omega arith)))

-- some value is one
pub none_some : (o : Option ℕ) (k : ℕ) → o ≡ None → o ≡ Some k → ⊥
none_some o k a b = let no : None ≡ Some k = sym a ∙ b in cc

pub some_same : (o : Option ℕ) (j k : ℕ) → o ≡ Some j → o ≡ Some k → j ≡ k
some_same o j k a b = let both : Some j ≡ Some k = sym a ∙ b in cc

module _ (place : ℕ → Option ℕ) (rs : List Reached) (are : ArePlaces place rs) where
  pub place_at : (r : Reached) → Contains rs r → (j : ℕ) × (j < length rs) × (place (vertex_code r.vertex) ≡ Some j) × (get_or rs j r ≡ r)
  place_at r m = (m.0, m.1, ap (λ x. place (vertex_code x.vertex)) (sym m.2) ∙ are.known m.0 r m.1, m.2)

  -- the one at a vertex stands at its place
  pub stands : (r : Reached) (v : Vertex) (k : ℕ) → Contains rs r → r.vertex ≡ v → place (vertex_code v) ≡ Some k → get_or rs k r ≡ r
  stands r v k m at is =
      let p = place_at r m in
      let same : p.0 ≡ k = some_same (place (vertex_code v)) p.0 k (ap (λ w. place (vertex_code w)) (sym at) ∙ p.2) is in
      ap (λ j. get_or rs j r) (sym same) ∙ p.3

  -- nothing is brought from where nothing is reached
  pub brings_none : (edge : Edge) → place (vertex_code edge.from) ≡ None → BringsStarts edge (starts_of rs) (starts_of rs)
  brings_none edge none =
      record {
        kept = λ b h. h;
        brought = λ x has.
            let s = starts_from rs _ has in
            let p = place_at s.0 s.1 in
            absurd (none_some (place (vertex_code edge.from)) p.0 none (ap (λ w. place (vertex_code w)) (sym s.2) ∙ p.2));
        only = λ b h. inl h;
      }

  module _ (edge : Edge) (from to : ℕ) (at_from : place (vertex_code edge.from) ≡ Some from) (at_to : place (vertex_code edge.to) ≡ Some to)
      (first last new : Reached) (first_is : first ≡ get_or rs from first) (last_is : last ≡ get_or rs to last) (same : new.vertex ≡ last.vertex)
      (adds : Adds (Contains (extended_by edge first.starts.items)) last.starts.items new.starts.items) where
    lt_from : from < length rs
    lt_from = (are.found (vertex_code edge.from) from at_from).0

    lt_to : to < length rs
    lt_to = (are.found (vertex_code edge.to) to at_to).0

    first_in : Contains rs first
    first_in = (from, lt_from, sym first_is)

    last_in : Contains rs last
    last_in = (to, lt_to, sym last_is)

    first_at : first.vertex ≡ edge.from
    first_at = code_injective first.vertex edge.from (ap (λ r. vertex_code r.vertex) first_is ∙ (are.found (vertex_code edge.from) from at_from).1 first)

    last_at : last.vertex ≡ edge.to
    last_at = code_injective last.vertex edge.to (ap (λ r. vertex_code r.vertex) last_is ∙ (are.found (vertex_code edge.to) to at_to).1 last)

    new_at : new.vertex ≡ edge.to
    new_at = same ∙ last_at

    new_in : Contains (set rs to new) new
    new_in = (to, (let long = length-set rs to new in let low = lt_to in omega arith), get_or-set_same rs to new new lt_to)

    -- who is there now was there, or is the new one
    now_cases : (r : Reached) → Contains (set rs to new) r → (new ≡ r) ⊎ Contains rs r
    now_cases r m =
        let lt : m.0 < length rs = (let long = length-set rs to new in let low = m.1 in omega arith) in
        ⊎_elim (λ e. inl (sym (get_or-set_same rs to new r lt_to) ∙ ap (λ j. get_or (set rs to new) j r) (sym e) ∙ m.2))
        (λ ne. inr (m.0, lt, sym (get_or-set_other rs to m.0 new r ne) ∙ m.2)) (cases_eq m.0 to)

    -- who was there stands at the end, or is there now
    was_cases : (r : Reached) → Contains rs r → (last ≡ r) ⊎ Contains (set rs to new) r
    was_cases r m =
        ⊎_elim (λ e. inl (last_is ∙ get_or_default rs to last r lt_to ∙ ap (λ j. get_or rs j r) (sym e) ∙ m.2))
        (λ ne. inr (m.0, (let long = length-set rs to new in let low = m.1 in omega arith), get_or-set_other rs to m.0 new r ne ∙ m.2)) (cases_eq m.0 to)

    new_start : (x : Start) → Contains new.starts.items x → (v : Vertex) → v ≡ edge.to → Contains (starts_of (set rs to new)) (record { vertex = v; start = x })
    new_start x has v at = rw (at ∙ sym new_at) (starts_to (set rs to new) new x new_in has)

    pub brings_some : BringsStarts edge (starts_of rs) (starts_of (set rs to new))
    brings_some =
        record {
          kept = λ b h.
              let s = starts_from rs b h in
              elim (was_cases s.0 s.1) [
                | inl here ↦
                    let has : Contains last.starts.items b.start = rw here s.3 in
                    new_start b.start ((adds b.start).1 (inl has)) b.vertex (sym s.2 ∙ ap (λ r. r.vertex) (sym here) ∙ last_at)
                | inr there ↦ rw (← s.2) (starts_to (set rs to new) s.0 b.start there s.3)
              ];
          brought = λ x has.
              let s = starts_from rs _ has in
              let is : first ≡ s.0 = first_is ∙ get_or_default rs from first s.0 lt_from ∙ stands s.0 edge.from from s.1 s.2 at_from in
              let has' : Contains first.starts.items x = rw is s.3 in
              new_start _ ((adds _).1 (inr (member_to_map (λ y. extend y edge.to edge.link_data) first.starts.items x has'))) edge.to refl;
          only = λ b h.
              let s = starts_from (set rs to new) b h in
              elim (now_cases s.0 s.1) [
                | inl here ↦
                    let at : b.vertex ≡ edge.to = sym s.2 ∙ ap (λ r. r.vertex) (sym here) ∙ new_at in
                    let has : Contains new.starts.items b.start = rw here s.3 in
                    elim ((adds b.start).0 has) [
                      | inl old ↦ inl (rw (at ∙ sym last_at) (starts_to rs last b.start last_in old))
                      | inr more ↦
                          let y = member_of_map (λ y. extend y edge.to edge.link_data) first.starts.items b.start more in
                          inr (at, y.0, rw (← first_at) (starts_to rs first y.0 first_in y.1), sym y.2)
                    ]
                | inr there ↦ inl (rw (← s.2) (starts_to rs s.0 b.start there s.3))
              ];
        }

starts_of-append : (rs ss : List Reached) → starts_of (rs ++ ss) ≡ starts_of rs ++ starts_of ss
starts_of-append [] ss = refl
starts_of-append (r ∷ rest) ss =
    ap (λ l. starts_at r.vertex r.starts.items ++ l) (starts_of-append rest ss) ∙ sym (append_assoc (starts_at r.vertex r.starts.items) (starts_of rest) (starts_of ss))

-- one entry more
pub starts_of-more : (rs : List Reached) (i : ℕ) (r : Reached) (old new : List VertexStart) → i < length rs → r ≡ get_or rs i r → old ≡ starts_of (take i rs)
    → new ≡ old ++ starts_at r.vertex r.starts.items → new ≡ starts_of (take (i + 1) rs)
starts_of-more rs i r old new lt is so_far new_is =
    let more : starts_of (take (i + 1) rs) ≡ starts_of (take i rs) ++ starts_of (r ∷ []) =
    ap (λ l. starts_of l) (take_more rs i r lt ∙ ap (λ x. take i rs ++ x ∷ []) (sym is)) ∙ starts_of-append (take i rs) (r ∷ []) in
    new_is ∙ ap (λ l. l ++ starts_at r.vertex r.starts.items) so_far ∙ ap (λ l. starts_of (take i rs) ++ l) (sym (append-nil (starts_at r.vertex r.starts.items))) ∙ sym more

module _ (place : ℕ → Option ℕ) (rs : List Reached) (are : ArePlaces place rs) (v : Vertex) where
  -- a vertex without a place is not reached
  pub fresh_at : place (vertex_code v) ≡ None → (d : ℕ) → AtIn (settled_of rs) v d → ⊥
  fresh_at none d at =
      let m = member_of_map (λ (r : Reached). record { vertex = r.vertex; distance = r.distance }) rs (record { vertex = v; distance = d }) at in
      let p = place_at place rs are m.0 m.1 in
      none_some (place (vertex_code v)) p.0 none (ap (λ s. place (vertex_code s.vertex)) (sym m.2) ∙ p.2)

  -- one with a place is
  pub settled_at : (k : ℕ) → place (vertex_code v) ≡ Some k → (r : Reached) → r ≡ get_or rs k r → AtIn (settled_of rs) v r.distance
  settled_at k some r is =
      let f = are.found (vertex_code v) k some in
      let at : r.vertex ≡ v = code_injective r.vertex v (ap (λ s. vertex_code s.vertex) is ∙ f.1 r) in
      let there = member_to_map (λ (s : Reached). record { vertex = s.vertex; distance = s.distance }) rs r (k, f.0, sym is) in
      subst (λ w. AtIn (settled_of rs) w r.distance) at there
