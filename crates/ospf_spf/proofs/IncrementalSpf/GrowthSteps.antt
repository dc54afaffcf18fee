-- What an edge that is taken does to what is reached, and which edges wait then.
use Rattle.std.proofs.Common.{◌≡◌, ◌+◌, ◌<◌, ◌⊎◌, ◌↔◌, ◌≢◌, ◌^◌, ℕ, Option, Some, None, List, [], ◌∷◌, ◌++◌, length, take, drop, get_or, set, sym, ◌∙◌, ap, subst, inl, inr, ⊎_elim, arith, append_assoc, append-nil}
use Rattle.std.specs.List.{All, Contains}
use Rattle.std.specs.List.Sorted.{IsPermutation}
use Rattle.std.proofs.lemmas.Bool.{cases_eq}
use Rattle.std.proofs.lemmas.List.{get_or_default, get_or-set_same, get_or-set_other, length-set, map-append, take_more, take-append-drop}
use Rattle.std.proofs.lemmas.List.Elements.{All-contains, Contains-append_left, Contains-append_right, Contains-append_cases, Contains-push, Contains-push_cases}
use Rattle.std.proofs.lemmas.List.Sorted.{IsPermutation-sym, Contains-permutation}
use Rattle.ospf_graph.specs.declared.candidates.SpfCandidate.{SpfCandidate}
use Rattle.ospf_graph.specs.declared.graph.Edge.{Edge}
use Rattle.ospf_graph.specs.declared.graph.Start.{Start}
use Rattle.ospf_graph.specs.declared.graph.Vertex.{Vertex}
use Rattle.ospf_graph.specs.declared.reached.Reached.{Reached}
use Rattle.ospf_spf.specs.IncrementalSpf.Growth.{AreNear, IsAt, HasEdge, Improves, IsRelaxed, IsResetAt, Offers, PaysFor, Spares, HasStart}
use Rattle.ospf_graph.specs.Reached.{ArePlaces, settled_of, starts_at, starts_of}
use Rattle.ospf_graph.specs.Search.{BringsStarts, candidates_from, vertex_code}
use Rattle.ospf_graph.specs.Tree.{extend}
use Rattle.ospf_graph.proofs.CandidateLemmas.{candidates_from-has, candidates_from-is, code_injective}
use Rattle.ospf_graph.proofs.CandidateLemmas.{same_or_other}
use Rattle.ospf_spf.proofs.IncrementalSpf.GrowthLemmas.{improved, seen}
use Rattle.ospf_graph.proofs.ListLemmas.{member_cases, member_head, member_later, member_of_map, member_to_map}
use Rattle.ospf_graph.proofs.ReachedLemmas.{none_some, place_at, some_same, stands, starts_from, starts_to}

-- who is reached at a vertex
pub at_from : (rs : List Reached) (v : Vertex) (d : ℕ) → IsAt rs v d → (r : Reached) × Contains rs r × (r.vertex ≡ v) × (r.distance ≡ d)
at_from rs v d at =
    let m = member_of_map (λ (r : Reached). record { vertex = r.vertex; distance = r.distance }) rs (record { vertex = v; distance = d }) at in
    (m.0, m.1, ap (λ s. s.vertex) m.2, ap (λ s. s.distance) m.2)

pub at_to : (rs : List Reached) (r : Reached) (v : Vertex) (d : ℕ) → Contains rs r → r.vertex ≡ v → r.distance ≡ d → IsAt rs v d
at_to rs r v d m at far =
    let there : IsAt rs r.vertex r.distance = member_to_map (λ (s : Reached). record { vertex = s.vertex; distance = s.distance }) rs r m in
    subst (λ w. IsAt rs w d) at (subst (λ k. IsAt rs r.vertex k) far there)

pub start_to : (rs : List Reached) (r : Reached) (v : Vertex) (x : Start) → Contains rs r → r.vertex ≡ v → Contains r.starts.items x → HasStart rs v x
start_to rs r v x m at has = subst (λ w. HasStart rs w x) at (starts_to rs r x m has)

module _ (place : ℕ → Option ℕ) (rs : List Reached) (are : ArePlaces place rs) where
  -- a vertex is reached once
  pub at_one : (v : Vertex) (d k : ℕ) → IsAt rs v d → IsAt rs v k → d ≡ k
  at_one v d k p q =
      let a = at_from rs v d p in
      let b = at_from rs v k q in
      let i = place_at place rs are a.0 a.1 in
      let j = place_at place rs are b.0 b.1 in
      let same : i.0 ≡ j.0 = some_same (place (vertex_code v)) i.0 j.0 (ap (λ w. place (vertex_code w)) (sym a.2) ∙ i.2) (ap (λ w. place (vertex_code w)) (sym b.2) ∙ j.2) in
      let is : a.0 ≡ b.0 = sym i.3 ∙ get_or_default rs i.0 a.0 b.0 i.1 ∙ ap (λ n. get_or rs n b.0) same ∙ j.3 in
      sym a.3 ∙ ap (λ r. r.distance) is ∙ b.3

  -- one without a place has no start
  pub no_start : (v : Vertex) (x : Start) → place (vertex_code v) ≡ None → HasStart rs v x → ⊥
  no_start v x none has =
      let s = starts_from rs _ has in
      let p = place_at place rs are s.0 s.1 in
      none_some (place (vertex_code v)) p.0 none (ap (λ w. place (vertex_code w)) (sym s.2) ∙ p.2)

  -- the starts of the one at a place are those of its vertex
  pub starts_stand : (v : Vertex) (k : ℕ) → place (vertex_code v) ≡ Some k → (r : Reached) → r ≡ get_or rs k r → (x : Start) → Contains r.starts.items x ↔ HasStart rs v x
  starts_stand v k some r is x =
      let f = are.found (vertex_code v) k some in
      let at : r.vertex ≡ v = code_injective r.vertex v (ap (λ q. vertex_code q.vertex) is ∙ f.1 r) in (
        λ has. start_to rs r v x (k, f.0, sym is) at has,
        λ has.
            let s = starts_from rs _ has in
            let same : s.0 ≡ r = sym (stands place rs are s.0 v k s.1 s.2 some) ∙ get_or_default rs k s.0 r f.0 ∙ sym is in
            subst (λ q. Contains q.starts.items x) same s.3,
      )

  module _ (v : Vertex) (way k : ℕ) (some : place (vertex_code v) ≡ Some k) (new : Reached) (new_at : (d : Reached) → (get_or rs k d).vertex ≡ new.vertex)
      (far : new.distance ≡ way) (empty : new.starts.items ≡ []) where
    lt_k : k < length rs
    lt_k = (are.found (vertex_code v) k some).0

    at_v : (d : Reached) → (get_or rs k d).vertex ≡ v
    at_v d = code_injective (get_or rs k d).vertex v ((are.found (vertex_code v) k some).1 d)

    new_is : new.vertex ≡ v
    new_is = sym (new_at new) ∙ at_v new

    new_in : Contains (set rs k new) new
    new_in = (k, (let long = length-set rs k new in let low = lt_k in omega arith), get_or-set_same rs k new new lt_k)

    in_set : (r : Reached) → Contains (set rs k new) r → (new ≡ r) ⊎ (Contains rs r × (r.vertex ≢ v))
    in_set r m =
        let lt : m.0 < length rs = (let long = length-set rs k new in let low = m.1 in omega arith) in
        ⊎_elim (λ e. inl (sym (get_or-set_same rs k new r lt_k) ∙ ap (λ j. get_or (set rs k new) j r) (sym e) ∙ m.2))
        (λ ne.
        let old : get_or rs m.0 r ≡ r = sym (get_or-set_other rs k m.0 new r ne) ∙ m.2 in
        inr (
          (m.0, lt, old),
          λ same. ne (some_same (place (vertex_code v)) m.0 k (ap (λ w. place (vertex_code w)) (sym (ap (λ s. s.vertex) old ∙ same)) ∙ are.known m.0 r lt) some),
        ))
        (cases_eq m.0 k)

    of_set : (r : Reached) → Contains rs r → (r.vertex ≡ v) ⊎ Contains (set rs k new) r
    of_set r m =
        ⊎_elim (λ e. inl (ap (λ s. s.vertex) (sym m.2) ∙ ap (λ j. (get_or rs j r).vertex) e ∙ at_v r))
        (λ ne. inr (m.0, (let long = length-set rs k new in let low = m.1 in omega arith), get_or-set_other rs k m.0 new r ne ∙ m.2)) (cases_eq m.0 k)

    pub reset_is : IsResetAt v way (IsAt rs) (IsAt (set rs k new)) (HasStart rs) (HasStart (set rs k new))
    reset_is =
        record {
          end = at_to (set rs k new) new v way new_in new_is far;
          end_only = λ j at.
              let r = at_from (set rs k new) v j at in
              elim (in_set r.0 r.1) [ inl same ↦ sym r.3 ∙ ap (λ s. s.distance) (sym same) ∙ far | inr other ↦ absurd (other.1 r.2) ];
          at_in = λ w j ne at.
              let r = at_from rs w j at in
              elim (of_set r.0 r.1) [ inl same ↦ absurd (ne (sym r.2 ∙ same)) | inr there ↦ at_to (set rs k new) r.0 w j there r.2 r.3 ];
          at_out = λ w j ne at.
              let r = at_from (set rs k new) w j at in
              elim (in_set r.0 r.1) [
                | inl same ↦ absurd (ne (sym r.2 ∙ ap (λ s. s.vertex) (sym same) ∙ new_is))
                | inr other ↦ at_to rs r.0 w j other.0 r.2 r.3
              ];
          starts_in = λ w x ne has.
              let s = starts_from rs _ has in
              elim (of_set s.0 s.1) [ inl same ↦ absurd (ne (sym s.2 ∙ same)) | inr there ↦ start_to (set rs k new) s.0 w x there s.2 s.3 ];
          starts_out = λ w x ne has.
              let s = starts_from (set rs k new) _ has in
              elim (in_set s.0 s.1) [
                | inl same ↦ absurd (ne (sym s.2 ∙ ap (λ r. r.vertex) (sym same) ∙ new_is))
                | inr other ↦ start_to rs s.0 w x other.0 s.2 s.3
              ];
          none = λ x has.
              let s = starts_from (set rs k new) _ has in
              elim (in_set s.0 s.1) [
                | inl same ↦ absurd (
                    let in_new : Contains new.starts.items x = rw same s.3 in
                    let in_none : Contains [] x = rw empty at in_new in
                    let low = in_none.1 in omega arith)
                | inr other ↦ absurd (other.1 s.2)
              ];
        }

module _ (e : Edge) (d : ℕ) (old new : List Reached) (at : IsAt old e.from d) where
  -- its end was not reached
  pub improves_new : (place : ℕ → Option ℕ) → ArePlaces place old → place (vertex_code e.to) ≡ None → ((k : ℕ) → IsAt old e.to k → ⊥)
      → settled_of new ≡ settled_of old ++ record { vertex = e.to; distance = d + e.cost } ∷ [] → BringsStarts e (starts_of old) (starts_of new)
      → Improves e d (IsAt old) (IsAt new) (HasStart old) (HasStart new)
  improves_new place are none fresh is b =
      let back : (v : Vertex) (j : ℕ) → IsAt new v j → IsAt old v j ⊎ ((v ≡ e.to) × (j ≡ d + e.cost)) =
      λ v j p.
      let p' : Contains (settled_of old ++ record { vertex = e.to; distance = d + e.cost } ∷ []) (record { vertex = v; distance = j }) = rw is at p in
      elim (Contains-push_cases (settled_of old) _ _ p') [
        | inl o ↦ inl o
        | inr same ↦ inr (ap (λ s. s.vertex) (sym same), ap (λ s. s.distance) (sym same))
      ] in
      record {
        from = at;
        farther = λ j p. absurd (fresh j p);
        end = rw is (Contains-push (settled_of old) _);
        end_only = λ j p. elim (back e.to j p) [ inl o ↦ absurd (fresh j o) | inr same ↦ same.1 ];
        at_in = λ v j ne p. rw is (Contains-append_left (settled_of old) _ _ p);
        at_out = λ v j ne p. elim (back v j p) [ inl o ↦ o | inr same ↦ absurd (ne same.0) ];
        starts_in = λ v x ne has. b.kept _ has;
        starts_out = λ v x ne has. elim (b.only _ has) [ inl o ↦ o | inr more ↦ absurd (ne more.0) ];
        kept = λ x p has. absurd (fresh _ p);
        brought = λ x has. b.brought x has;
        only = λ x has. elim (b.only _ has) [
          | inl o ↦ absurd (no_start place old are e.to x none o)
          | inr more ↦ inr (more.1, more.2, more.3)
        ];
      }

  -- it was reached farther away
  pub improves_nearer : (mid : List Reached) → ((j : ℕ) → IsAt old e.to j → d + e.cost < j)
      → IsResetAt e.to (d + e.cost) (IsAt old) (IsAt mid) (HasStart old) (HasStart mid)
      → settled_of new ≡ settled_of mid → BringsStarts e (starts_of mid) (starts_of new)
      → Improves e d (IsAt old) (IsAt new) (HasStart old) (HasStart new)
  improves_nearer mid farther r is b =
      let away : e.from ≢ e.to = λ same. (let lt = farther d (subst (λ v. IsAt old v d) same at) in omega arith) in
      record {
        from = at;
        farther = λ j p. let lt = farther j p in omega arith;
        end = rw is r.end;
        end_only = λ j p. r.end_only j (rw is at p);
        at_in = λ v j ne p. rw is (r.at_in v j ne p);
        at_out = λ v j ne p. r.at_out v j ne (rw is at p);
        starts_in = λ v x ne has. b.kept _ (r.starts_in v x ne has);
        starts_out = λ v x ne has. elim (b.only _ has) [ inl o ↦ r.starts_out v x ne o | inr more ↦ absurd (ne more.0) ];
        kept = λ x p has. absurd (let lt = farther _ p in omega arith);
        brought = λ x has. b.brought x (r.starts_in e.from x away has);
        only = λ x has. elim (b.only _ has) [
          | inl o ↦ absurd (r.none x o)
          | inr more ↦ inr (more.1, r.starts_out e.from more.1 away more.2, more.3)
        ];
      }

  -- it was reached as near
  pub improves_level : (place : ℕ → Option ℕ) → ArePlaces place old → IsAt old e.to (d + e.cost)
      → settled_of new ≡ settled_of old → BringsStarts e (starts_of old) (starts_of new)
      → Improves e d (IsAt old) (IsAt new) (HasStart old) (HasStart new)
  improves_level place are level is b =
      record {
        from = at;
        farther = λ j p. let same = at_one place old are e.to j (d + e.cost) p level in omega arith;
        end = rw is level;
        end_only = λ j p. at_one place old are e.to j (d + e.cost) (rw is at p) level;
        at_in = λ v j ne p. rw is p;
        at_out = λ v j ne p. rw is at p;
        starts_in = λ v x ne has. b.kept _ has;
        starts_out = λ v x ne has. elim (b.only _ has) [ inl o ↦ o | inr more ↦ absurd (ne more.0) ];
        kept = λ x p has. b.kept _ has;
        brought = λ x has. b.brought x has;
        only = λ x has. elim (b.only _ has) [ inl o ↦ inl (level, o) | inr more ↦ inr (more.1, more.2, more.3) ];
      }

-- an edge that owes nothing is not put among those that wait
pub offers_none : (edge : Edge) (At : Vertex → ℕ → Type 0) (Starts : Vertex → Start → Type 0) (list : List SpfCandidate)
    → ((d : ℕ) → At edge.from d → IsRelaxed At Starts edge d) → Offers (edge ∷ []) At Starts list list
offers_none edge At Starts list relaxed =
    record {
      kept = λ e h. h;
      only = λ e h. inl h;
      owed = λ e d m at. elim (member_cases edge [] e m) [
        | inl same ↦ inr (subst (λ f. IsRelaxed At Starts f d) same (relaxed d (subst (λ f. At f.from d) (sym same) at)))
        | inr later ↦ absurd (let low = later.1 in omega arith)
      ];
    }

pub offers_one : (c : SpfCandidate) (At : Vertex → ℕ → Type 0) (Starts : Vertex → Start → Type 0) (old new : List SpfCandidate)
    → IsPermutation (c ∷ old) new → Offers (c.edge ∷ []) At Starts old new
offers_one c At Starts old new perm =
    let there : HasEdge new c.edge = (c.distance, Contains-permutation (c ∷ old) new c perm (member_head c old)) in
    record {
      kept = λ e h. (h.0, Contains-permutation (c ∷ old) new _ perm (member_later c old _ h.1));
      only = λ e h. elim (member_cases c old _ (Contains-permutation new (c ∷ old) _ (IsPermutation-sym _ _ perm) h.1)) [
        | inl same ↦ inr (subst (λ f. Contains (c.edge ∷ []) f) (ap (λ x. x.edge) same) (member_head c.edge []))
        | inr later ↦ inl (h.0, later)
      ];
      owed = λ e d m at. elim (member_cases c.edge [] e m) [
        | inl same ↦ inl (subst (λ f. HasEdge new f) same there)
        | inr later ↦ absurd (let low = later.1 in omega arith)
      ];
    }

offers_then : (a b : List Edge) (At : Vertex → ℕ → Type 0) (Starts : Vertex → Start → Type 0) (old mid new : List SpfCandidate)
    → Offers a At Starts old mid → Offers b At Starts mid new → Offers (a ++ b) At Starts old new
offers_then a b At Starts old mid new x y =
    record {
      kept = λ e h. y.kept e (x.kept e h);
      only = λ e h. elim (y.only e h) [
        | inl before ↦ elim (x.only e before) [ inl o ↦ inl o | inr m ↦ inr (Contains-append_left a b e m) ]
        | inr m ↦ inr (Contains-append_right a b e m)
      ];
      owed = λ e d m at. elim (Contains-append_cases a b e m) [
        | inl first ↦ elim (x.owed e d first at) [ inl w ↦ inl (y.kept e w) | inr r ↦ inr r ]
        | inr last ↦ y.owed e d last at
      ];
    }

pub offers_more : (some : List Edge) (i : ℕ) (x : Edge) (At : Vertex → ℕ → Type 0) (Starts : Vertex → Start → Type 0) (old mid new : List SpfCandidate) → i < length some
    → Offers (take i some) At Starts old mid → Offers (get_or some i x ∷ []) At Starts mid new → Offers (take (i + 1) some) At Starts old new
offers_more some i x At Starts old mid new lt first last =
    rw (take_more some i x lt) (offers_then (take i some) (get_or some i x ∷ []) At Starts old mid new first last)

-- an edge whose starts are all at its end
pub brought_there : (place : ℕ → Option ℕ) (rs : List Reached) → ArePlaces place rs → (edge : Edge) (from to : ℕ) → place (vertex_code edge.from) ≡ Some from
    → place (vertex_code edge.to) ≡ Some to → (first last : Reached) → first ≡ get_or rs from first → last ≡ get_or rs to last
    → All (λ x. Contains last.starts.items (extend x edge.to edge.link_data)) first.starts.items
    → (x : Start) → HasStart rs edge.from x → HasStart rs edge.to (extend x edge.to edge.link_data)
brought_there place rs are edge from to at_first at_last first last first_is last_is all x has =
    let s = starts_from rs _ has in
    let f = are.found (vertex_code edge.from) from at_first in
    let l = are.found (vertex_code edge.to) to at_last in
    let is : first ≡ s.0 = first_is ∙ get_or_default rs from first s.0 f.0 ∙ stands place rs are s.0 edge.from from s.1 s.2 at_first in
    let has' : Contains first.starts.items x = rw is s.3 in
    let at : last.vertex ≡ edge.to = code_injective last.vertex edge.to (ap (λ r. vertex_code r.vertex) last_is ∙ l.1 last) in
    start_to rs last edge.to _ (to, l.0, sym last_is) at (All-contains (λ y. Contains last.starts.items (extend y edge.to edge.link_data)) first.starts.items x all has')

-- a part of a list
pub in_part : {X : Type 0} (xs : List X) (i k : ℕ) (x : X) → Contains (take k (drop i xs)) x → Contains xs x
in_part xs i k x h =
    let later = subst (λ l. Contains l x) (take-append-drop k (drop i xs)) (Contains-append_left (take k (drop i xs)) (drop k (drop i xs)) x h) in
    subst (λ l. Contains l x) (take-append-drop i xs) (Contains-append_right (take i xs) (drop i xs) x later)

-- an edge that is taken, and improves nothing
pub pays_same : (edges : List Edge) (edge : Edge) (rs : List Reached) (list : List SpfCandidate) (d : ℕ) → IsAt rs edge.from d
    → IsRelaxed (IsAt rs) (HasStart rs) edge d → PaysFor edges edge rs rs list list
pays_same edges edge rs list d from relaxed all root before g waits keeps back =
    seen (Contains all) (Contains edges) root (IsAt rs) (HasStart rs) (HasEdge before) (HasEdge list) g edge (g.waiting edge waits) keeps back
    (λ k at. subst (λ n. IsRelaxed (IsAt rs) (HasStart rs) edge n) (g.one edge.from d k from at) relaxed)

-- one that begins nowhere
pub pays_nothing : (edges : List Edge) (edge : Edge) (rs : List Reached) (list : List SpfCandidate) → ((d : ℕ) → IsAt rs edge.from d → ⊥)
    → PaysFor edges edge rs rs list list
pays_nothing edges edge rs list none all root before g waits keeps back =
    seen (Contains all) (Contains edges) root (IsAt rs) (HasStart rs) (HasEdge before) (HasEdge list) g edge (g.waiting edge waits) keeps back (λ k at. absurd (none k at))

-- one that improves its end, from where the edges are offered
pub pays_better : (edges some : List Edge) (edge : Edge) (old new : List Reached) (waited waits : List SpfCandidate) (d : ℕ)
    → Improves edge d (IsAt old) (IsAt new) (HasStart old) (HasStart new) → Offers some (IsAt new) (HasStart new) waited waits
    → ((f : Edge) → Contains some f → Contains edges f) → ((k : ℕ) → candidates_from edge.to k edges ≡ candidates_from edge.to k some)
    → PaysFor edges edge old new waited waits
pays_better edges some edge old new waited waits d better offers part same all root before g has keeps back =
    improved (Contains all) (Contains edges) root (IsAt old) (HasStart old) (HasEdge before) (HasEdge waits) g edge (g.waiting edge has)
    (λ f w. elim (keeps f w) [ inl there ↦ inl (offers.kept f there) | inr is ↦ inr is ])
    (IsAt new) (HasStart new) d better
    (λ f w. elim (offers.only f w) [ inl there ↦ g.waiting f (back f there) | inr more ↦ g.within f (part f more) ])
    (λ f j is here at.
    let there = candidates_from-has edge.to 0 edges f is here in
    let there' : Contains (candidates_from edge.to 0 some) (record { edge = f; distance = 0 + f.cost }) = rw (same 0) at there in
    offers.owed f j (candidates_from-is edge.to 0 some f _ there').0 at)

-- a candidate that was taken out
pub taken_out : (c : SpfCandidate) (old rest : List SpfCandidate) → IsPermutation old (c ∷ rest) → (f : Edge) → HasEdge old f → HasEdge rest f ⊎ (f ≡ c.edge)
taken_out c old rest perm f h =
    elim (member_cases c rest _ (Contains-permutation old (c ∷ rest) _ perm h.1)) [ inl same ↦ inr (sym (ap (λ x. x.edge) same)) | inr later ↦ inl (h.0, later) ]

pub left_in : (c : SpfCandidate) (old rest : List SpfCandidate) → IsPermutation old (c ∷ rest) → (f : Edge) → HasEdge rest f → HasEdge old f
left_in c old rest perm f h = (h.0, Contains-permutation (c ∷ rest) old _ (IsPermutation-sym _ _ perm) (member_later c rest _ h.1))

pub was_in : (c : SpfCandidate) (old rest : List SpfCandidate) → IsPermutation old (c ∷ rest) → HasEdge old c.edge
was_in c old rest perm = (c.distance, Contains-permutation (c ∷ rest) old c (IsPermutation-sym _ _ perm) (member_head c rest))

-- distances stay small
pub near_better : (e : Edge) (d : ℕ) (old new : List Reached) → Improves e d (IsAt old) (IsAt new) (HasStart old) (HasStart new) → AreNear old → d + e.cost < 2 ^ 63
    → AreNear new
near_better e d old new better near small k x within =
    let s = get_or (settled_of new) k x in
    let at : IsAt new s.vertex s.distance = (k, within, get_or_default (settled_of new) k _ x within) in
    elim (same_or_other s.vertex e.to) [
      | inl same ↦ let far = better.end_only s.distance (subst (λ v. IsAt new v s.distance) same at) in omega arith
      | inr other ↦ All-contains (λ y. y.distance < 2 ^ 63) (settled_of old) (record { vertex = s.vertex; distance = s.distance }) near (better.at_out s.vertex s.distance other at)
    ]

nothing_in : (x : SpfCandidate) → Contains [] x → ⊥
nothing_in x h = let low = h.1 in omega arith

pub none_waits : (list : List SpfCandidate) → list ≡ [] → (e : Edge) → HasEdge list e → ⊥
none_waits list none e h = nothing_in (record { edge = e; distance = h.0 }) (subst (λ l. Contains l (record { edge = e; distance = h.0 })) none h.1)

pub spares_same : (changed : List Vertex) (rs : List Reached) → Spares changed rs rs
spares_same changed rs = record { at_in = λ v d no m. m; at_out = λ v d no m. m; starts_in = λ v x no m. m; starts_out = λ v x no m. m }

pub spares_then : (some more : List Vertex) (old mid new : List Reached) → ((v : Vertex) → Contains some v → Contains more v) → Spares some old mid → Spares more mid new
    → Spares more old new
spares_then some more old mid new grows a b =
    record {
      at_in = λ v d no m. b.at_in v d no (a.at_in v d (λ h. no (grows v h)) m);
      at_out = λ v d no m. a.at_out v d (λ h. no (grows v h)) (b.at_out v d no m);
      starts_in = λ v x no m. b.starts_in v x no (a.starts_in v x (λ h. no (grows v h)) m);
      starts_out = λ v x no m. a.starts_out v x (λ h. no (grows v h)) (b.starts_out v x no m);
    }

pub spares_better : (changed : List Vertex) (e : Edge) (d : ℕ) (old new : List Reached) → Improves e d (IsAt old) (IsAt new) (HasStart old) (HasStart new)
    → Spares (changed ++ e.to ∷ []) old new
spares_better changed e d old new i =
    let other : (v : Vertex) → (Contains (changed ++ e.to ∷ []) v → ⊥) → v ≢ e.to = λ v no same. no (rw same (Contains-push changed e.to)) in
    record {
      at_in = λ v j no m. i.at_in v j (other v no) m;
      at_out = λ v j no m. i.at_out v j (other v no) m;
      starts_in = λ v x no m. i.starts_in v x (other v no) m;
      starts_out = λ v x no m. i.starts_out v x (other v no) m;
    }

-- one more
pub settled_push : (rs : List Reached) (r : Reached) → settled_of (rs ++ r ∷ []) ≡ settled_of rs ++ record { vertex = r.vertex; distance = r.distance } ∷ []
settled_push rs r = map-append (λ (s : Reached). record { vertex = s.vertex; distance = s.distance }) rs (r ∷ [])

pub starts_push : (rs : List Reached) (r : Reached) → starts_of (rs ++ r ∷ []) ≡ starts_of rs ++ starts_at r.vertex r.starts.items
starts_push [] r = append-nil (starts_at r.vertex r.starts.items)
starts_push (s ∷ rest) r =
    ap (λ l. starts_at s.vertex s.starts.items ++ l) (starts_push rest r) ∙ sym (append_assoc (starts_at s.vertex s.starts.items) (starts_of rest) (starts_at r.vertex r.starts.items))
