-- What leaves what is found, and which edges wait then.
use Rattle.std.proofs.Common.{◌≡◌, ◌+◌, ◌-◌, ◌<◌, ◌≤◌, ◌⊎◌, ℕ, Option, Some, None, nat_eq, Bool, true, false, cond, List, [], ◌∷◌, ◌++◌, length, take, get_or, sym, ◌∙◌, ap, subst, inl, inr, arith, ltb, ltb-true, Decides}
use Rattle.std.specs.List.{All, Contains, IsAnyAnswer}
use Rattle.std.specs.List.Sorted.{IsPartitionPoint, IsPermutation}
use Rattle.std.proofs.lemmas.Bool.{cases_eq}
use Rattle.std.proofs.lemmas.List.{get_or_default, get_or-take, length-take, take_more}
use Rattle.std.proofs.lemmas.List.Sorted.{Contains-permutation, IsNonDecreasingBy-push, IsPermutation-sym}
use Rattle.std.proofs.lemmas.List.Elements.{contains_decides, Decides-contains, All-contains, All-push, Contains-append_left, Contains-append_right, Contains-append_cases, Contains-push, Contains-push_cases}
use Rattle.ospf_graph.specs.declared.candidates.SpfCandidate.{SpfCandidate}
use Rattle.ospf_graph.proofs.SameEdges.{edges_decide}
use Rattle.ospf_graph.specs.contracts.graph.EdgePartialEq.TheImpl.{eq-value}
use Rattle.ospf_graph.specs.declared.graph.Edge.{Edge}
use Rattle.ospf_graph.specs.declared.graph.Start.{Start}
use Rattle.ospf_graph.specs.declared.graph.Vertex.{Vertex}
use Rattle.ospf_graph.specs.declared.reached.Reached.{Reached}
use Rattle.ospf_spf.specs.declared.incremental.grow.FoundPaths.{FoundPaths}
use Rattle.ospf_spf.specs.IncrementalSpf.Growth.{HasStart, IsAt, Offers}
use Rattle.ospf_graph.specs.Reached.{ArePlaces}
use Rattle.ospf_graph.specs.Search.{AreEdgesInOrder, HaveSameFrom, candidates_from, vertex_code}
use Rattle.ospf_spf.specs.IncrementalSpf.Shrinking.{AreVerticesInOrder, LeadsTo, Leaves, OpensEdges, TakesEdges}
use Rattle.ospf_spf.proofs.IncrementalSpf.GrowthSteps.{at_from, at_to, no_start, start_to}
use Rattle.ospf_graph.proofs.CandidateLemmas.{candidates_from-has, candidates_from-is, code_injective, same_or_other}
use Rattle.ospf_graph.proofs.ListLemmas.{bool_cases, member_cases, member_head, member_later, more_members}
use Rattle.ospf_graph.proofs.ReachedLemmas.{none_some, place_at, some_same, starts_from}

pub gone_or_not : (gone : List Vertex) (v : Vertex) → Contains gone v ⊎ (Contains gone v → ⊥)
gone_or_not [] v = inr (λ m. (let low = m.1 in omega arith))
gone_or_not (w ∷ rest) v =
    elim (same_or_other w v) [
      | inl same ↦ inl (subst (λ x. Contains (w ∷ rest) x) same (member_head w rest))
      | inr other ↦ elim (gone_or_not rest v) [
        | inl there ↦ inl (member_later w rest v there)
        | inr free ↦ inr (λ m. elim (member_cases w rest v m) [ inl same ↦ other same | inr later ↦ free later ])
      ]
    ]

-- what `contains` says of edges
pub edge_in : (edges : List Edge) (edge : Edge) (r : Bool) → IsAnyAnswer (λ y t. eq-value.it y edge ≡ t) edges r → Decides r (Contains edges edge)
edge_in edges edge r is = Decides-contains edges edge r (contains_decides eq-value.it edges_decide edges edge r is)

pub true_or_false : (b : Bool) → (b ≡ true) ⊎ (b ≡ false)
true_or_false b = bool_cases b

pub false_true : (b : Bool) → b ≡ false → b ≡ true → ⊥
false_true b f t = (let both : false ≡ true = sym f ∙ t in cc)

pub not_equal : (a b : ℕ) → nat_eq a b ≡ false → a ≡ b → ⊥
not_equal a b differs same = grind arith

pub all_more : {X : Type 0} (P : X → Type 0) (xs : List X) (i : ℕ) (x : X) → i < length xs → All P (take i xs) → P (get_or xs i x) → All P (take (i + 1) xs)
all_more P xs i x lt first last = rw (take_more xs i x lt) (All-push P (take i xs) (get_or xs i x) first last)

less_or_more : (i j : ℕ) → (i < j) ⊎ (j ≤ i)
less_or_more i j = grind arith

nat_cases : (a b : ℕ) → (a ≡ b) ⊎ (a ≡ b → ⊥)
nat_cases a b = cases_eq a b

below_last : (j n : ℕ) → j < n → (j ≡ n - 1 → ⊥) → j + 1 < n
below_last j n lt apart = elim (less_or_more (j + 1) n) [ inl less ↦ less | inr past ↦ absurd (apart (omega arith)) ]

pub is_equal : (a b : ℕ) → nat_eq a b ≡ true → a ≡ b
is_equal a b same = grind arith

pub is_itself : (a : ℕ) → nat_eq a a ≡ true
is_itself a = grind arith

-- a map that has another value at one key
module _ (old new : ℕ → Option ℕ) (a : ℕ) (w : Option ℕ) (updates : (q : ℕ) → new q ≡ cond (nat_eq a q) w (old q)) where
  pub at_key : new a ≡ w
  at_key = updates a ∙ ap (λ b. cond b w (old a)) (is_itself a)

  pub at_other : (q : ℕ) → (q ≡ a → ⊥) → new q ≡ old q
  at_other q ne =
      elim (bool_cases (nat_eq a q)) [
        | inl same ↦ absurd (ne (sym (is_equal a q same)))
        | inr apart ↦ updates q ∙ ap (λ b. cond b w (old q)) apart
      ]

-- the one that takes the place is another one
pub moved_other : (place : ℕ → Option ℕ) (rs rs' : List Reached) → ArePlaces place rs → (v : Vertex) (k : ℕ) → place (vertex_code v) ≡ Some k → (out : Reached)
    → length rs' + 1 ≡ length rs → ((d : Reached) → k + 1 < length rs → get_or rs' k d ≡ get_or rs (length rs - 1) d) → k < length rs'
    → vertex_code (get_or rs' k out).vertex ≡ vertex_code v → ⊥
moved_other place rs rs' are v k at out long moved within same =
    let is : get_or rs' k out ≡ get_or rs (length rs - 1) out = moved out (omega arith) in
    let end : place (vertex_code v) ≡ Some (length rs - 1) = ap place (sym same ∙ ap (λ r. vertex_code r.vertex) is) ∙ are.known (length rs - 1) out (omega arith) in
    let both = some_same (place (vertex_code v)) k (length rs - 1) at end in omega arith

only_one : (v w : Vertex) → v ≡ w → Contains (v ∷ []) w
only_one v w same = subst (λ x. Contains (v ∷ []) x) same (member_head v [])

is_one : (v w : Vertex) → Contains (v ∷ []) w → v ≡ w
is_one v w m = elim (member_cases v [] w m) [ inl same ↦ same | inr none ↦ absurd (let low = none.1 in omega arith) ]

not_less : (a b : ℕ) → ltb a b ≡ false → b ≤ a
not_less a b h = grind arith

-- a vertex of a list in order stands where its place begins
pub not_among : (vertices : List Vertex) (v : Vertex) (n i : ℕ) → AreVerticesInOrder vertices → n ≡ vertex_code v
    → IsPartitionPoint (λ w. ltb (vertex_code w) n ≡ true) (λ w. ltb (vertex_code w) n ≡ false) vertices i
    → (i < length vertices → get_or vertices i v ≡ v → ⊥) → Contains vertices v → ⊥
not_among vertices v n i sorted is p other m =
    let here : vertex_code (get_or vertices m.0 v) ≡ vertex_code v = ap vertex_code m.2 in
    elim (less_or_more m.0 i) [
      | inl lt ↦ (let low = ltb-true (vertex_code (get_or vertices m.0 v)) n (p.0 m.0 v (omega arith) lt) in omega arith)
      | inr le ↦
          let within = m.1 in
          let lt : i < length vertices = omega arith in
          let up : vertex_code (get_or vertices i v) ≤ vertex_code (get_or vertices m.0 v) = sorted i m.0 v le within in
          let low : n ≤ vertex_code (get_or vertices i v) = not_less (vertex_code (get_or vertices i v)) n (p.1 i v (omega arith) lt) in
          other lt (code_injective (get_or vertices i v) v (omega arith))
    ]

-- the vertex v stood at the place k, and the last one has taken its place
module _ (place place' : ℕ → Option ℕ) (rs rs' : List Reached) (are : ArePlaces place rs) (v : Vertex) (k : ℕ) (at : place (vertex_code v) ≡ Some k) (out : Reached)
    (long : length rs' + 1 ≡ length rs) (moved : (d : Reached) → k + 1 < length rs → get_or rs' k d ≡ get_or rs (length rs - 1) d)
    (stay : (j : ℕ) (d : Reached) → (j ≡ k → ⊥) → j + 1 < length rs → get_or rs' j d ≡ get_or rs j d)
    (none : place' (vertex_code v) ≡ None)
    (others : (q : ℕ) → (q ≡ vertex_code v → ⊥) → (k < length rs' → q ≡ vertex_code (get_or rs' k out).vertex → ⊥) → place' q ≡ place q)
    (here : k < length rs' → place' (vertex_code (get_or rs' k out).vertex) ≡ Some k) where
  k_within : k < length rs
  k_within = (are.found (vertex_code v) k at).0

  at_k : (d : Reached) → vertex_code (get_or rs k d).vertex ≡ vertex_code v
  at_k d = (are.found (vertex_code v) k at).1 d

  -- the one that stood last
  last_is : (d : Reached) → k < length rs' → get_or rs' k d ≡ get_or rs (length rs - 1) d
  last_is d lt = moved d (omega arith)

  other_out : (j : ℕ) (d : Reached) → (j ≡ k → ⊥) → j + 1 < length rs → (q : ℕ) → q ≡ vertex_code (get_or rs j d).vertex → place' q ≡ Some j
  other_out j d ne lt q is =
      let known : place q ≡ Some j = ap place is ∙ are.known j d (omega arith) in
      others q
      (λ same. ne (some_same (place q) j k known (ap place same ∙ at)))
      (λ within same.
      let end : place q ≡ Some (length rs - 1) = ap place (same ∙ ap (λ r. vertex_code r.vertex) (last_is out within)) ∙ are.known (length rs - 1) out (omega arith) in
      let both = some_same (place q) j (length rs - 1) known end in omega arith)
      ∙ known

  found_out : (q j : ℕ) → place' q ≡ Some j → (j < length rs') × ((d : Reached) → vertex_code (get_or rs' j d).vertex ≡ q)
  found_out q j some =
      elim (nat_cases q (vertex_code v)) [
        | inl same ↦ absurd (none_some (place' q) j (ap place' same ∙ none) some)
        | inr other ↦ elim (less_or_more k (length rs')) [
          | inl within ↦ elim (nat_cases q (vertex_code (get_or rs' k out).vertex)) [
            | inl is ↦
                let j_is : k ≡ j = some_same (place' q) k j (ap place' is ∙ here within) some in (
                  subst (λ n. n < length rs') j_is within,
                  λ d. subst (λ n. vertex_code (get_or rs' n d).vertex ≡ q) j_is (ap (λ r. vertex_code r.vertex) (get_or_default rs' k d out within) ∙ sym is),
                )
            | inr apart ↦
                let old : place q ≡ Some j = sym (others q other (λ _ same. apart same)) ∙ some in
                let f = are.found q j old in
                let ne : j ≡ k → ⊥ = λ same. other (sym (f.1 out) ∙ ap (λ n. vertex_code (get_or rs n out).vertex) same ∙ at_k out) in
                let end : j ≡ length rs - 1 → ⊥ = λ same. apart (sym (f.1 out) ∙ ap (λ n. vertex_code (get_or rs n out).vertex) same ∙ ap (λ r. vertex_code r.vertex) (sym (last_is out within))) in
                let low : j < length rs = f.0 in
                let lt : j + 1 < length rs = below_last j (length rs) low end in
                (omega arith, λ d. ap (λ r. vertex_code r.vertex) (stay j d ne lt) ∙ f.1 d)
          ]
          | inr past ↦
              let old : place q ≡ Some j = sym (others q other (λ within _. (omega arith))) ∙ some in
              let f = are.found q j old in
              let ne : j ≡ k → ⊥ = λ same. other (sym (f.1 out) ∙ ap (λ n. vertex_code (get_or rs n out).vertex) same ∙ at_k out) in
              let low : j < length rs = f.0 in
              let k_low : k < length rs = k_within in
              let end : j ≡ length rs - 1 → ⊥ = λ same. ne (omega arith) in
              let lt : j + 1 < length rs = below_last j (length rs) low end in
              (omega arith, λ d. ap (λ r. vertex_code r.vertex) (stay j d ne lt) ∙ f.1 d)
        ]
      ]

  -- each other one has its place
  pub places_out : ArePlaces place' rs'
  places_out =
      record {
        found = found_out;
        known = λ j d lt. elim (nat_cases j k) [
          | inl same ↦
              let within : k < length rs' = subst (λ n. n < length rs') same lt in
              subst (λ n. place' (vertex_code (get_or rs' n d).vertex) ≡ Some n) (sym same) (ap (λ r. place' (vertex_code r.vertex)) (get_or_default rs' k d out within) ∙ here within)
          | inr ne ↦ other_out j d ne (omega arith) _ (ap (λ r. vertex_code r.vertex) (stay j d ne (omega arith)))
        ];
      }

  out_from : (r : Reached) → Contains rs' r → Contains rs r × (r.vertex ≡ v → ⊥)
  out_from r m =
      let low = m.1 in (
        elim (nat_cases m.0 k) [
          | inl same ↦
              let within : k < length rs' = subst (λ n. n < length rs') same low in
              (length rs - 1, omega arith, sym (last_is r within) ∙ ap (λ n. get_or rs' n r) (sym same) ∙ m.2)
          | inr ne ↦ (m.0, omega arith, sym (stay m.0 r ne (omega arith)) ∙ m.2)
        ],
        λ is. none_some (place' (vertex_code v)) m.0 none (ap (λ w. place' (vertex_code w)) (sym is ∙ ap (λ s. s.vertex) (sym m.2)) ∙ places_out.known m.0 r low),
      )

  out_to : (r : Reached) → Contains rs r → (r.vertex ≡ v → ⊥) → Contains rs' r
  out_to r m other =
      let low = m.1 in
      let ne : m.0 ≡ k → ⊥ = λ same. other (code_injective r.vertex v (ap (λ s. vertex_code s.vertex) (sym m.2) ∙ ap (λ n. vertex_code (get_or rs n r).vertex) same ∙ at_k r)) in
      let k_low : k < length rs = k_within in
      elim (nat_cases m.0 (length rs - 1)) [
        | inl same ↦
            let within : k < length rs' = (let apart : k ≡ length rs - 1 → ⊥ = λ is. ne (same ∙ sym is) in let lt = below_last k (length rs) k_low apart in omega arith) in
            (k, within, last_is r within ∙ ap (λ n. get_or rs n r) (sym same) ∙ m.2)
        | inr apart ↦ (let lt = below_last m.0 (length rs) low apart in (m.0, omega arith, stay m.0 r ne lt ∙ m.2))
      ]

  pub leaves_out : Leaves (Contains (v ∷ [])) (IsAt rs) (IsAt rs') (HasStart rs) (HasStart rs')
  leaves_out =
      record {
        at_in = λ w d free at'. let r = at_from rs w d at' in at_to rs' r.0 w d (out_to r.0 r.1 (λ is. free (only_one v w (sym is ∙ r.2)))) r.2 r.3;
        at_out = λ w d at'.
            let r = at_from rs' w d at' in
            let f = out_from r.0 r.1 in
            (λ m. f.1 (r.2 ∙ sym (is_one v w m)), at_to rs r.0 w d f.0 r.2 r.3);
        starts_in = λ w x free has. let s = starts_from rs _ has in start_to rs' s.0 w x (out_to s.0 s.1 (λ is. free (only_one v w (sym is ∙ s.2)))) s.2 s.3;
        starts_out = λ w x has.
            let s = starts_from rs' _ has in
            let f = out_from s.0 s.1 in
            (λ m. f.1 (s.2 ∙ sym (is_one v w m)), start_to rs s.0 w x f.0 s.2 s.3);
      }

-- one that has no place does not leave
pub leaves_none : (place : ℕ → Option ℕ) (rs : List Reached) → ArePlaces place rs → (v : Vertex) → place (vertex_code v) ≡ None
    → Leaves (Contains (v ∷ [])) (IsAt rs) (IsAt rs) (HasStart rs) (HasStart rs)
leaves_none place rs are v none =
    record {
      at_in = λ w d free at. at;
      at_out = λ w d at. (
        λ m. (let r = at_from rs w d at in let p = place_at place rs are r.0 r.1 in
            none_some (place (vertex_code v)) p.0 none (ap (λ u. place (vertex_code u)) (is_one v w m ∙ sym r.2) ∙ p.2)),
        at,
      );
      starts_in = λ w x free has. has;
      starts_out = λ w x has. (λ m. no_start place rs are v x none (subst (λ u. HasStart rs u x) (sym (is_one v w m)) has), has);
    }

module _ (At At' At'' : Vertex → ℕ → Type 0) (Starts Starts' Starts'' : Vertex → Start → Type 0) (gone : List Vertex) where
  -- one more leaves
  pub leaves_more : (i : ℕ) (x : Vertex) → i < length gone → Leaves (Contains (take i gone)) At At' Starts Starts' → Leaves (Contains (get_or gone i x ∷ [])) At' At'' Starts' Starts''
      → Leaves (Contains (take (i + 1) gone)) At At'' Starts Starts''
  leaves_more i x lt first last =
      let before : (v : Vertex) → (Contains (take (i + 1) gone) v → ⊥) → Contains (take i gone) v → ⊥ = λ v free m. free ((more_members gone i x lt v).1 (inl m)) in
      let same : (v : Vertex) → (Contains (take (i + 1) gone) v → ⊥) → Contains (get_or gone i x ∷ []) v → ⊥ =
      λ v free m. free ((more_members gone i x lt v).1 (inr (is_one (get_or gone i x) v m))) in
      let neither : (v : Vertex) → (Contains (take i gone) v → ⊥) → (Contains (get_or gone i x ∷ []) v → ⊥) → Contains (take (i + 1) gone) v → ⊥ =
      λ v a b m. elim ((more_members gone i x lt v).0 m) [ inl there ↦ a there | inr is ↦ b (only_one (get_or gone i x) v is) ] in
      record {
        at_in = λ v d free at. last.at_in v d (same v free) (first.at_in v d (before v free) at);
        at_out = λ v d at.
            let b = last.at_out v d at in
            let a = first.at_out v d b.1 in
            (neither v a.0 b.0, a.1);
        starts_in = λ v s free has. last.starts_in v s (same v free) (first.starts_in v s (before v free) has);
        starts_out = λ v s has.
            let b = last.starts_out v s has in
            let a = first.starts_out v s b.1 in
            (neither v a.0 b.0, a.1);
      }

-- of one vertex more each edge leads on
pub lead_more : (gone : List Vertex) (f : FoundPaths) (edges some : List Edge) (i : ℕ) (x : Vertex) → i < length gone
    → ((e : Edge) → Contains edges e → Contains (take i gone) e.from → LeadsTo gone f e) → HaveSameFrom (get_or gone i x) edges some → All (LeadsTo gone f) some
    → (e : Edge) → Contains edges e → Contains (take (i + 1) gone) e.from → LeadsTo gone f e
lead_more gone f edges some i x lt first same all e m from =
    elim ((more_members gone i x lt e.from).0 from) [
      | inl before ↦ first e m before
      | inr is ↦
          let v = get_or gone i x in
          let there : Contains (candidates_from v 0 edges) (record { edge = e; distance = 0 + e.cost }) = candidates_from-has v 0 edges e m (sym is) in
          let there' : Contains (candidates_from v 0 some) (record { edge = e; distance = 0 + e.cost }) = rw (same 0) at there in
          All-contains (LeadsTo gone f) some e all (candidates_from-is v 0 some e _ there').0
    ]

-- an edge more, that goes or stays
module _ (less edges : List Edge) (i : ℕ) (x : Edge) (lt : i < length edges) (left : List Edge) (takes : TakesEdges less (take i edges) left) where
  pub takes_gone : Contains less (get_or edges i x) → TakesEdges less (take (i + 1) edges) left
  takes_gone gone e = (
    λ m. let t = (takes e).0 m in ((more_members edges i x lt e).1 (inl t.0), t.1),
    λ m. elim ((more_members edges i x lt e).0 m.0) [
      | inl before ↦ (takes e).1 (before, m.1)
      | inr same ↦ absurd (m.1 (subst (λ f. Contains less f) same gone))
    ],
  )

  pub takes_more : (Contains less (get_or edges i x) → ⊥) → TakesEdges less (take (i + 1) edges) (left ++ get_or edges i x ∷ [])
  takes_more stays e = (
    λ m. elim (Contains-push_cases left (get_or edges i x) e m) [
      | inl old ↦ (let t = (takes e).0 old in ((more_members edges i x lt e).1 (inl t.0), t.1))
      | inr same ↦ ((more_members edges i x lt e).1 (inr same), subst (λ f. Contains less f → ⊥) same stays)
    ],
    λ m. elim ((more_members edges i x lt e).0 m.0) [
      | inl before ↦ Contains-append_left left (get_or edges i x ∷ []) e ((takes e).1 (before, m.1))
      | inr same ↦ subst (λ f. Contains (left ++ get_or edges i x ∷ []) f) same (Contains-push left (get_or edges i x))
    ],
  )

  pub takes_in_order : AreEdgesInOrder edges → AreEdgesInOrder left → AreEdgesInOrder (left ++ get_or edges i x ∷ [])
  takes_in_order order are =
      IsNonDecreasingBy-push (λ e. vertex_code e.from) left (get_or edges i x) are (λ d some.
      let last = get_or left (length left - 1) d in
      let m = ((takes last).0 (length left - 1, omega arith, get_or_default left (length left - 1) last d (omega arith))).0 in
      let low : m.0 < i = (let short = length-take i edges in let within = m.1 in omega arith) in
      let at : get_or edges m.0 last ≡ last = sym (get_or-take i edges m.0 last low) ∙ m.2 in
      let le : vertex_code (get_or edges m.0 x).from ≤ vertex_code (get_or edges i x).from = order m.0 i x (omega arith) lt in
      subst (λ e. vertex_code e.from ≤ vertex_code (get_or edges i x).from) (get_or_default edges m.0 x last (omega arith) ∙ at) le)

-- edges that end at what is gone
module _ (gone : List Vertex) (At : Vertex → ℕ → Type 0) where
  pub opens_offered : (Starts : Vertex → Start → Type 0) (some : List Edge) (old new : List SpfCandidate) → Offers some At Starts old new → OpensEdges gone some At old new
  opens_offered Starts some old new o =
      record {
        kept = o.kept;
        only = o.only;
        waits = λ e d m at to none. elim (o.owed e d m at) [
          | inl there ↦ there
          | inr r ↦ elim r [ inl near ↦ absurd (none near.0 near.2) | inr level ↦ absurd (none _ level.0) ]
        ];
      }

  pub opens_none : (edge : Edge) (list : List SpfCandidate) → (Contains gone edge.to → ⊥) → OpensEdges gone (edge ∷ []) At list list
  opens_none edge list other =
      record {
        kept = λ e h. h;
        only = λ e h. inl h;
        waits = λ e d m at to none. elim (member_cases edge [] e m) [
          | inl same ↦ absurd (other (subst (λ f. Contains gone f.to) (sym same) to))
          | inr later ↦ absurd (let low = later.1 in omega arith)
        ];
      }

  opens_then : (a b : List Edge) (old mid new : List SpfCandidate) → OpensEdges gone a At old mid → OpensEdges gone b At mid new → OpensEdges gone (a ++ b) At old new
  opens_then a b old mid new x y =
      record {
        kept = λ e h. y.kept e (x.kept e h);
        only = λ e h. elim (y.only e h) [
          | inl before ↦ elim (x.only e before) [ inl o ↦ inl o | inr m ↦ inr (Contains-append_left a b e m) ]
          | inr m ↦ inr (Contains-append_right a b e m)
        ];
        waits = λ e d m at to none. elim (Contains-append_cases a b e m) [
          | inl first ↦ y.kept e (x.waits e d first at to none)
          | inr last ↦ y.waits e d last at to none
        ];
      }

  pub opens_more : (some : List Edge) (i : ℕ) (x : Edge) (old mid new : List SpfCandidate) → i < length some
      → OpensEdges gone (take i some) At old mid → OpensEdges gone (get_or some i x ∷ []) At mid new → OpensEdges gone (take (i + 1) some) At old new
  opens_more some i x old mid new lt first last = rw (take_more some i x lt) (opens_then (take i some) (get_or some i x ∷ []) old mid new first last)

-- of the edges in order all are found that leave a vertex
pub from_all : (v : Vertex) (edges some : List Edge) → HaveSameFrom v edges some → (e : Edge) → Contains edges e → e.from ≡ v → Contains some e
from_all v edges some same e m at =
    (candidates_from-is v 0 some e (0 + e.cost)
    (subst (λ (cs : List SpfCandidate). Contains cs (record { edge = e; distance = 0 + e.cost })) (same 0) (candidates_from-has v 0 edges e m at))).0

-- which order they are in that go does not matter
pub takes_sorted : (less sorted old new : List Edge) → IsPermutation less sorted → TakesEdges sorted old new → TakesEdges less old new
takes_sorted less sorted old new moved takes e = (
  λ m. let t = (takes e).0 m in (t.0, λ h. t.1 (Contains-permutation less sorted e moved h)),
  λ t. (takes e).1 (t.0, λ h. t.1 (Contains-permutation sorted less e (IsPermutation-sym less sorted moved) h)),
)
