-- Lists in the order of a key, and the run of one key in them.
use Rattle.std.proofs.Common.{◌≡◌, ◌+◌, ◌-◌, ◌<◌, ◌≤◌, ◌⊎◌, ◌↔◌, ℕ, true, false, List, [], length, take, drop, get_or, sym, ◌∙◌, ap, inl, inr, arith, length-drop, ltb, leb, ltb-true, leb-true}
use Rattle.std.specs.List.{Contains}
use Rattle.std.specs.List.Sorted.{IsNonDecreasingBy, IsPartitionPoint}
use Rattle.std.proofs.lemmas.List.{get_or-take, get_or-drop, length-take-le}
use Rattle.ospf_graph.specs.declared.graph.Vertex.{Vertex}
use Rattle.ospf_graph.specs.declared.paths.Settled.{Settled}
use Rattle.ospf_graph.specs.declared.paths.VertexStart.{VertexStart}
use Rattle.ospf_graph.specs.Search.{vertex_code, AtIn}
use Rattle.ospf_graph.specs.Search.{candidates_from}
use Rattle.ospf_graph.specs.declared.graph.Edge.{Edge}
use Rattle.ospf_graph.proofs.CandidateLemmas.{candidates_from-part, candidates_from-none, code_injective}

pub less_or_more : (i j : ℕ) → (i < j) ⊎ (j ≤ i)
less_or_more i j = grind arith

-- the run of the key n is from i to j
pub record IsRun {X : Type 0} (key : X → ℕ) (xs : List X) (n i j : ℕ) : Type 0 where
  pub before : (k : ℕ) (d : X) → k < i → key (get_or xs k d) < n
  pub from : (k : ℕ) (d : X) → i ≤ k → k < length xs → n ≤ key (get_or xs k d)
  pub upto : (k : ℕ) (d : X) → k < j → key (get_or xs k d) ≤ n
  pub after : (k : ℕ) (d : X) → j ≤ k → k < length xs → n < key (get_or xs k d)
  pub within : j ≤ length xs

-- a part of a list
pub part_members : {X : Type 0} (xs : List X) (i j : ℕ) → i ≤ j → j ≤ length xs → (x : X)
    → Contains (take (j - i) (drop i xs)) x ↔ ((k : ℕ) × (i ≤ k) × (k < j) × (get_or xs k x ≡ x))
part_members xs i j le within x =
    let long : j - i ≤ length (drop i xs) = omega (arith, length-drop i xs) in (
      λ m.
          let lt : m.0 < j - i = (let low = m.1 in omega (arith, length-take-le (j - i) (drop i xs) long)) in
          (i + m.0, omega arith, omega arith, sym (get_or-drop i xs m.0 x) ∙ sym (get_or-take (j - i) (drop i xs) m.0 x lt) ∙ m.2),
      λ m.
          let a = m.1 in let b = m.2 in
          let lt : m.0 - i < j - i = omega arith in
          let back : i + (m.0 - i) ≡ m.0 = omega arith in (
            m.0 - i,
            omega (arith, length-take-le (j - i) (drop i xs) long),
            get_or-take (j - i) (drop i xs) (m.0 - i) x lt ∙ get_or-drop i xs (m.0 - i) x ∙ ap (λ k. get_or xs k x) back ∙ m.3,
          ),
    )

module _ {X : Type 0} (key : X → ℕ) (xs : List X) (n i j : ℕ) (run : IsRun key xs n i j) where
  -- all of the key are in the run
  pub in_run : (x : X) → key x ≡ n → Contains xs x → (i ≤ j) × Contains (take (j - i) (drop i xs)) x
  in_run x is m =
      let at : key (get_or xs m.0 x) ≡ n = ap key m.2 ∙ is in
      let low : i ≤ m.0 = elim (less_or_more m.0 i) [ inl lt ↦ absurd (let h = run.before m.0 x lt in omega arith) | inr le ↦ le ] in
      let high : m.0 < j = elim (less_or_more m.0 j) [ inl lt ↦ lt | inr le ↦ absurd (let h = run.after m.0 x le m.1 in omega arith) ] in
      let le : i ≤ j = omega arith in
      (le, (part_members xs i j le run.within x).1 (m.0, low, high, m.2))

  pub of_run : (x : X) → i ≤ j → Contains (take (j - i) (drop i xs)) x → (key x ≡ n) × Contains xs x
  of_run x le m =
      let p = (part_members xs i j le run.within x).0 m in
      let lt : p.0 < length xs = (let a = p.2 in let b = run.within in omega arith) in
      let low : n ≤ key (get_or xs p.0 x) = run.from p.0 x p.1 lt in
      let high : key (get_or xs p.0 x) ≤ n = run.upto p.0 x p.2 in
      let is : key (get_or xs p.0 x) ≡ key x = ap key p.3 in
      (omega arith, (p.0, lt, p.3))

not_less : (a b : ℕ) → ltb a b ≡ false → b ≤ a
not_less a b h = grind arith

pub not_upto : (a b : ℕ) → leb a b ≡ false → b < a
not_upto a b h = grind arith

-- from two searches
pub run_of_points : {X : Type 0} (key : X → ℕ) (xs : List X) (n i j : ℕ) → j ≤ length xs
    → IsPartitionPoint (λ y. ltb (key y) n ≡ true) (λ y. ltb (key y) n ≡ false) xs i
    → IsPartitionPoint (λ y. leb (key y) n ≡ true) (λ y. leb (key y) n ≡ false) xs j → IsRun key xs n i j
run_of_points key xs n i j within p q =
    record {
      before = λ k d lt. ltb-true (key (get_or xs k d)) n (p.0 k d (omega arith) lt);
      from = λ k d le lt. not_less (key (get_or xs k d)) n (p.1 k d le lt);
      upto = λ k d lt. leb-true (key (get_or xs k d)) n (q.0 k d (omega arith) lt);
      after = λ k d le lt. not_upto (key (get_or xs k d)) n (q.1 k d le lt);
      within = within;
    }

-- the starts of a vertex
module _ (starts : List VertexStart) (v : Vertex) (n i j : ℕ) (run : IsRun (λ b. vertex_code b.vertex) starts n i j) (is : n ≡ vertex_code v) where
  pub starts_run : i ≤ j → (b : VertexStart) → Contains (take (j - i) (drop i starts)) b ↔ ((b.vertex ≡ v) × Contains starts b)
  starts_run le b = (
    λ m. let p = of_run (λ b. vertex_code b.vertex) starts n i j run b le m in (code_injective b.vertex v (p.0 ∙ is), p.1),
    λ m. (in_run (λ b. vertex_code b.vertex) starts n i j run b (ap vertex_code m.0 ∙ sym is) m.1).1,
  )

  pub starts_no_run : j < i → (b : VertexStart) → Contains {X = VertexStart} [] b ↔ ((b.vertex ≡ v) × Contains starts b)
  starts_no_run lt b = (
    λ m. absurd (let low = m.1 in omega arith),
    λ m. absurd (let p = in_run (λ b. vertex_code b.vertex) starts n i j run b (ap vertex_code m.0 ∙ sym is) m.1 in let le = p.0 in omega arith),
  )

-- the distance of a vertex stands where its place begins
pub no_distance : (settled : List Settled) (v : Vertex) (n i : ℕ) → IsNonDecreasingBy (λ s. vertex_code s.vertex) settled → n ≡ vertex_code v
    → IsPartitionPoint (λ s. ltb (vertex_code s.vertex) n ≡ true) (λ s. ltb (vertex_code s.vertex) n ≡ false) settled i
    → (i < length settled → (d : Settled) → (get_or settled i d).vertex ≡ v → ⊥) → (d : ℕ) → AtIn settled v d → ⊥
no_distance settled v n i sorted is p other d at =
    let x : Settled = record { vertex = v; distance = d } in
    let here : vertex_code (get_or settled at.0 x).vertex ≡ vertex_code v = ap (λ s. vertex_code s.vertex) at.2 in
    elim (less_or_more at.0 i) [
      | inl lt ↦ (let low = ltb-true (vertex_code (get_or settled at.0 x).vertex) n (p.0 at.0 x (omega arith) lt) in omega arith)
      | inr le ↦
          let within = at.1 in
          let lt : i < length settled = omega arith in
          let up : vertex_code (get_or settled i x).vertex ≤ vertex_code (get_or settled at.0 x).vertex = sorted i at.0 x le within in
          let low : n ≤ vertex_code (get_or settled i x).vertex = not_less (vertex_code (get_or settled i x).vertex) n (p.1 i x (omega arith) lt) in
          other lt x (code_injective (get_or settled i x).vertex v (omega arith))
    ]

-- the edges from a vertex
module _ (edges : List Edge) (v : Vertex) (n i j : ℕ) (run : IsRun (λ e. vertex_code e.from) edges n i j) (is : n ≡ vertex_code v) where
  pub edges_run : i ≤ j → (d : ℕ) → candidates_from v d edges ≡ candidates_from v d (take (j - i) (drop i edges))
  edges_run le d =
      let within = run.within in
      candidates_from-part v d i (j - i) edges
      (λ e m from.
      let lt : m.0 < i = (let low = m.1 in omega (arith, length-take-le i edges (omega arith))) in
      let below : vertex_code (get_or edges m.0 e).from < n = run.before m.0 e lt in
      let at : vertex_code (get_or edges m.0 e).from ≡ vertex_code v = ap (λ x. vertex_code x.from) (sym (get_or-take i edges m.0 e lt) ∙ m.2) ∙ ap vertex_code from in
      absurd (omega arith))
      (λ e m from.
      let there : get_or edges (i + (j - i + m.0)) e ≡ e = sym (get_or-drop i edges (j - i + m.0) e) ∙ sym (get_or-drop (j - i) (drop i edges) m.0 e) ∙ m.2 in
      let lt : i + (j - i + m.0) < length edges = (let low = m.1 in omega (arith, length-drop i edges, length-drop (j - i) (drop i edges))) in
      let above : n < vertex_code (get_or edges (i + (j - i + m.0)) e).from = run.after (i + (j - i + m.0)) e (omega arith) lt in
      let at : vertex_code (get_or edges (i + (j - i + m.0)) e).from ≡ vertex_code v = ap (λ x. vertex_code x.from) there ∙ ap vertex_code from in
      absurd (omega arith))

  pub edges_only : i ≤ j → (e : Edge) → Contains (take (j - i) (drop i edges)) e → e.from ≡ v
  edges_only le e m = code_injective e.from v ((of_run (λ e. vertex_code e.from) edges n i j run e le m).0 ∙ is)

  pub edges_no_run : j < i → (d : ℕ) → candidates_from v d edges ≡ []
  edges_no_run lt d =
      candidates_from-none v d edges
      (λ e m from. let p = in_run (λ e. vertex_code e.from) edges n i j run e (ap vertex_code from ∙ sym is) m in let le = p.0 in absurd (omega arith))
