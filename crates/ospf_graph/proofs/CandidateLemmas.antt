-- The candidates that a vertex brings.
use Rattle.std.proofs.Common.{◌≡◌, ◌+◌, ◌<◌, ◌≤◌, ◌⊎◌, ℕ, zero, true, false, eqb, Option, Some, List, [], ◌∷◌, ◌++◌, length, take, drop, get_or, refl, sym, ◌∙◌, ap, subst, inl, inr, arith, append-nil, length-append, eqb-true, eq-eqb, ◌≢◌}
use Rattle.std.specs.List.{Contains}
use Rattle.std.proofs.lemmas.List.{get_or_default, take_more, take-append-drop}
use Rattle.std.specs.List.Sorted.{IsPermutation}
use Rattle.std.proofs.lemmas.List.Sorted.{IsPermutation-sym, Contains-permutation, length_permutation}
use Rattle.std.proofs.lemmas.List.Elements.{Contains-append_left, Contains-append_right, Contains-append_cases}
use Rattle.ospf_graph.specs.declared.graph.Edge.{Edge}
use Rattle.ospf_graph.specs.declared.graph.Vertex.{Vertex}
use Rattle.ospf_graph.specs.declared.graph.Vertex.TheVariants.{Router, Network}
use Rattle.ospf_graph.specs.declared.candidates.SpfCandidate.{SpfCandidate}
use Rattle.ospf_graph.specs.Search.{candidates_from, vertex_code, vertex_eq, IsUndercut, Joins}
use Rattle.ospf_graph.proofs.ListLemmas.{bool_cases, member_cases, member_later, member_head}

candidates_from-append : (v : Vertex) (d : ℕ) (xs ys : List Edge) → candidates_from v d (xs ++ ys) ≡ candidates_from v d xs ++ candidates_from v d ys
candidates_from-append v d [] ys = refl
candidates_from-append v d (e ∷ rest) ys =
    elim (bool_cases (vertex_eq e.from v)) [
      | inl t ↦ rw t (ap (λ r. record { edge = e; distance = d + e.cost } ∷ r) (candidates_from-append v d rest ys))
      | inr f ↦ rw f (candidates_from-append v d rest ys)
    ]

-- one edge more
candidates_from-more : (v : Vertex) (d : ℕ) (edges : List Edge) (i : ℕ) (x : Edge) → i < length edges
    → candidates_from v d (take (i + 1) edges) ≡ candidates_from v d (take i edges) ++ candidates_from v d (get_or edges i x ∷ [])
candidates_from-more v d edges i x lt =
    ap (λ l. candidates_from v d l) (take_more edges i x lt) ∙ candidates_from-append v d (take i edges) (get_or edges i x ∷ [])

pub vertex_eq-same : (a b : Vertex) → vertex_eq a b ≡ true → a ≡ b
vertex_eq-same (Router a) (Router b) h = λ i. Router (record { 0 = eqb-true a.0 b.0 h i })
vertex_eq-same (Network a) (Network b) h = ap (λ x. Network x) (eqb-true a b h)
vertex_eq-same (Router a) (Network b) h = cc
vertex_eq-same (Network a) (Router b) h = cc

pub vertex_eq-refl : (a : Vertex) → vertex_eq a a ≡ true
vertex_eq-refl (Router a) = eq-eqb a.0 a.0 refl
vertex_eq-refl (Network a) = eq-eqb a a refl

-- what they are
pub candidates_from-is : (v : Vertex) (d : ℕ) (edges : List Edge) (f : Edge) (j : ℕ) → Contains (candidates_from v d edges) (record { edge = f; distance = j })
    → Contains edges f × (f.from ≡ v) × (j ≡ d + f.cost)
candidates_from-is v d [] f j h = absurd (let low = h.1 in omega arith)
candidates_from-is v d (e ∷ rest) f j h =
    elim (bool_cases (vertex_eq e.from v)) [
      | inl t ↦
          let h' : Contains (record { edge = e; distance = d + e.cost } ∷ candidates_from v d rest) (record { edge = f; distance = j }) = rw t at h in
          elim (member_cases _ (candidates_from v d rest) _ h') [
            | inl same ↦
                let is : e ≡ f = ap (λ c. c.edge) same in
                let cost : d + e.cost ≡ j = ap (λ c. c.distance) same in
                (rw is (member_head f rest), rw (← is) (vertex_eq-same e.from v t), rw (← is) (sym cost))
            | inr later ↦ let ih = candidates_from-is v d rest f j later in (member_later e rest f ih.0, ih.1, ih.2)
          ]
      | inr off ↦
          let h' : Contains (candidates_from v d rest) (record { edge = f; distance = j }) = rw off at h in
          let ih = candidates_from-is v d rest f j h' in (member_later e rest f ih.0, ih.1, ih.2)
    ]

pub candidates_from-has : (v : Vertex) (d : ℕ) (edges : List Edge) (f : Edge) → Contains edges f → f.from ≡ v
    → Contains (candidates_from v d edges) (record { edge = f; distance = d + f.cost })
candidates_from-has v d [] f h at = absurd (let low = h.1 in omega arith)
candidates_from-has v d (e ∷ rest) f h at =
    elim (member_cases e rest f h) [
      | inl same ↦
          let from : e.from ≡ v = ap (λ x. x.from) same ∙ at in
          let t : vertex_eq e.from v ≡ true = rw from (vertex_eq-refl v) in
          rw t (zero, omega arith, ap (λ x. record { edge = x; distance = d + x.cost }) same)
      | inr later ↦
          let ih = candidates_from-has v d rest f later at in
          elim (bool_cases (vertex_eq e.from v)) [ inl t ↦ rw t (member_later _ _ _ ih) | inr off ↦ rw off ih ]
    ]

-- edges of which none leaves the vertex
pub candidates_from-none : (v : Vertex) (d : ℕ) (edges : List Edge) → ((e : Edge) → Contains edges e → e.from ≡ v → ⊥) → candidates_from v d edges ≡ []
candidates_from-none v d [] other = refl
candidates_from-none v d (e ∷ rest) other =
    elim (bool_cases (vertex_eq e.from v)) [
      | inl t ↦ absurd (other e (member_head e rest) (vertex_eq-same e.from v t))
      | inr f ↦ rw f (candidates_from-none v d rest (λ x h. other x (member_later e rest x h)))
    ]

-- a part of the edges that has all that leave the vertex
pub candidates_from-part : (v : Vertex) (d i k : ℕ) (edges : List Edge) → ((e : Edge) → Contains (take i edges) e → e.from ≡ v → ⊥)
    → ((e : Edge) → Contains (drop k (drop i edges)) e → e.from ≡ v → ⊥) → candidates_from v d edges ≡ candidates_from v d (take k (drop i edges))
candidates_from-part v d i k edges before after =
    let parts : edges ≡ take i edges ++ (take k (drop i edges) ++ drop k (drop i edges)) = sym (ap (λ l. take i edges ++ l) (take-append-drop k (drop i edges)) ∙ take-append-drop i edges) in
    ap (λ l. candidates_from v d l) parts ∙ candidates_from-append v d (take i edges) _
    ∙ ap (λ l. l ++ candidates_from v d (take k (drop i edges) ++ drop k (drop i edges))) (candidates_from-none v d (take i edges) before)
    ∙ candidates_from-append v d (take k (drop i edges)) (drop k (drop i edges))
    ∙ ap (λ l. candidates_from v d (take k (drop i edges)) ++ l) (candidates_from-none v d (drop k (drop i edges)) after)
    ∙ append-nil (candidates_from v d (take k (drop i edges)))

less_or_equal : (a b : ℕ) → (a < b) ⊎ (b ≤ a)
less_or_equal a b = grind arith

pub code_injective : (a b : Vertex) → vertex_code a ≡ vertex_code b → a ≡ b
code_injective (Router a) (Router b) h = let e : a.0 ≡ b.0 = omega arith in λ i. Router (record { 0 = e i })
code_injective (Router a) (Network b) h = absurd (omega arith)
code_injective (Network a) (Router b) h = absurd (omega arith)
code_injective (Network a) (Network b) h = let e : a ≡ b = omega arith in ap (λ x. Network x) e

-- nothing joins
pub joins_none : (nearest : ℕ → Option ℕ) (list : List SpfCandidate) → Joins [] nearest nearest list list
joins_none nearest list =
    record {
      kept = λ c h. h;
      only = λ c h. inl h;
      joined = λ c h. absurd (let low = h.1 in omega arith);
      falls = λ q near h. (near, omega arith, h);
      noted = λ settled h. h;
      few = omega arith;
    }

-- one that none undercuts, whose distance is noted
pub joins_one : (c : SpfCandidate) (nearest nearest' : ℕ → Option ℕ) (old new : List SpfCandidate) → (IsUndercut nearest c → ⊥)
    → nearest' (vertex_code c.edge.to) ≡ Some c.distance → ((q : ℕ) → eqb (vertex_code c.edge.to) q ≡ false → nearest' q ≡ nearest q)
    → IsPermutation (c ∷ old) new → Joins (c ∷ []) nearest nearest' old new
joins_one c nearest nearest' old new none here others perm =
    let code = vertex_code c.edge.to in
    record {
      kept = λ d h. Contains-permutation (c ∷ old) new d perm (member_later c old d h);
      only = λ d h. elim (member_cases c old d (Contains-permutation new (c ∷ old) d (IsPermutation-sym _ _ perm) h)) [
        | inl same ↦ inr (rw same (member_head d []))
        | inr later ↦ inl later
      ];
      joined = λ d h. elim (member_cases c [] d h) [
        | inl same ↦ inl (Contains-permutation (c ∷ old) new d perm (rw same (member_head d old)))
        | inr later ↦ absurd (let low = later.1 in omega arith)
      ];
      falls = λ q near h. elim (bool_cases (eqb code q)) [
        | inl t ↦
            let same : code ≡ q = eqb-true code q t in (
              c.distance,
              elim (less_or_equal near c.distance) [
                | inl lt ↦ absurd (none (near, rw same h, lt))
                | inr le ↦ le
              ],
              rw (← same) here,
            )
        | inr f ↦ (near, omega arith, others q f ∙ h)
      ];
      noted = λ settled noted v near h. elim (bool_cases (eqb code (vertex_code v))) [
        | inl t ↦
            let same : code ≡ vertex_code v = eqb-true code (vertex_code v) t in
            let at : c.edge.to ≡ v = code_injective c.edge.to v same in
            let is : Some c.distance ≡ Some near = sym here ∙ ap nearest' same ∙ h in
            let distance : c.distance ≡ near = cc in
            inr (c.edge, at, Contains-permutation (c ∷ old) new _ perm (rw (← distance) (member_head c old)))
        | inr f ↦ elim (noted v near (sym (others (vertex_code v) f) ∙ h)) [
          | inl reached ↦ inl reached
          | inr waits ↦ inr (waits.0, waits.1, Contains-permutation (c ∷ old) new _ perm (member_later c old _ waits.2))
        ]
      ];
      few = omega (arith, length_permutation _ _ perm);
    }

-- some, and then more
pub joins_then : (a b : List SpfCandidate) (n0 n1 n2 : ℕ → Option ℕ) (old mid new : List SpfCandidate) → Joins a n0 n1 old mid → Joins b n1 n2 mid new
    → Joins (a ++ b) n0 n2 old new
joins_then a b n0 n1 n2 old mid new x y =
    record {
      kept = λ c h. y.kept c (x.kept c h);
      only = λ c h. elim (y.only c h) [
        | inl before ↦ elim (x.only c before) [ inl o ↦ inl o | inr m ↦ inr (Contains-append_left a b c m) ]
        | inr m ↦ inr (Contains-append_right a b c m)
      ];
      joined = λ c h. elim (Contains-append_cases a b c h) [
        | inl first ↦ elim (x.joined c first) [
          | inl there ↦ inl (y.kept c there)
          | inr under ↦
              let now = y.falls (vertex_code c.edge.to) under.0 under.1 in
              inr (now.0, now.2, (let le = now.1 in let lt = under.2 in omega arith))
        ]
        | inr last ↦ y.joined c last
      ];
      falls = λ q near h.
          let one = x.falls q near h in
          let two = y.falls q one.0 one.2 in
          (two.0, (let le = one.1 in let more = two.1 in omega arith), two.2);
      noted = λ settled h. y.noted settled (x.noted settled h);
      few = let p = x.few in let q = y.few in omega (arith, length-append a b);
    }

-- an edge from the vertex is offered
pub candidates_joined : (v : Vertex) (d : ℕ) (edges : List Edge) (i : ℕ) (x : Edge) (n0 n1 n2 : ℕ → Option ℕ) (old now new : List SpfCandidate) → i < length edges
    → ((e : Edge) → Contains edges e → e.from ≡ v) → Joins (candidates_from v d (take i edges)) n0 n1 old now
    → Joins (record { distance = d + (get_or edges i x).cost; edge = get_or edges i x } ∷ []) n1 n2 now new
    → Joins (candidates_from v d (take (i + 1) edges)) n0 n2 old new
candidates_joined v d edges i x n0 n1 n2 old now new lt from so_far one =
    let c : SpfCandidate = record { distance = d + (get_or edges i x).cost; edge = get_or edges i x } in
    let there : Contains edges (get_or edges i x) = (i, lt, get_or_default edges i (get_or edges i x) x lt) in
    let same : vertex_eq (get_or edges i x).from v ≡ true = rw (from (get_or edges i x) there) (vertex_eq-refl v) in
    let more : candidates_from v d (take (i + 1) edges) ≡ candidates_from v d (take i edges) ++ c ∷ [] = rw same at (candidates_from-more v d edges i x lt) in
    subst (λ l. Joins l n0 n2 old new) (sym more) (joins_then (candidates_from v d (take i edges)) (c ∷ []) n0 n1 n2 old now new so_far one)

-- two vertices are one, or are not
pub same_or_other : (v w : Vertex) → (v ≡ w) ⊎ (v ≢ w)
same_or_other v w =
    elim (bool_cases (vertex_eq v w)) [
      | inl t ↦ inl (vertex_eq-same v w t)
      | inr f ↦ inr (λ same. (let t : vertex_eq v w ≡ true = rw same (vertex_eq-refl w) in cc))
    ]
