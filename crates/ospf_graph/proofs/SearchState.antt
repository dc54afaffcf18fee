-- The state of the search over lists: each candidate that is taken keeps the invariant, and lessens the work.
use Rattle.std.proofs.Common.{◌≡◌, ◌⊎◌, Option, Some, ◌≢◌, ◌+◌, ◌*◌, ◌^◌, ◌<◌, ◌≤◌, ℕ, zero, Bool, true, false, cond, eqb, eqb-true, List, [], ◌∷◌, ◌++◌, map, length, get_or, refl, sym, ◌∙◌, ap, subst, inl, inr, arith, length-append}
use Rattle.std.specs.List.{All, AllPairs, Contains, list_any}
use Rattle.std.specs.List.Sorted.{IsPermutation}
use Rattle.std.proofs.lemmas.List.{length-map, get_or-map, get_or_default}
use Rattle.std.proofs.lemmas.Map.Made.{IsDistinct-from_AllPairs}
use Rattle.std.proofs.lemmas.Map.Views.{Contains-from_any}
use Rattle.std.proofs.lemmas.Map.Steps.{length-le_from_distinct_below}
use Rattle.std.proofs.lemmas.Bool.Decides.{Decides-eqb}
use Rattle.std.proofs.lemmas.List.Elements.{All-head, All-tail, All-contains, All-cons, All-nil, All-weaker, All-push, Contains-append_left, Contains-push, Contains-push_cases}
use Rattle.std.proofs.lemmas.List.Sorted.{IsPermutation-sym, Contains-permutation, All-permutation, length_permutation}
use Rattle.std.proofs.lemmas.List.Quantifiers.{all_pairs_push}
use Rattle.ospf_graph.specs.declared.graph.Edge.{Edge}
use Rattle.ospf_graph.specs.declared.graph.Vertex.{Vertex}
use Rattle.ospf_graph.specs.declared.graph.Vertex.TheVariants.{Router, Network}
use Rattle.ospf_graph.specs.declared.graph.Start.TheVariants.{Here}
use Rattle.ospf_graph.specs.declared.paths.Settled.{Settled}
use Rattle.ospf_graph.specs.declared.paths.VertexStart.{VertexStart}
use Rattle.ospf_graph.specs.declared.candidates.SpfCandidate.{SpfCandidate}
use Rattle.ospf_graph.specs.Tree.{rank, IsTree}
use Rattle.ospf_graph.specs.Search.{candidate_rank, candidates_from, vertex_eq, vertex_id, vertex_code, AreNoted, BringsStarts, Joins, TakesCandidate, AtIn, StartsIn, WaitsAmong, AreFitEdges}
use Rattle.ospf_graph.proofs.ListLemmas.{bool_cases, member_cases, member_later, member_head}
use Rattle.ospf_graph.proofs.CandidateLemmas.{candidates_from-is, candidates_from-has, code_injective, vertex_eq-same, vertex_eq-refl}
use Rattle.ospf_graph.proofs.TreeLemmas.{IsTree-same, IsTree-map}
use Rattle.ospf_graph.proofs.SearchLemmas.{IsPassed, IsSearch, absorbed, finished, raised, rank_le, same_waits, settled}

abbrev pub IsSearchIn : List Edge → Vertex → List Settled → List VertexStart → List SpfCandidate → ℕ → Type 0
IsSearchIn edges root s b c bound = IsSearch (Contains edges) root (AtIn s) (StartsIn b) (WaitsAmong c) bound

module _ (edges : List Edge) (fit : AreFitEdges edges) (root : Vertex) where
  -- a candidate was taken out, of least rank
  popped : (s : List Settled) (b : List VertexStart) (old rest : List SpfCandidate) (c : SpfCandidate) (bound : ℕ) → IsSearchIn edges root s b old bound
      → IsPermutation old (c ∷ rest) → All (λ d. candidate_rank c ≤ candidate_rank d) rest → IsSearchIn edges root s b (c ∷ rest) (candidate_rank c)
  popped s b old rest c bound search perm least =
      let here = same_waits (Contains edges) fit.rising root (AtIn s) (StartsIn b) (WaitsAmong old) (WaitsAmong (c ∷ rest)) bound search
      (λ e k w. Contains-permutation old (c ∷ rest) _ perm w) (λ e k w. Contains-permutation (c ∷ rest) old _ (IsPermutation-sym _ _ perm) w) in
      raised (Contains edges) fit.rising root (AtIn s) (StartsIn b) (WaitsAmong (c ∷ rest)) bound (candidate_rank c) here
      (let w = here.waiting c.edge c.distance (member_head c rest) in w.1)
      (λ e k w. elim (member_cases c rest (record { edge = e; distance = k }) w) [
        | inl same ↦ (let one : candidate_rank c ≡ rank e.to k = ap (λ d. candidate_rank d) same in omega arith)
        | inr later ↦ All-contains (λ d. candidate_rank c ≤ candidate_rank d) rest (record { edge = e; distance = k }) least later
      ])

  -- its starts are brought
  brought : (s : List Settled) (b b' : List VertexStart) (rest : List SpfCandidate) (c : SpfCandidate) → IsSearchIn edges root s b (c ∷ rest) (candidate_rank c)
      → AtIn s c.edge.to c.distance → BringsStarts c.edge b b' → IsSearchIn edges root s b' rest (candidate_rank c)
  brought s b b' rest c search at brings =
      absorbed (Contains edges) fit.rising root (AtIn s) (StartsIn b) (StartsIn b') (WaitsAmong (c ∷ rest)) (WaitsAmong rest) (candidate_rank c) search
      c.edge c.distance c.distance (member_head c rest) (omega arith) at
      (λ v x h. brings.kept _ h) (λ same x h. brings.brought x h)
      (λ v x h. elim (brings.only _ h) [ inl old ↦ inl old | inr new ↦ inr (new.0, refl, new.1, new.2, new.3) ])
      (λ f j w. member_later c rest _ w)
      (λ f j w. elim (member_cases c rest _ w) [ inl same ↦ inr (ap (λ d. d.edge) (sym same), ap (λ d. d.distance) (sym same)) | inr later ↦ inl later ])

  -- or not, where the vertex is nearer
  passed : (s : List Settled) (b : List VertexStart) (rest : List SpfCandidate) (c : SpfCandidate) (near : ℕ) → IsSearchIn edges root s b (c ∷ rest) (candidate_rank c)
      → AtIn s c.edge.to near → near ≢ c.distance → IsSearchIn edges root s b rest (candidate_rank c)
  passed s b rest c near search at other =
      absorbed (Contains edges) fit.rising root (AtIn s) (StartsIn b) (StartsIn b) (WaitsAmong (c ∷ rest)) (WaitsAmong rest) (candidate_rank c) search
      c.edge c.distance near (member_head c rest) (omega arith) at
      (λ v x h. h) (λ same x h. absurd (other same)) (λ v x h. inl h)
      (λ f j w. member_later c rest _ w)
      (λ f j w. elim (member_cases c rest _ w) [ inl same ↦ inr (ap (λ d. d.edge) (sym same), ap (λ d. d.distance) (sym same)) | inr later ↦ inl later ])

  -- an edge that a nearer way undercuts
  passed_over : (nearest : ℕ → Option ℕ) (s : List Settled) (c : List SpfCandidate) → AreNoted nearest s c → (e : Edge) (d near : ℕ) → nearest (vertex_code e.to) ≡ Some near
      → near < d + e.cost → IsPassed (AtIn s) (WaitsAmong c) e d
  passed_over nearest s c noted e d near is lt =
      elim (noted e.to near is) [
        | inl at ↦ record { near = at.0; lt = (let le = at.1 in omega arith); there = inl at.2 }
        | inr waits ↦ record { near = near; lt = lt; there = inr waits }
      ]

  reached : (s s' : List Settled) (b : List VertexStart) (rest rest' : List SpfCandidate) (c : SpfCandidate) (n n' : ℕ → Option ℕ) → IsSearchIn edges root s b (c ∷ rest) (candidate_rank c)
      → ((d : ℕ) → AtIn s c.edge.to d → ⊥) → s' ≡ s ++ record { vertex = c.edge.to; distance = c.distance } ∷ []
      → Joins (candidates_from c.edge.to c.distance edges) n n' rest rest' → AreNoted n' s' rest' → IsSearchIn edges root s' b (c ∷ rest') (candidate_rank c)
  reached s s' b rest rest' c n n' search fresh s_is joins noted =
      let more = candidates_from c.edge.to c.distance edges in
      let new : Settled = record { vertex = c.edge.to; distance = c.distance } in
      settled (Contains edges) fit.rising root (AtIn s) (AtIn s') (StartsIn b) (WaitsAmong (c ∷ rest)) (WaitsAmong (c ∷ rest')) (candidate_rank c) search
      c.edge c.distance (member_head c rest) (omega arith) fresh
      (λ v d at. rw s_is (Contains-append_left s (new ∷ []) _ at))
      (rw s_is (Contains-push s new))
      (λ v d at. elim (Contains-push_cases s new (record { vertex = v; distance = d }) (rw s_is at at)) [
        | inl old ↦ inl old
        | inr is ↦ inr (ap (λ x. x.vertex) (sym is), ap (λ x. x.distance) (sym is))
      ])
      (λ f j w. elim (member_cases c rest _ w) [
        | inl same ↦ (zero, omega arith, same)
        | inr later ↦ member_later c rest' _ (joins.kept _ later)
      ])
      (λ f is from. elim (joins.joined (record { edge = f; distance = c.distance + f.cost }) (candidates_from-has c.edge.to c.distance edges f is from)) [
        | inl there ↦ inl (member_later c rest' _ there)
        | inr under ↦
            let p = passed_over n' s' rest' noted f c.distance under.0 under.1 under.2 in
            inr (record { near = p.near; lt = p.lt; there = elim p.there [ inl at ↦ inl at | inr w ↦ inr (w.0, w.1, member_later c rest' _ w.2) ] })
      ])
      (λ f j w. elim (member_cases c rest' _ w) [
        | inl same ↦ inl (zero, omega arith, same)
        | inr later ↦ elim (joins.only _ later) [
          | inl old ↦ inl (member_later c rest _ old)
          | inr new_one ↦ inr (candidates_from-is c.edge.to c.distance edges f j new_one)
        ]
      ])

  -- what is noted, without the candidate that was taken out, once its vertex is reached as near
  noted_without : (n : ℕ → Option ℕ) (s s' : List Settled) (old rest : List SpfCandidate) (c : SpfCandidate) (near : ℕ) → AreNoted n s old → IsPermutation old (c ∷ rest)
      → ((v : Vertex) (d : ℕ) → AtIn s v d → AtIn s' v d) → AtIn s' c.edge.to near → near ≤ c.distance → AreNoted n s' rest
  noted_without n s s' old rest c near noted perm keeps at le v j is =
      elim (noted v j is) [
        | inl reached ↦ inl (reached.0, reached.1, keeps v reached.0 reached.2)
        | inr waits ↦ elim (member_cases c rest _ (Contains-permutation old (c ∷ rest) _ perm waits.2)) [
          | inl same ↦
              let end : c.edge.to ≡ v = ap (λ d. d.edge.to) same ∙ waits.1 in
              let distance : c.distance ≡ j = ap (λ d. d.distance) same in
              inl (near, omega arith, rw (← end) at)
          | inr later ↦ inr (waits.0, waits.1, later)
        ]
      ]

  -- what is noted after a candidate is taken
  pub noted_taken : (s s' : List Settled) (b b' : List VertexStart) (n n' : ℕ → Option ℕ) (old rest rest' : List SpfCandidate) (c : SpfCandidate) (bound : ℕ)
      → IsSearchIn edges root s b old bound → AreNoted n s old → IsPermutation old (c ∷ rest) → All (λ d. candidate_rank c ≤ candidate_rank d) rest
      → TakesCandidate c edges s s' b b' n n' rest rest' → AreNoted n' s' rest'
  noted_taken s s' b b' n n' old rest rest' c bound search noted perm least (inl new) =
      let one : Settled = record { vertex = c.edge.to; distance = c.distance } in
      new.candidates_are.noted s' (noted_without n s s' old rest c c.distance noted perm
      (λ v d at. rw new.settled_is (Contains-append_left s (one ∷ []) _ at)) (rw new.settled_is (Contains-push s one)) (omega arith))
  noted_taken s s' b b' n n' old rest rest' c bound search noted perm least (inr again) =
      let now = popped s b old rest c bound search perm least in
      let le : again.near ≤ c.distance = rank_le c.edge.to again.near c.distance (now.low c.edge.to again.near again.at) in
      rw (again.settled_is, again.candidates_is, again.nearest_is) (noted_without n s s old rest c again.near noted perm (λ v d at. at) again.at le)

  pub taken : (s s' : List Settled) (b b' : List VertexStart) (n n' : ℕ → Option ℕ) (old rest rest' : List SpfCandidate) (c : SpfCandidate) (bound : ℕ)
      → IsSearchIn edges root s b old bound → AreNoted n s old → IsPermutation old (c ∷ rest) → All (λ d. candidate_rank c ≤ candidate_rank d) rest
      → TakesCandidate c edges s s' b b' n n' rest rest' → IsSearchIn edges root s' b' rest' (candidate_rank c)
  taken s s' b b' n n' old rest rest' c bound search noted perm least (inl new) =
      let now = popped s b old rest c bound search perm least in
      let noted' = noted_taken s s' b b' n n' old rest rest' c bound search noted perm least (inl new) in
      let then = reached s s' b rest rest' c n n' now new.fresh new.settled_is new.candidates_are noted' in
      brought s' b b' rest' c then (rw new.settled_is (Contains-push s _)) new.brings
  taken s s' b b' n n' old rest rest' c bound search noted perm least (inr again) =
      let now = popped s b old rest c bound search perm least in
      elim again.brings [
        | inl tight ↦ rw (again.settled_is, again.candidates_is) (brought s b b' rest c now (rw (← tight.0) again.at) tight.1)
        | inr far ↦ rw (again.settled_is, again.candidates_is, far.1) (passed s b rest c again.near now again.at far.0)
      ]

  -- the state at the beginning
  pub started : (n n' : ℕ → Option ℕ) (c : List SpfCandidate) → Joins (candidates_from root 0 edges) n n' [] c
      → AreNoted n' (record { vertex = root; distance = 0 } ∷ []) c
      → IsSearchIn edges root (record { vertex = root; distance = 0 } ∷ []) (record { vertex = root; start = Here } ∷ []) c (rank root 0)
  started n n' c joins noted =
      let first : Settled = record { vertex = root; distance = 0 } in
      let begun : VertexStart = record { vertex = root; start = Here } in
      let only : (v : Vertex) (d : ℕ) → AtIn (first ∷ []) v d → (root ≡ v) × (0 ≡ d) =
      λ v d at. elim (member_cases first [] _ at) [ inl is ↦ (ap (λ x. x.vertex) is, ap (λ x. x.distance) is) | inr later ↦ absurd (let low = later.1 in omega arith) ] in
      record {
        one = λ v d k p q. sym (only v d p).1 ∙ (only v k q).1;
        root_at = member_head first [];
        root_start = member_head begun [];
        path_of = λ v d at. let o = only v d at in ([], o.0, o.1);
        path_with = λ v x has. elim (member_cases begun [] _ has) [
          | inl is ↦ ([], ap (λ b. b.vertex) is, rw (← ap (λ b. b.vertex) is) (member_head first []), ap (λ b. b.start) is)
          | inr later ↦ absurd (let low = later.1 in omega arith)
        ];
        low = λ v d at. let o = only v d at in rw (← o.0, ← o.1) (omega arith);
        waiting = λ e k w.
            let is : Contains edges e × (e.from ≡ root) × (k ≡ 0 + e.cost) = elim (joins.only _ w) [ inl none ↦ absurd (let low = none.1 in omega arith) | inr new ↦ candidates_from-is root 0 edges e k new ] in
            let up : rank e.from 0 < rank e.to (0 + e.cost) = fit.rising e 0 is.0 in
            let level : rank e.from 0 ≡ rank root 0 = ap (λ v. rank v 0) is.1 in
            let here : rank e.to k ≡ rank e.to (0 + e.cost) = ap (λ n. rank e.to n) is.2 in
            (is.0, omega arith, 0, rw is.1 (member_head first []), is.2);
        done = λ e d is at.
            let o = only e.from d at in
            let here : WaitsAmong c e (0 + e.cost) ⊎ IsPassed (AtIn (first ∷ [])) (WaitsAmong c) e 0 =
            elim (joins.joined (record { edge = e; distance = 0 + e.cost }) (candidates_from-has root 0 edges e is (sym o.0))) [
              | inl there ↦ inl there
              | inr under ↦ inr (passed_over n' (first ∷ []) c noted e 0 under.0 under.1 under.2)
            ] in
            elim here [ inl w ↦ inl (rw (← o.1) w) | inr p ↦ inr (inr (rw (← o.1) p)) ];
      }

-- distances stay small, since vertices have 2 ^ 33 names at most
pub record IsSmall (s : List Settled) (candidates : List SpfCandidate) : Type 0 where
  pub apart : AllPairs (λ x y. x.vertex ≢ y.vertex) s
  pub ids : All (λ x. vertex_id x.vertex < 2 ^ 32) s
  pub near : All (λ x. x.distance ≤ 65535 * length s) s
  pub close : All (λ d. d.distance ≤ 65535 * length s) candidates

code_small : (v : Vertex) → vertex_id v < 2 ^ 32 → vertex_code v < 2 ^ 33
code_small (Router a) h = omega arith
code_small (Network a) h = omega arith

pub few : (s : List Settled) → AllPairs (λ x y. x.vertex ≢ y.vertex) s → All (λ x. vertex_id x.vertex < 2 ^ 32) s → length s ≤ 2 ^ 33
few s apart ids =
    let none : Settled = record { vertex = Router (record { 0 = 0 }); distance = 0 } in
    let f = λ (x : Settled). vertex_code x.vertex in
    let xs = map f s in
    let long : length xs ≡ length s = length-map s f in
    let pairs : AllPairs (λ x y. x ≢ y) xs =
    λ i j d lt within same.
    let wi : i < length s = omega arith in
    let wj : j < length s = omega arith in
    apart i j none lt wj (code_injective _ _ (sym (get_or-map f s i none d wi) ∙ same ∙ get_or-map f s j none d wj)) in
    let below : (q : ℕ) → list_any (eqb q) xs ≡ true → q < 2 ^ 33 =
    λ q h.
    let k = Contains-from_any {eq = eqb} (λ x y e. eqb-true x y e) q xs h in
    let wk : k.0 < length s = (let low = k.1 in omega arith) in
    let small : f (get_or s k.0 none) < 2 ^ 33 = code_small _ (ids k.0 none wk) in
    let is : f (get_or s k.0 none) ≡ q = sym (get_or-map f s k.0 none q wk) ∙ k.2 in
    omega arith in
    let bound : length xs ≤ 2 ^ 33 = length-le_from_distinct_below xs (2 ^ 33) (IsDistinct-from_AllPairs Decides-eqb xs pairs) below in
    omega arith

module _ (edges : List Edge) (fit : AreFitEdges edges) (root : Vertex) (root_small : vertex_id root < 2 ^ 32) where
  close_from : (v : Vertex) (d n : ℕ) → d ≤ 65535 * n → All (λ c. c.distance ≤ 65535 * (n + 1)) (candidates_from v d edges)
  close_from v d n low k e within =
      let c = get_or (candidates_from v d edges) k e in
      let is = candidates_from-is v d edges c.edge c.distance (k, within, get_or_default (candidates_from v d edges) k c e within) in
      let cheap : c.edge.cost < 2 ^ 16 = fit.cost_fits c.edge is.0 in
      let sum : c.distance ≡ d + c.edge.cost = is.2 in
      omega arith

  -- what holds of all that were there and of all that join holds of all
  all_joined : (P : SpfCandidate → Type 0) (more old new : List SpfCandidate) (n n' : ℕ → Option ℕ) → Joins more n n' old new → All P old → All P more → All P new
  all_joined P more old new n n' joins olds mores k e within =
      let x = get_or new k e in
      elim (joins.only x (k, within, get_or_default new k x e within)) [
        | inl there ↦ All-contains P old x olds there
        | inr came ↦ All-contains P more x mores came
      ]

  pub small_started : (n n' : ℕ → Option ℕ) (c : List SpfCandidate) → Joins (candidates_from root 0 edges) n n' [] c
      → IsSmall (record { vertex = root; distance = 0 } ∷ []) c
  small_started n n' c joins =
      record {
        apart = λ i j d lt within. absurd (omega arith);
        ids = All-cons (λ x. vertex_id x.vertex < 2 ^ 32) _ [] root_small (All-nil (λ x. vertex_id x.vertex < 2 ^ 32));
        near = All-cons (λ x. x.distance ≤ 65535 * 1) _ [] (omega arith) (All-nil (λ x. x.distance ≤ 65535 * 1));
        close = all_joined (λ d. d.distance ≤ 65535 * 1) (candidates_from root 0 edges) [] c n n' joins (All-nil (λ d. d.distance ≤ 65535 * 1)) (close_from root 0 0 (omega arith));
      }

  pub small_taken : (s s' : List Settled) (b b' : List VertexStart) (n n' : ℕ → Option ℕ) (old rest rest' : List SpfCandidate) (c : SpfCandidate) → IsSmall s old
      → IsPermutation old (c ∷ rest) → Contains edges c.edge → TakesCandidate c edges s s' b b' n n' rest rest' → IsSmall s' rest'
  small_taken s s' b b' n n' old rest rest' c small perm in_edges (inl new) =
      let x : Settled = record { vertex = c.edge.to; distance = c.distance } in
      let all = All-permutation (λ d. d.distance ≤ 65535 * length s) old (c ∷ rest) perm small.close in
      let low : c.distance ≤ 65535 * length s = All-head (λ d. d.distance ≤ 65535 * length s) c rest all in
      let longer : length s' ≡ length s + 1 = rw new.settled_is (length-append s (x ∷ [])) in
      let wide : (n : ℕ) → n ≤ 65535 * length s → n ≤ 65535 * length s' = λ n le. omega arith in
      record {
        apart = rw new.settled_is (all_pairs_push (λ y z. y.vertex ≢ z.vertex) s x small.apart
            (λ k d within same. new.fresh (get_or s k d).distance
            (k, within, get_or_default s k _ d within ∙ (λ i. record { vertex = same i; distance = (get_or s k d).distance }))));
        ids = rw new.settled_is (All-push (λ y. vertex_id y.vertex < 2 ^ 32) s x small.ids (fit.id_fits c.edge in_edges));
        near = subst (λ l. All (λ y. y.distance ≤ 65535 * length s') l) (sym new.settled_is)
            (All-push (λ y. y.distance ≤ 65535 * length s') s x
            (All-weaker (λ y. y.distance ≤ 65535 * length s) (λ y. y.distance ≤ 65535 * length s') (λ y le. wide y.distance le) s small.near) (wide c.distance low));
        close = all_joined (λ d. d.distance ≤ 65535 * length s') (candidates_from c.edge.to c.distance edges) rest rest' n n' new.candidates_are
            (All-weaker (λ d. d.distance ≤ 65535 * length s) (λ d. d.distance ≤ 65535 * length s') (λ d le. wide d.distance le) rest
            (All-tail (λ d. d.distance ≤ 65535 * length s) c rest all))
            (subst (λ n. All (λ d. d.distance ≤ 65535 * n) (candidates_from c.edge.to c.distance edges)) (sym longer) (close_from c.edge.to c.distance (length s) low));
      }
  small_taken s s' b b' n n' old rest rest' c small perm in_edges (inr again) =
      rw (again.settled_is, again.candidates_is)
      (record {
        apart = small.apart;
        ids = small.ids;
        near = small.near;
        close = All-tail (λ d. d.distance ≤ 65535 * length s) c rest (All-permutation (λ d. d.distance ≤ 65535 * length s) old (c ∷ rest) perm small.close);
      })

-- how many edges begin where nothing is reached yet
is_reached : List Settled → Vertex → Bool
is_reached [] v = false
is_reached (s ∷ rest) v = cond (vertex_eq s.vertex v) true (is_reached rest v)

pub unreached : List Settled → List Edge → ℕ
unfolding is_reached
unreached s [] = 0
unreached s (e ∷ rest) = cond (is_reached s e.from) 0 1 + unreached s rest

reached_in : (s : List Settled) (v : Vertex) → is_reached s v ≡ true → (d : ℕ) × AtIn s v d
unfolding is_reached
reached_in [] v h = cc
reached_in (x ∷ rest) v h =
    elim (bool_cases (vertex_eq x.vertex v)) [
      | inl t ↦ (x.distance, rw (← vertex_eq-same x.vertex v t) (member_head x rest))
      | inr f ↦ let ih = reached_in rest v (rw f at h) in (ih.0, member_later x rest _ ih.1)
    ]

is_reached-push : (s : List Settled) (x : Settled) (v : Vertex) → is_reached (s ++ x ∷ []) v ≡ cond (is_reached s v) true (vertex_eq x.vertex v)
unfolding is_reached
is_reached-push [] x v = elim (bool_cases (vertex_eq x.vertex v)) [ inl t ↦ rw t refl | inr f ↦ rw f refl ]
is_reached-push (y ∷ rest) x v = elim (bool_cases (vertex_eq y.vertex v)) [ inl t ↦ rw t refl | inr f ↦ rw f (is_reached-push rest x v) ]

-- a new vertex makes its edges candidates
pub unreached-push : (s : List Settled) (v : Vertex) (d k : ℕ) → ((d : ℕ) → AtIn s v d → ⊥) → (edges : List Edge)
    → unreached (s ++ record { vertex = v; distance = d } ∷ []) edges + length (candidates_from v k edges) ≡ unreached s edges
unfolding is_reached unreached
unreached-push s v d k fresh [] = refl
unreached-push s v d k fresh (e ∷ rest) =
    let x : Settled = record { vertex = v; distance = d } in
    let ih = unreached-push s v d k fresh rest in
    let now : is_reached (s ++ x ∷ []) e.from ≡ cond (is_reached s e.from) true (vertex_eq v e.from) = is_reached-push s x e.from in
    elim (bool_cases (vertex_eq e.from v)) [
      | inl t ↦
          let same : e.from ≡ v = vertex_eq-same e.from v t in
          elim (bool_cases (is_reached s e.from)) [
            | inl old ↦ absurd (let at = reached_in s e.from old in fresh at.0 (rw (← same) at.1))
            | inr off ↦
                let is : vertex_eq v e.from ≡ true = rw same (vertex_eq-refl v) in
                rw (now, off, is, t) (omega arith)
          ]
      | inr f ↦
          elim (bool_cases (vertex_eq v e.from)) [
            | inl t ↦ (let is : vertex_eq e.from v ≡ true = rw (vertex_eq-same v e.from t) (vertex_eq-refl e.from) in cc)
            | inr g ↦ elim (bool_cases (is_reached s e.from)) [
              | inl old ↦ rw (now, old, f) (omega arith)
              | inr off ↦ rw (now, off, g, f) (omega arith)
            ]
          ]
    ]

none_reached : (edges : List Edge) → unreached [] edges ≡ length edges
unfolding is_reached unreached
none_reached [] = refl
none_reached (e ∷ rest) = let ih = none_reached rest in omega arith

-- all edges, but for those of the root
pub unreached_root : (edges : List Edge) (root : Vertex)
    → unreached (record { vertex = root; distance = 0 } ∷ []) edges + length (candidates_from root 0 edges) ≡ length edges
unreached_root edges root = unreached-push [] root 0 0 (λ d h. let low = h.1 in omega arith) edges ∙ none_reached edges

-- a taken candidate lessens the work
pub work_taken : (edges : List Edge) (s s' : List Settled) (b b' : List VertexStart) (n n' : ℕ → Option ℕ) (rest rest' : List SpfCandidate) (c : SpfCandidate)
    → TakesCandidate c edges s s' b b' n n' rest rest' → unreached s' edges + length rest' ≤ unreached s edges + length rest
work_taken edges s s' b b' n n' rest rest' c (inl new) =
    let u = unreached-push s c.edge.to c.distance c.distance new.fresh edges in
    let few = new.candidates_are.few in
    rw new.settled_is (omega arith)
work_taken edges s s' b b' n n' rest rest' c (inr again) = rw (again.settled_is, again.candidates_is) (omega arith)

-- what the loop keeps
pub record IsState (edges : List Edge) (root : Vertex) (s : List Settled) (b : List VertexStart) (n : ℕ → Option ℕ) (c : List SpfCandidate) : Type 0 where
  pub bound : ℕ
  pub search : IsSearchIn edges root s b c bound
  pub noted : AreNoted n s c
  pub small : IsSmall s c

pub state_near : (edges : List Edge) (root : Vertex) (s : List Settled) (b : List VertexStart) (n : ℕ → Option ℕ) (c : List SpfCandidate)
    → IsState edges root s b n c → All (λ x. x.distance < 2 ^ 63) s
state_near edges root s b n c state =
    let short : length s ≤ 2 ^ 33 = few s state.small.apart state.small.ids in
    All-weaker (λ x. x.distance ≤ 65535 * length s) (λ x. x.distance < 2 ^ 63) (λ x le. omega arith) s state.small.near

pub state_tree : (edges : List Edge) → AreFitEdges edges → (root : Vertex) (s : List Settled) (b : List VertexStart) (n : ℕ → Option ℕ) (c : List SpfCandidate)
    → IsState edges root s b n c → c ≡ [] → IsTree (Contains edges) root (AtIn s) (StartsIn b)
state_tree edges fit root s b n c state none =
    finished (Contains edges) fit.rising root (AtIn s) (StartsIn b) (WaitsAmong c) state.bound state.search
    (λ e k w. let w' : WaitsAmong [] e k = rw none at w in let low = w'.1 in omega arith)

module _ (edges : List Edge) (fit : AreFitEdges edges) (root : Vertex) (root_small : vertex_id root < 2 ^ 32) where
  pub state_started : (s : List Settled) (b : List VertexStart) (n n' : ℕ → Option ℕ) (c : List SpfCandidate) → s ≡ record { vertex = root; distance = 0 } ∷ []
      → b ≡ record { vertex = root; start = Here } ∷ [] → ((q near : ℕ) → n q ≡ Some near → ⊥) → Joins (candidates_from root 0 edges) n n' [] c
      → IsState edges root s b n' c
  state_started s b n n' c s_is b_is none joins =
      let one : Settled = record { vertex = root; distance = 0 } in
      let noted = joins.noted (one ∷ []) (λ v near is. absurd (none (vertex_code v) near is)) in
      rw (s_is, b_is)
      (record {
        bound = rank root 0;
        search = started edges fit root n n' c joins noted;
        noted = noted;
        small = small_started edges fit root root_small n n' c joins;
      })

  module _ (s s' : List Settled) (b b' : List VertexStart) (n n' : ℕ → Option ℕ) (old rest rest' : List SpfCandidate) (c : SpfCandidate) (state : IsState edges root s b n old)
      (perm : IsPermutation old (c ∷ rest)) where
    pub candidate_small : c.distance < 2 ^ 63
    candidate_small =
        let short : length s ≤ 2 ^ 33 = few s state.small.apart state.small.ids in
        let low : c.distance ≤ 65535 * length s =
        All-head (λ d. d.distance ≤ 65535 * length s) c rest (All-permutation (λ d. d.distance ≤ 65535 * length s) old (c ∷ rest) perm state.small.close) in
        omega arith

    pub state_taken : All (λ d. candidate_rank c ≤ candidate_rank d) rest → TakesCandidate c edges s s' b b' n n' rest rest' → IsState edges root s' b' n' rest'
    state_taken least takes =
        let w = state.search.waiting c.edge c.distance (Contains-permutation (c ∷ rest) old c (IsPermutation-sym _ _ perm) (member_head c rest)) in
        record {
          bound = candidate_rank c;
          search = taken edges fit root s s' b b' n n' old rest rest' c state.bound state.search state.noted perm least takes;
          noted = noted_taken edges fit root s s' b b' n n' old rest rest' c state.bound state.search state.noted perm least takes;
          small = small_taken edges fit root root_small s s' b b' n n' old rest rest' c state.small perm w.0 takes;
        }

    pub work_falls : TakesCandidate c edges s s' b b' n n' rest rest' → unreached s' edges + length rest' < unreached s edges + length old
    work_falls takes =
        let less = work_taken edges s s' b b' n n' rest rest' c takes in
        omega (arith, length_permutation old (c ∷ rest) perm)

-- the same in another order
pub tree_sorted : (edges : List Edge) (root : Vertex) (s s' : List Settled) (b b' : List VertexStart) → IsPermutation s s' → IsPermutation b b'
    → IsTree (Contains edges) root (AtIn s) (StartsIn b) → IsTree (Contains edges) root (AtIn s') (StartsIn b')
tree_sorted edges root s s' b b' same_s same_b t =
    IsTree-same (Contains edges) root (AtIn s) (AtIn s') (StartsIn b) (StartsIn b')
    (λ v d. (λ m. Contains-permutation s s' _ same_s m, λ m. Contains-permutation s' s _ (IsPermutation-sym s s' same_s) m))
    (λ v x. (λ m. Contains-permutation b b' _ same_b m, λ m. Contains-permutation b' b _ (IsPermutation-sym b b' same_b) m)) t

-- the same edges in another order
pub fit_sorted : (edges sorted : List Edge) → IsPermutation edges sorted → AreFitEdges edges → AreFitEdges sorted
fit_sorted edges sorted same fit =
    let back : (e : Edge) → Contains sorted e → Contains edges e = λ e h. Contains-permutation sorted edges e (IsPermutation-sym edges sorted same) h in
    record {
      rising = λ e d is. fit.rising e d (back e is);
      cost_fits = λ e is. fit.cost_fits e (back e is);
      id_fits = λ e is. fit.id_fits e (back e is);
    }

pub tree_edges : (edges sorted : List Edge) → IsPermutation edges sorted → (root : Vertex) (s : List Settled) (b : List VertexStart)
    → IsTree (Contains sorted) root (AtIn s) (StartsIn b) → IsTree (Contains edges) root (AtIn s) (StartsIn b)
tree_edges edges sorted same root s b t =
    IsTree-map (Contains sorted) (Contains edges) (λ e h. Contains-permutation sorted edges e (IsPermutation-sym edges sorted same) h)
    (λ e h. Contains-permutation edges sorted e same h) root (AtIn s) (StartsIn b) t

-- the tree of a search, told by lists in order
pub put_in_order : (edges sorted : List Edge) → IsPermutation edges sorted → (root : Vertex) (s s' : List Settled) (b b' : List VertexStart)
    → IsPermutation s s' → IsPermutation b b' → IsTree (Contains sorted) root (AtIn s) (StartsIn b) → IsTree (Contains edges) root (AtIn s') (StartsIn b')
put_in_order edges sorted same root s s' b b' same_s same_b t = tree_edges edges sorted same root s' b' (tree_sorted sorted root s s' b b' same_s same_b t)
