-- What is left of kept paths where edges go is a tree of the edges that are left.
use Rattle.std.proofs.Common.{◌≡◌, ◌==◌, ◌+◌, ◌<◌, ◌≤◌, ◌⊎◌, ◌↔◌, ◌&&◌, ◌∙◌, ◌^◌, ℕ, zero, suc, Bool, true, false, not, is_some, Option, Some, None, List, [], ◌∷◌, ◌++◌, length, take, get_or, refl, sym, ap, subst, inl, inr, arith, zero-add}
use Rattle.std.specs.Prelude.{IsPermutation}
use Rattle.std.specs.List.{Contains, dedup, filter, list_any}
use Rattle.std.proofs.lemmas.List.{get_or_default}
use Rattle.std.proofs.lemmas.List.Elements.{All-contains, Contains-append_left, Contains-append_right, Contains-append_cases, Contains-push, Contains-push_cases}
use Rattle.std.proofs.lemmas.List.Kept.{Contains-dedup}
use Rattle.std.proofs.lemmas.List.Sorted.{IsPermutation-sym, Contains-permutation}
use Rattle.ospf_graph.specs.declared.candidates.SpfCandidate.{SpfCandidate}
use Rattle.ospf_graph.specs.declared.graph.Edge.{Edge}
use Rattle.ospf_graph.specs.declared.graph.Start.{Start}
use Rattle.ospf_graph.specs.declared.graph.Start.TheVariants.{Here}
use Rattle.ospf_graph.specs.contracts.graph.VertexEq.TheImpl.Laws.{laws-law}
use Rattle.ospf_graph.specs.contracts.graph.VertexPartialEq.TheImpl.{eq-value}
use Rattle.ospf_graph.specs.declared.graph.Vertex.{Vertex}
use Rattle.ospf_graph.specs.declared.graph.Vertex.TheVariants.{Network, Router}
use Rattle.ospf_graph.specs.declared.paths.Settled.{Settled}
use Rattle.ospf_graph.specs.declared.paths.VertexStart.{VertexStart}
use Rattle.ospf_graph.specs.declared.reached.Reached.{Reached}
use Rattle.ospf_graph.specs.Reached.{ArePlaces, settled_of, starts_at, starts_of}
use Rattle.ospf_graph.specs.Search.{AtIn, HaveSameFrom, StartsIn, vertex_code}
use Rattle.ospf_graph.specs.Graph.{path_cost}
use Rattle.ospf_graph.specs.Tree.{IsTree, extend}
use Rattle.ospf_graph.proofs.CandidateLemmas.{code_injective}
use Rattle.ospf_graph.proofs.ListLemmas.{bool_cases, member_cases, member_head, member_later, member_of_map, member_to_map, more_members}
use Rattle.ospf_graph.proofs.ReachedLemmas.{none_some, place_at, starts_from}
use Rattle.ospf_graph.proofs.TreeLemmas.{IsPath-map, IsTree-map, at_end}
use Rattle.ospf_spf.specs.IncrementalSpf.Growth.{AreNear, HasEdge, HasStart, IsAt, IsGrowing, IsRelaxed, NoneWaits, Offers, Spares}
use Rattle.ospf_spf.specs.IncrementalSpf.Kept.{IsKeptTree, IsSameBut, KeptTree}
use Rattle.ospf_spf.specs.IncrementalSpf.Left.{AddsEdgesTo, AreBeside, AreCopies, AreEdgesTo, AreFarEnds, Copies, LeadBack, HasStartLeft, IsAtLeft, edges_without, is_anew, left_kept, same_edge}
use Rattle.ospf_spf.specs.IncrementalSpf.Shrinking.{IsClosed, TakesEdges}
use Rattle.ospf_spf.proofs.IncrementalSpf.GrowthSteps.{at_from, at_one, at_to, none_waits, settled_push, start_to, starts_push, starts_stand}
use Rattle.ospf_spf.proofs.IncrementalSpf.KeptGrowth.{same_less}
use Rattle.ospf_spf.proofs.IncrementalSpf.ShrinkLemmas.{path_stays}
use Rattle.ospf_spf.proofs.IncrementalSpf.ShrinkSteps.{from_all, gone_or_not, is_equal, is_itself}

-- ---- members of two parts of lists

filter_to : {X : Type 0} (p : X → Bool) (xs : List X) (x : X) → Contains xs x → p x ≡ true → Contains (filter p xs) x
filter_to p [] x m is = absurd (let low = m.1 in omega arith)
filter_to p (y ∷ ys) x m is =
    elim (member_cases y ys x m) [
      | inl same ↦ (let pass : p y ≡ true = rw same is in rw pass (0, omega arith, same))
      | inr later ↦ (let ih = filter_to p ys x later is in elim (bool_cases (p y)) [ inl pass ↦ rw pass (member_later y _ x ih) | inr off ↦ rw off ih ])
    ]

filter_from : {X : Type 0} (p : X → Bool) (xs : List X) (x : X) → Contains (filter p xs) x → Contains xs x × (p x ≡ true)
filter_from p [] x m = absurd (let low = m.1 in omega arith)
filter_from p (y ∷ ys) x m =
    elim (bool_cases (p y)) [
      | inl pass ↦ elim (member_cases y (filter p ys) x (rw pass at m)) [
        | inl same ↦ ((0, omega arith, same), subst (λ z. p z ≡ true) same pass)
        | inr later ↦ (let ih = filter_from p ys x later in (member_later y ys x ih.0, ih.1))
      ]
      | inr off ↦ (let ih = filter_from p ys x (rw off at m) in (member_later y ys x ih.0, ih.1))
    ]

not_true : (b : Bool) → not b ≡ true → b ≡ false
not_true true is = cc
not_true false is = refl

not_false : (b : Bool) → b ≡ false → not b ≡ true
not_false b is = ap not is

pub parts : {X : Type 0} (p : X → Bool) (xs ys : List X) (x : X)
    → Contains (filter (λ y. not (p y)) xs ++ filter p ys) x ↔ (((p x ≡ false) × Contains xs x) ⊎ ((p x ≡ true) × Contains ys x))
parts p xs ys x = (
  λ m. elim (Contains-append_cases (filter (λ y. not (p y)) xs) (filter p ys) x m) [
    | inl first ↦ (let f = filter_from (λ y. not (p y)) xs x first in inl (not_true (p x) f.1, f.0))
    | inr last ↦ (let f = filter_from p ys x last in inr (f.1, f.0))
  ],
  λ m. elim m [
    | inl a ↦ Contains-append_left (filter (λ y. not (p y)) xs) (filter p ys) x (filter_to (λ y. not (p y)) xs x a.1 (not_false (p x) a.0))
    | inr b ↦ Contains-append_right (filter (λ y. not (p y)) xs) (filter p ys) x (filter_to p ys x b.1 b.0)
  ],
)

-- ---- one of these vertices

pub among : (gone : List Vertex) (v : Vertex) → (list_any (λ w. vertex_code w == vertex_code v) gone ≡ true) ↔ Contains gone v
among [] v = (λ is. cc, λ m. absurd (let low = m.1 in omega arith))
among (w ∷ rest) v =
    elim (bool_cases (vertex_code w == vertex_code v)) [
      | inl same ↦ (
        λ is. subst (λ u. Contains (w ∷ rest) u) (code_injective w v (is_equal (vertex_code w) (vertex_code v) same)) (member_head w rest),
        λ m. rw same refl,
      )
      | inr other ↦ (
        λ is. member_later w rest v ((among rest v).0 (rw other at is)),
        λ m. elim (member_cases w rest v m) [
          | inl here ↦ absurd (let both : true ≡ false = sym (is_itself (vertex_code w)) ∙ (ap (λ u. vertex_code w == vertex_code u) here ∙ other) in cc)
          | inr later ↦ rw other ((among rest v).1 later)
        ],
      )
    ]

pub not_among : (gone : List Vertex) (v : Vertex) → (list_any (λ w. vertex_code w == vertex_code v) gone ≡ false) ↔ (Contains gone v → ⊥)
not_among gone v = (
  λ off m. (let on = (among gone v).1 m in let both : true ≡ false = sym on ∙ off in cc),
  λ free. elim (bool_cases (list_any (λ w. vertex_code w == vertex_code v) gone)) [ inl on ↦ absurd (free ((among gone v).0 on)) | inr off ↦ off ],
)

pub told_among : (gone : List Vertex) (v : Vertex) (b : Bool) → (b ≡ true) ↔ Contains gone v → b ≡ list_any (λ w. vertex_code w == vertex_code v) gone
told_among gone v true both = sym ((among gone v).1 (both.0 refl))
told_among gone v false both = sym ((not_among gone v).1 (λ m. (let on = both.1 m in cc)))

-- ---- one of these edges

both_of : (a b : Bool) → (a && b) ≡ true → (a ≡ true) × (b ≡ true)
both_of true b is = (refl, is)
both_of false b is = absurd (cc)

both_to : (a b : Bool) → a ≡ true → b ≡ true → (a && b) ≡ true
both_to a b x y = rw (x, y) refl

same_is : (a b : Edge) → same_edge a b ≡ true → a ≡ b
same_is a b is =
    let x = both_of _ _ is in
    let y = both_of _ _ x.1 in
    let z = both_of _ _ y.1 in
    let from = code_injective a.from b.from (is_equal _ _ x.0) in
    let to = code_injective a.to b.to (is_equal _ _ y.0) in
    let cost = is_equal a.cost b.cost z.0 in
    let data' = is_equal a.link_data b.link_data z.1 in
    λ i. record { from = from i; to = to i; cost = cost i; link_data = data' i }

is_same : (a : Edge) → same_edge a a ≡ true
is_same a =
    both_to _ _ (is_itself (vertex_code a.from)) (both_to _ _ (is_itself (vertex_code a.to)) (both_to _ _ (is_itself a.cost) (is_itself a.link_data)))

edge_among : (less : List Edge) (e : Edge) → (list_any (same_edge e) less ≡ true) ↔ Contains less e
edge_among [] e = (λ is. cc, λ m. absurd (let low = m.1 in omega arith))
edge_among (f ∷ rest) e =
    elim (bool_cases (same_edge e f)) [
      | inl same ↦ (
        λ is. subst (λ u. Contains (f ∷ rest) u) (sym (same_is e f same)) (member_head f rest),
        λ m. rw same refl,
      )
      | inr other ↦ (
        λ is. member_later f rest e ((edge_among rest e).0 (rw other at is)),
        λ m. elim (member_cases f rest e m) [
          | inl here ↦ absurd (let both : true ≡ false = sym (subst (λ u. same_edge e u ≡ true) (sym here) (is_same e)) ∙ other in cc)
          | inr later ↦ rw other ((edge_among rest e).1 later)
        ],
      )
    ]

-- the edges without some are all others
pub takes_without : (less edges : List Edge) → TakesEdges less edges (edges_without less edges)
takes_without less edges e = (
  λ m.
      let f = filter_from (λ x. not (list_any (same_edge x) less)) edges e m in
      (f.0, λ there. (let both : true ≡ false = sym ((edge_among less e).1 there) ∙ not_true _ f.1 in cc)),
  λ m. filter_to (λ x. not (list_any (same_edge x) less)) edges e m.0 (elim (bool_cases (list_any (same_edge e) less)) [
    | inl on ↦ absurd (m.1 ((edge_among less e).0 on))
    | inr off ↦ not_false _ off
  ]),
)

-- ---- edges that end at some vertices

module _ (some less : List Edge) (gone : List Vertex) (i : ℕ) (x : Edge) (lt : i < length some) (old ends : List Edge) (adds : AddsEdgesTo (take i some) less gone old ends) where
  pub adds_to_more : Contains gone (get_or some i x).to → (Contains less (get_or some i x) → ⊥) → AddsEdgesTo (take (i + 1) some) less gone old (ends ++ get_or some i x ∷ [])
  adds_to_more to left e = (
    λ m. elim (Contains-push_cases ends (get_or some i x) e m) [
      | inl before ↦ elim ((adds e).0 before) [ inl there ↦ inl there | inr k ↦ inr ((more_members some i x lt e).1 (inl k.0), k.1, k.2) ]
      | inr same ↦ inr ((more_members some i x lt e).1 (inr same), subst (λ f. Contains less f → ⊥) same left, subst (λ f. Contains gone f.to) same to)
    ],
    λ m. elim m [
      | inl there ↦ Contains-append_left ends (get_or some i x ∷ []) e ((adds e).1 (inl there))
      | inr k ↦ elim ((more_members some i x lt e).0 k.0) [
        | inl before ↦ Contains-append_left ends (get_or some i x ∷ []) e ((adds e).1 (inr (before, k.1, k.2)))
        | inr same ↦ subst (λ f. Contains (ends ++ get_or some i x ∷ []) f) same (Contains-push ends (get_or some i x))
      ]
    ],
  )

  pub adds_to_skip : (Contains gone (get_or some i x).to → (Contains less (get_or some i x) → ⊥) → ⊥) → AddsEdgesTo (take (i + 1) some) less gone old ends
  adds_to_skip other e = (
    λ m. elim ((adds e).0 m) [ inl there ↦ inl there | inr k ↦ inr ((more_members some i x lt e).1 (inl k.0), k.1, k.2) ],
    λ m. elim m [
      | inl there ↦ (adds e).1 (inl there)
      | inr k ↦ elim ((more_members some i x lt e).0 k.0) [
        | inl before ↦ (adds e).1 (inr (before, k.1, k.2))
        | inr same ↦ absurd (other (subst (λ f. Contains gone f.to) (sym same) k.2) (subst (λ f. Contains less f → ⊥) (sym same) k.1))
      ]
    ],
  )

-- the edges that are left and lead from some vertices to others
abbrev pub AreBetween : List Edge → List Edge → List Vertex → List Vertex → List Edge → Type 0
AreBetween edges less far gone ends = (e : Edge) → Contains ends e ↔ (Contains edges e × (Contains less e → ⊥) × Contains gone e.to × Contains far e.from)

pub between_none : (edges less : List Edge) (gone : List Vertex) → AreBetween edges less [] gone []
between_none edges less gone e = (λ m. absurd (let low = m.1 in omega arith), λ m. absurd (let low = m.3.1 in omega arith))

pub between_more : (edges less : List Edge) (far gone : List Vertex) (i : ℕ) (x : Vertex) → i < length far → (ends ends' some : List Edge) → AreBetween edges less (take i far) gone ends
    → HaveSameFrom (get_or far i x) edges some → ((e : Edge) → Contains some e → Contains edges e) → ((e : Edge) → Contains some e → e.from ≡ get_or far i x)
    → AddsEdgesTo some less gone ends ends' → AreBetween edges less (take (i + 1) far) gone ends'
between_more edges less far gone i x lt ends ends' some first same part only last e = (
  λ m. elim ((last e).0 m) [
    | inl before ↦ (let k = (first e).0 before in (k.0, k.1, k.2, (more_members far i x lt e.from).1 (inl k.3)))
    | inr k ↦ (part e k.0, k.1, k.2, (more_members far i x lt e.from).1 (inr (sym (only e k.0))))
  ],
  λ m. elim ((more_members far i x lt e.from).0 m.3) [
    | inl before ↦ (last e).1 (inl ((first e).1 (m.0, m.1, m.2, before)))
    | inr here ↦ (last e).1 (inr (from_all (get_or far i x) edges some same e m.0 (sym here), m.1, m.2))
  ],
)

-- each edge that ends at what is gone begins where one from there ends
pub between_all : (edges less : List Edge) (far gone : List Vertex) (ends sorted : List Edge) → LeadBack edges → AreFarEnds edges gone far → IsPermutation ends sorted
    → AreBetween edges less far gone ends → AreEdgesTo edges less gone sorted
between_all edges less far gone ends sorted back are perm is e = (
  λ m. (let k = (is e).0 (Contains-permutation sorted ends e (IsPermutation-sym ends sorted perm) m) in (k.0, k.1, k.2)),
  λ m.
      let b = back e m.0 in
      let begins : Contains far e.from = subst (λ v. Contains far v) b.3 (are b.0 b.1 (subst (λ v. Contains gone v) (sym b.2) m.2)) in
      Contains-permutation ends sorted e perm ((is e).1 (m.0, m.1, m.2, begins)),
)

-- the end of one more edge
pub ends_more : (some : List Edge) (i : ℕ) (x : Edge) → i < length some → (far : List Vertex) → ((e : Edge) → Contains (take i some) e → Contains far e.to)
    → (e : Edge) → Contains (take (i + 1) some) e → Contains (far ++ (get_or some i x).to ∷ []) e.to
ends_more some i x lt far added e m =
    elim ((more_members some i x lt e).0 m) [
      | inl before ↦ Contains-append_left far ((get_or some i x).to ∷ []) e.to (added e before)
      | inr here ↦ subst (λ (f : Edge). Contains (far ++ (get_or some i x).to ∷ []) f.to) here (Contains-push far (get_or some i x).to)
    ]

pub far_more : (edges : List Edge) (gone : List Vertex) (i : ℕ) (x : Vertex) → i < length gone → (far far' : List Vertex) (some : List Edge) → AreFarEnds edges (take i gone) far
    → HaveSameFrom (get_or gone i x) edges some → ((v : Vertex) → Contains far v → Contains far' v) → ((e : Edge) → Contains some e → Contains far' e.to)
    → AreFarEnds edges (take (i + 1) gone) far'
far_more edges gone i x lt far far' some first same kept added e is m =
    elim ((more_members gone i x lt e.from).0 m) [
      | inl before ↦ kept e.to (first e is before)
      | inr here ↦ added e (from_all (get_or gone i x) edges some same e is (sym here))
    ]

vertex_same : (v w : Vertex) → eq-value.it v w ≡ true → v ≡ w
vertex_same (Network a) (Network b) is = ap (λ x. Network x) (is_equal a b is)
vertex_same (Network a) (Router b) is = cc
vertex_same (Router a) (Network b) is = cc
vertex_same (Router a) (Router b) is = let same = is_equal a.0 b.0 is in ap (λ x. Router x) (λ i. record { 0 = same i })

-- in order, each once
pub far_once : (edges : List Edge) (gone far sorted : List Vertex) → IsPermutation far sorted → AreFarEnds edges gone far → AreFarEnds edges gone (dedup eq-value.it sorted)
far_once edges gone far sorted moved are e is m = Contains-dedup laws-law vertex_same sorted e.to (Contains-permutation far sorted e.to moved (are e is m))

-- ---- copies

-- what has no place is not reached
no_at : (place : ℕ → Option ℕ) (rs : List Reached) → ArePlaces place rs → (v : Vertex) (d : ℕ) → place (vertex_code v) ≡ None → IsAt rs v d → ⊥
no_at place rs are v d none at =
    let r = at_from rs v d at in
    let p = place_at place rs are r.0 r.1 in
    none_some (place (vertex_code v)) p.0 none (ap (λ w. place (vertex_code w)) (sym r.2) ∙ p.2)

-- what has a place is
at_place : (place : ℕ → Option ℕ) (rs : List Reached) → ArePlaces place rs → (v : Vertex) (k : ℕ) → place (vertex_code v) ≡ Some k → (r : Reached) → r ≡ get_or rs k r
    → (r.vertex ≡ v) × Contains rs r
at_place place rs are v k some r is =
    let f = are.found (vertex_code v) k some in
    (code_injective r.vertex v (ap (λ q. vertex_code q.vertex) is ∙ f.1 r), (k, f.0, sym is))

nth : {X : Type 0} (xs : List X) (k : ℕ) → k < length xs → (x : X) × ((d : X) → get_or xs k d ≡ x)
nth [] k lt = absurd (omega arith)
nth (x ∷ xs) zero lt = (x, λ d. refl)
nth (x ∷ xs) (suc k) lt = nth xs k (omega arith)

some_of : (o : Option ℕ) → is_some o ≡ true → (k : ℕ) × (o ≡ Some k)
some_of None is = absurd (let both : false ≡ true = is in cc)
some_of (Some k) is = (k, refl)

pub is_reached : (place : ℕ → Option ℕ) (rs : List Reached) → ArePlaces place rs → (v : Vertex) → is_some (place (vertex_code v)) ≡ true → (d : ℕ) × IsAt rs v d
is_reached place rs are v is =
    let k = some_of (place (vertex_code v)) is in
    let f = are.found (vertex_code v) k.0 k.1 in
    let r = nth rs k.0 f.0 in
    let at = at_place place rs are v k.0 k.1 r.0 (sym (r.1 r.0)) in
    (r.0.distance, at_to rs r.0 v r.0.distance at.1 at.0 refl)

module _ (place : ℕ → Option ℕ) (f own : List Reached) (are : ArePlaces place f) (v : Vertex) (c : AreCopies f own) where
  -- a vertex that is not found
  pub copies_none : place (vertex_code v) ≡ None → Copies v f own own
  copies_none none = record { copies = c; kept = λ w d m. m; only = λ w d m. inl m; copied = λ d at. absurd (no_at place f are v d none at) }

  -- one that is there
  pub copies_there : (d : ℕ) → IsAt own v d → Copies v f own own
  copies_there k there =
      record {
        copies = c;
        kept = λ w d m. m;
        only = λ w d m. inl m;
        copied = λ d at. subst (λ n. IsAt own v n) (at_one place f are v k d (c.at v k there) at) there;
      }

  module _ (k : ℕ) (some : place (vertex_code v) ≡ Some k) (one r : Reached) (is : one ≡ get_or f k one) (vertex : r.vertex ≡ one.vertex) (far : r.distance ≡ one.distance)
      (starts : r.starts.items ≡ one.starts.items) where
    one_at : one.vertex ≡ v
    one_at = (at_place place f are v k some one is).0

    one_in : Contains f one
    one_in = (at_place place f are v k some one is).1

    r_at : r.vertex ≡ v
    r_at = vertex ∙ one_at

    at_new : (w : Vertex) (d : ℕ) → IsAt (own ++ r ∷ []) w d → IsAt own w d ⊎ ((w ≡ v) × (d ≡ one.distance))
    at_new w d at =
        elim (Contains-push_cases (settled_of own) _ _ (subst (λ l. Contains l (record { vertex = w; distance = d })) (settled_push own r) at)) [
          | inl old ↦ inl old
          | inr same ↦ inr (ap (λ s. s.vertex) (sym same) ∙ r_at, ap (λ s. s.distance) (sym same) ∙ far)
        ]

    at_old : (w : Vertex) (d : ℕ) → IsAt own w d → IsAt (own ++ r ∷ []) w d
    at_old w d at =
        subst (λ l. Contains l (record { vertex = w; distance = d })) (sym (settled_push own r)) (Contains-append_left (settled_of own) _ _ at)

    start_new : (w : Vertex) (x : Start) → HasStart (own ++ r ∷ []) w x → HasStart own w x ⊎ ((w ≡ v) × Contains one.starts.items x)
    start_new w x has =
        elim (Contains-append_cases (starts_of own) (starts_at r.vertex r.starts.items) _ (subst (λ l. Contains l (record { vertex = w; start = x })) (starts_push own r) has)) [
          | inl old ↦ inl old
          | inr last ↦
              (let m = member_of_map (λ (y : Start). record { vertex = r.vertex; start = y }) r.starts.items _ last in
              inr (
                ap (λ b. b.vertex) (sym m.2) ∙ r_at,
                subst (λ l. Contains l x) starts (subst (λ y. Contains r.starts.items y) (ap (λ b. b.start) m.2) m.1),
              ))
        ]

    start_old : (w : Vertex) (x : Start) → HasStart own w x → HasStart (own ++ r ∷ []) w x
    start_old w x has = subst (λ l. Contains l (record { vertex = w; start = x })) (sym (starts_push own r)) (Contains-append_left (starts_of own) _ _ has)

    start_last : (x : Start) → Contains one.starts.items x → HasStart (own ++ r ∷ []) v x
    start_last x has =
        let in_r : Contains r.starts.items x = subst (λ l. Contains l x) (sym starts) has in
        let there = member_to_map (λ (y : Start). record { vertex = r.vertex; start = y }) r.starts.items x in_r in
        subst (λ w. HasStart (own ++ r ∷ []) w x) r_at
        (subst (λ l. Contains l (record { vertex = r.vertex; start = x })) (sym (starts_push own r)) (Contains-append_right (starts_of own) (starts_at r.vertex r.starts.items) _ there))

    one_far : IsAt f v one.distance
    one_far = at_to f one v one.distance one_in one_at refl

    pub copies_more : Copies v f own (own ++ r ∷ [])
    copies_more =
        record {
          copies = record {
            at = λ w d at. elim (at_new w d at) [
              | inl old ↦ c.at w d old
              | inr here ↦ subst (λ u. IsAt f u d) (sym here.0) (subst (λ n. IsAt f v n) (sym here.1) one_far)
            ];
            starts = λ w x has. elim (start_new w x has) [
              | inl old ↦ c.starts w x old
              | inr here ↦ subst (λ u. HasStart f u x) (sym here.0) (start_to f one v x one_in one_at here.1)
            ];
            whole = λ w d x at has. elim (at_new w d at) [
              | inl old ↦ start_old w x (c.whole w d x old has)
              | inr here ↦ subst (λ u. HasStart (own ++ r ∷ []) u x) (sym here.0)
                  (start_last x ((starts_stand place f are v k some one is x).1 (subst (λ u. HasStart f u x) here.0 has)))
            ];
          };
          kept = at_old;
          only = λ w d at. elim (at_new w d at) [ inl old ↦ inl old | inr here ↦ inr here.0 ];
          copied = λ d at.
              let same : d ≡ one.distance = at_one place f are v d one.distance at one_far in
              subst (λ n. IsAt (own ++ r ∷ []) v n) (sym same)
              (subst (λ l. Contains l (record { vertex = v; distance = one.distance })) (sym (settled_push own r))
              (subst (λ s. Contains (settled_of own ++ record { vertex = r.vertex; distance = r.distance } ∷ []) s)
              (λ i. record { vertex = r_at i; distance = far i }) (Contains-push (settled_of own) (record { vertex = r.vertex; distance = r.distance }))));
        }

-- copies are as near
pub near_copies : (f own : List Reached) → AreCopies f own → AreNear f → AreNear own
near_copies f own c near k x within =
    let s = get_or (settled_of own) k x in
    All-contains (λ y. y.distance < 2 ^ 63) (settled_of f) (record { vertex = s.vertex; distance = s.distance }) near
    (c.at s.vertex s.distance (k, within, get_or_default (settled_of own) k _ x within))

-- the root is copied first
pub beside_root : (f : List Reached) (root : Vertex) (gone : List Vertex) (own : List Reached) → Copies root f [] own → AreBeside f root [] gone own
beside_root f root gone own c =
    record {
      copies = c.copies;
      root_in = c.copied;
      begins = λ e d none free at. absurd (let low = none.1 in omega arith);
      free = λ stays v d at mark. elim (c.only v d at) [
        | inl none ↦ absurd (let low = none.1 in omega arith)
        | inr same ↦ stays (subst (λ w. Contains gone w) same mark)
      ];
    }

module _ (f : List Reached) (root : Vertex) (some : List Edge) (gone : List Vertex) (i : ℕ) (x : Edge) (lt : i < length some) (own : List Reached)
    (b : AreBeside f root (take i some) gone own) where
  pub beside_more : (own' : List Reached) → (Contains gone (get_or some i x).from → ⊥) → Copies (get_or some i x).from f own own' → AreBeside f root (take (i + 1) some) gone own'
  beside_more own' free c =
      record {
        copies = c.copies;
        root_in = λ d at. c.kept root d (b.root_in d at);
        begins = λ e d m other at. elim ((more_members some i x lt e).0 m) [
          | inl before ↦ c.kept e.from d (b.begins e d before other at)
          | inr here ↦ subst (λ w. IsAt own' w d) (ap (λ g. g.from) here) (c.copied d (subst (λ w. IsAt f w d) (ap (λ g. g.from) (sym here)) at))
        ];
        free = λ stays v d at mark. elim (c.only v d at) [ inl old ↦ b.free stays v d old mark | inr same ↦ free (subst (λ w. Contains gone w) same mark) ];
      }

  pub beside_skip : Contains gone (get_or some i x).from → AreBeside f root (take (i + 1) some) gone own
  beside_skip mark =
      record {
        copies = b.copies;
        root_in = b.root_in;
        begins = λ e d m other at. elim ((more_members some i x lt e).0 m) [
          | inl before ↦ b.begins e d before other at
          | inr here ↦ absurd (other (subst (λ w. Contains gone w) (ap (λ g. g.from) here) mark))
        ];
        free = b.free;
      }

-- ---- trees

-- a tree told in other words
pub tree_same : (P : Edge → Type 0) (root : Vertex) (At At' : Vertex → ℕ → Type 0) (Starts Starts' : Vertex → Start → Type 0)
    → ((v : Vertex) (d : ℕ) → At v d ↔ At' v d) → ((v : Vertex) (x : Start) → Starts v x ↔ Starts' v x) → IsTree P root At Starts → IsTree P root At' Starts'
tree_same P root At At' Starts Starts' at starts t =
    record {
      one = λ v d k p q. t.one v d k ((at v d).1 p) ((at v k).1 q);
      root_at = (at root 0).0 t.root_at;
      root_start = (starts root Here).0 t.root_start;
      path_of = λ v d p. t.path_of v d ((at v d).1 p);
      path_with = λ v x h. let p = t.path_with v x ((starts v x).1 h) in (p.0, p.1, (at v _).0 p.2, p.3);
      relaxed = λ e d is p. let r = t.relaxed e d is ((at e.from d).1 p) in (r.0, (at e.to r.0).0 r.1, r.2);
      spread = λ e d x is p q h. (starts e.to _).0 (t.spread e d x is ((at e.from d).1 p) ((at e.to _).1 q) ((starts e.from x).1 h));
    }

-- who has a start is reached
start_at : (rs : List Reached) (v : Vertex) (x : Start) → HasStart rs v x → (d : ℕ) × IsAt rs v d
start_at rs v x has = let s = starts_from rs _ has in (s.0.distance, at_to rs s.0 v s.0.distance s.1 s.2 refl)

module _ (edges less left inner : List Edge) (root : Vertex) (f : List Reached) (gone : List Vertex) (t : IsTree (Contains edges) root (IsAt f) (HasStart f))
    (takes : TakesEdges less edges left) (closed : IsClosed (Contains edges) (Contains left) root (IsAt f) (Contains gone)) (ends : AreEdgesTo edges less gone inner) where
  seen_left : (e : Edge) → Contains inner e → Contains left e
  seen_left e is = let k = (ends e).0 is in (takes e).1 (k.0, k.1)

  -- beside what is gone the edges that end there wait
  pub beside_grows : (own : List Reached) (none waits : List SpfCandidate) → none ≡ [] → AreBeside f root inner gone own → Offers inner (IsAt own) (HasStart own) none waits
      → IsGrowing (Contains left) (Contains inner) root (IsAt own) (HasStart own) (HasEdge waits)
  beside_grows own none waits empty b offers =
      let c = b.copies in
      let here : IsAt own root 0 = b.root_in 0 t.root_at in
      record {
        one = λ v d k p q. t.one v d k (c.at v d p) (c.at v k q);
        root_at = here;
        root_start = c.whole root 0 Here here t.root_start;
        path_of = λ v d at.
            let p = t.path_of v d (c.at v d at) in
            let end : IsAt f v (path_cost p.0) = rw (← p.2) at (c.at v d at) in
            (p.0, (path_stays (Contains edges) (Contains left) root (IsAt f) (HasStart f) t (Contains gone) closed p.0 root v 0 p.1 t.root_at (rw zero-add end) (b.free closed.stays v d at)).1, p.2);
        path_with = λ v x has.
            let p = t.path_with v x (c.starts v x has) in
            let s = start_at own v x has in
            let same : s.0 ≡ path_cost p.0 = t.one v s.0 _ (c.at v s.0 s.1) p.2 in (
              p.0,
              (path_stays (Contains edges) (Contains left) root (IsAt f) (HasStart f) t (Contains gone) closed p.0 root v 0 p.1 t.root_at (rw zero-add p.2) (b.free closed.stays v s.0 s.1)).1,
              subst (λ k. IsAt own v k) same s.1,
              p.3,
            );
        within = seen_left;
        waiting = λ e w. elim (offers.only e w) [ inl h ↦ absurd (none_waits none empty e h) | inr m ↦ seen_left e m ];
        owed = λ e d is at. offers.owed e d is at;
      }

  module _ (own : List Reached) (g : IsGrowing (Contains left) (Contains inner) root (IsAt own) (HasStart own) NoneWaits)
      (at_beside : (e : Edge) (d : ℕ) → Contains inner e → (Contains gone e.from → ⊥) → IsAt f e.from d → IsAt own e.from d)
      (start_beside : (e : Edge) (d : ℕ) (x : Start) → Contains inner e → (Contains gone e.from → ⊥) → IsAt f e.from d → HasStart f e.from x → HasStart own e.from x) where
    old_edge : (e : Edge) → Contains left e → Contains edges e
    old_edge e is = ((takes e).0 is).0

    inside : (e : Edge) → Contains left e → Contains gone e.to → Contains inner e
    inside e is to = let k = (takes e).0 is in (ends e).1 (k.0, k.1, to)

    -- nothing is found nearer than it was
    farther : (v : Vertex) (d : ℕ) → IsAt own v d → (k : ℕ) × IsAt f v k × (k ≤ d)
    farther v d at =
        let p = g.path_of v d at in
        let leads = IsPath-map (Contains left) (Contains edges) old_edge p.0 root v p.1 in
        let q = at_end (Contains edges) root (IsAt f) (HasStart f) t p.0 root v 0 leads t.root_at in
        (q.0, q.1, (let a = q.2 in let b = p.2 in omega arith))

    at_own : (e : Edge) (d : ℕ) → Contains inner e → IsAtLeft gone f own e.from d → IsAt own e.from d
    at_own e d is at = elim at [ inl stays ↦ at_beside e d is stays.0 stays.1 | inr went ↦ went.1 ]

    start_own : (e : Edge) (d : ℕ) (x : Start) → Contains inner e → IsAtLeft gone f own e.from d → HasStartLeft gone f own e.from x → HasStart own e.from x
    start_own e d x is at has =
        elim has [
          | inl stays ↦ elim at [ inl here ↦ start_beside e d x is stays.0 here.1 stays.1 | inr went ↦ absurd (stays.0 went.0) ]
          | inr went ↦ went.1
        ]

    relaxed_in : (e : Edge) (d : ℕ) → Contains left e → IsAtLeft gone f own e.from d → Contains gone e.to → IsRelaxed (IsAt own) (HasStart own) e d
    relaxed_in e d is at to = let i = inside e is to in elim (g.owed e d i (at_own e d i at)) [ inl waits ↦ absurd waits | inr r ↦ r ]

    relaxed_out : (e : Edge) (d : ℕ) → Contains left e → IsAtLeft gone f own e.from d → (Contains gone e.to → ⊥) → (k : ℕ) × IsAtLeft gone f own e.to k × (k ≤ d + e.cost)
    relaxed_out e d is at free =
        elim at [
          | inl stays ↦ (let r = t.relaxed e d (old_edge e is) stays.1 in (r.0, inl (free, r.1), r.2))
          | inr went ↦
              (let w = farther e.from d went.1 in
              let r = t.relaxed e w.0 (old_edge e is) w.1 in
              (r.0, inl (free, r.1), (let a = r.2 in let b = w.2 in omega arith)))
        ]

    spread_out : (e : Edge) (d : ℕ) (x : Start) → Contains left e → IsAtLeft gone f own e.from d → IsAt f e.to (d + e.cost) → (Contains gone e.to → ⊥)
        → HasStartLeft gone f own e.from x → HasStart f e.to (extend x e.to e.link_data)
    spread_out e d x is at end free has =
        elim at [
          | inl stays ↦ elim has [ inl here ↦ t.spread e d x (old_edge e is) stays.1 end here.1 | inr went ↦ absurd (stays.0 went.0) ]
          | inr went ↦
              (let w = farther e.from d went.1 in
              let r = t.relaxed e w.0 (old_edge e is) w.1 in
              let same : r.0 ≡ d + e.cost = t.one e.to r.0 (d + e.cost) r.1 end in
              let level : w.0 ≡ d = (let a = r.2 in let b = w.2 in omega arith) in
              absurd (free (closed.spreads e d (old_edge e is) (subst (λ k. IsAt f e.from k) level w.1) end went.0)))
        ]

    pub tree_regrown : IsTree (Contains left) root (IsAtLeft gone f own) (HasStartLeft gone f own)
    tree_regrown =
        record {
          one = λ v d k p q. elim p [
            | inl a ↦ elim q [ inl b ↦ t.one v d k a.1 b.1 | inr b ↦ absurd (a.0 b.0) ]
            | inr a ↦ elim q [ inl b ↦ absurd (b.0 a.0) | inr b ↦ g.one v d k a.1 b.1 ]
          ];
          root_at = inl (closed.stays, t.root_at);
          root_start = inl (closed.stays, t.root_start);
          path_of = λ v d p. elim p [
            | inl a ↦
                (let q = t.path_of v d a.1 in
                let end : IsAt f v (path_cost q.0) = rw (← q.2) at a.1 in
                (q.0, (path_stays (Contains edges) (Contains left) root (IsAt f) (HasStart f) t (Contains gone) closed q.0 root v 0 q.1 t.root_at (rw zero-add end) a.0).1, q.2))
            | inr a ↦ g.path_of v d a.1
          ];
          path_with = λ v x h. elim h [
            | inl a ↦
                (let q = t.path_with v x a.1 in
                (q.0, (path_stays (Contains edges) (Contains left) root (IsAt f) (HasStart f) t (Contains gone) closed q.0 root v 0 q.1 t.root_at (rw zero-add q.2) a.0).1, inl (a.0, q.2), q.3))
            | inr a ↦ (let q = g.path_with v x a.1 in (q.0, q.1, inr (a.0, q.2), q.3))
          ];
          relaxed = λ e d is at. elim (gone_or_not gone e.to) [
            | inl to ↦ elim (relaxed_in e d is at to) [
              | inl near ↦ (near.0, inr (to, near.2), (let lt = near.1 in omega arith))
              | inr level ↦ (d + e.cost, inr (to, level.0), omega arith)
            ]
            | inr free ↦ relaxed_out e d is at free
          ];
          spread = λ e d x is at end has. elim (gone_or_not gone e.to) [
            | inl to ↦ elim (relaxed_in e d is at to) [
              | inl near ↦ elim end [
                | inl b ↦ absurd (b.0 to)
                | inr b ↦ absurd (let same = g.one e.to near.0 (d + e.cost) near.2 b.1 in let lt = near.1 in omega arith)
              ]
              | inr level ↦ inr (to, level.1 x (start_own e d x (inside e is to) at has))
            ]
            | inr free ↦ elim end [ inl b ↦ inl (free, spread_out e d x is at b.1 free has) | inr b ↦ absurd (free b.0) ]
          ];
        }

  -- the same where what was beside stays, and only what is gone was found anew
  pub regrows : (old own : List Reached) (touched : List Vertex) → AreBeside f root inner gone old → Spares touched old own
      → ((v : Vertex) → Contains touched v → Contains gone v) → IsGrowing (Contains left) (Contains inner) root (IsAt own) (HasStart own) NoneWaits
      → IsTree (Contains left) root (IsAtLeft gone f own) (HasStartLeft gone f own)
  regrows old own touched b s all g =
      tree_regrown own g (λ e d is free at. s.at_in e.from d (λ m. free (all e.from m)) (b.begins e d is free at))
      (λ e d x is free at has. s.starts_in e.from x (λ m. free (all e.from m)) (b.copies.whole e.from d x (b.begins e d is free at) has))

-- ---- as they are kept

module _ (root : Vertex) (edges less : List Edge) (f own : List Reached) (gone : List Vertex) where
  abbrev whole : KeptTree
  whole = record { root = root; edges = edges; settled = settled_of f; starts = starts_of f }

  at_left : (v : Vertex) (d : ℕ) → IsAtLeft gone f own v d ↔ AtIn (left_kept whole less false gone own).settled v d
  at_left v d =
      let both = parts (λ (s : Settled). is_anew false gone s.vertex) (settled_of f) (settled_of own) (record { vertex = v; distance = d }) in (
        λ at. both.1 (elim at [ inl a ↦ inl ((not_among gone v).1 a.0, a.1) | inr b ↦ inr ((among gone v).1 b.0, b.1) ]),
        λ at. elim (both.0 at) [ inl a ↦ inl ((not_among gone v).0 a.0, a.1) | inr b ↦ inr ((among gone v).0 b.0, b.1) ],
      )

  start_left : (v : Vertex) (x : Start) → HasStartLeft gone f own v x ↔ StartsIn (left_kept whole less false gone own).starts v x
  start_left v x =
      let both = parts (λ (b : VertexStart). is_anew false gone b.vertex) (starts_of f) (starts_of own) (record { vertex = v; start = x }) in (
        λ has. both.1 (elim has [ inl a ↦ inl ((not_among gone v).1 a.0, a.1) | inr b ↦ inr ((among gone v).1 b.0, b.1) ]),
        λ has. elim (both.0 has) [ inl a ↦ inl ((not_among gone v).0 a.0, a.1) | inr b ↦ inr ((among gone v).0 b.0, b.1) ],
      )

  -- beside the whole
  pub kept_beside : IsTree (Contains (edges_without less edges)) root (IsAtLeft gone f own) (HasStartLeft gone f own) → IsKeptTree (left_kept whole less false gone own)
  kept_beside t =
      tree_same (Contains (edges_without less edges)) root (IsAtLeft gone f own) (AtIn (left_kept whole less false gone own).settled) (HasStartLeft gone f own)
      (StartsIn (left_kept whole less false gone own).starts) at_left start_left t

  pub same_beside : (changed : List Vertex) → ((v : Vertex) → Contains gone v → Contains changed v) → IsSameBut changed whole (left_kept whole less false gone own)
  same_beside changed named =
      record {
        distance = λ v d other. (
          λ at. (at_left v d).0 (inl (λ m. other (named v m), at)),
          λ at. elim ((at_left v d).1 at) [ inl a ↦ a.1 | inr b ↦ absurd (other (named v b.0)) ],
        );
        starts = λ v x other. (
          λ has. (start_left v x).0 (inl (λ m. other (named v m), has)),
          λ has. elim ((start_left v x).1 has) [ inl a ↦ a.1 | inr b ↦ absurd (other (named v b.0)) ],
        );
      }

  at_all : (v : Vertex) (d : ℕ) → IsAt own v d ↔ AtIn (left_kept whole less true gone own).settled v d
  at_all v d =
      let both = parts (λ (s : Settled). is_anew true gone s.vertex) (settled_of f) (settled_of own) (record { vertex = v; distance = d }) in (
        λ at. both.1 (inr (refl, at)),
        λ at. elim (both.0 at) [ inl a ↦ absurd (let off = a.0 in cc) | inr b ↦ b.1 ],
      )

  start_all : (v : Vertex) (x : Start) → HasStart own v x ↔ StartsIn (left_kept whole less true gone own).starts v x
  start_all v x =
      let both = parts (λ (b : VertexStart). is_anew true gone b.vertex) (starts_of f) (starts_of own) (record { vertex = v; start = x }) in (
        λ has. both.1 (inr (refl, has)),
        λ has. elim (both.0 has) [ inl a ↦ absurd (let off = a.0 in cc) | inr b ↦ b.1 ],
      )

  -- all anew
  pub kept_anew : (left : List Edge) → TakesEdges less edges left → IsTree (Contains left) root (IsAt own) (HasStart own) → IsKeptTree (left_kept whole less true gone own)
  kept_anew left takes t =
      let all = takes_without less edges in
      tree_same (Contains (edges_without less edges)) root (IsAt own) (AtIn (left_kept whole less true gone own).settled) (HasStart own)
      (StartsIn (left_kept whole less true gone own).starts) at_all start_all
      (IsTree-map (Contains left) (Contains (edges_without less edges)) (λ e m. (all e).1 ((takes e).0 m)) (λ e m. (takes e).1 ((all e).0 m)) root (IsAt own) (HasStart own) t)

  pub same_anew_left : (changed : List Vertex) → IsTree (Contains edges) root (IsAt f) (HasStart f) → IsKeptTree (left_kept whole less true gone own)
      → ((v : Vertex) (d : ℕ) → (Contains changed v → ⊥) → IsAt f v d → ⊥) → IsSameBut changed whole (left_kept whole less true gone own)
  same_anew_left changed t t' never =
      same_less changed whole (left_kept whole less true gone own) t t' refl (λ e m. ((takes_without less edges e).0 m).0) never

-- ---- as they are told

module _ (whole : KeptTree) (less : List Edge) (is_all : Bool) (gone : List Vertex) (own : List Reached) (v : Vertex) where
  abbrev told : KeptTree
  told = left_kept whole less is_all gone own

  pub distance_anew : is_anew is_all gone v ≡ true → (r : Option ℕ) → ((d : ℕ) → (r ≡ Some d) ↔ IsAt own v d) → (d : ℕ) → (r ≡ Some d) ↔ AtIn told.settled v d
  distance_anew on r is d =
      let both = parts (λ (s : Settled). is_anew is_all gone s.vertex) whole.settled (settled_of own) (record { vertex = v; distance = d }) in (
        λ some. both.1 (inr (on, (is d).0 some)),
        λ at. elim (both.0 at) [ inl a ↦ absurd (let off : true ≡ false = sym on ∙ a.0 in cc) | inr b ↦ (is d).1 b.1 ],
      )

  pub distance_kept : is_anew is_all gone v ≡ false → (r : Option ℕ) → ((d : ℕ) → (r ≡ Some d) ↔ AtIn whole.settled v d) → (d : ℕ) → (r ≡ Some d) ↔ AtIn told.settled v d
  distance_kept off r is d =
      let both = parts (λ (s : Settled). is_anew is_all gone s.vertex) whole.settled (settled_of own) (record { vertex = v; distance = d }) in (
        λ some. both.1 (inl (off, (is d).0 some)),
        λ at. elim (both.0 at) [ inl a ↦ (is d).1 a.1 | inr b ↦ absurd (let on : true ≡ false = sym b.0 ∙ off in cc) ],
      )

  pub starts_anew : is_anew is_all gone v ≡ true → (xs : List Start) → ((x : Start) → Contains xs x ↔ HasStart own v x) → (x : Start) → Contains xs x ↔ StartsIn told.starts v x
  starts_anew on xs is x =
      let both = parts (λ (b : VertexStart). is_anew is_all gone b.vertex) whole.starts (starts_of own) (record { vertex = v; start = x }) in (
        λ m. both.1 (inr (on, (is x).0 m)),
        λ has. elim (both.0 has) [ inl a ↦ absurd (let off : true ≡ false = sym on ∙ a.0 in cc) | inr b ↦ (is x).1 b.1 ],
      )

  pub starts_kept : is_anew is_all gone v ≡ false → (xs : List Start) → ((x : Start) → Contains xs x ↔ StartsIn whole.starts v x) → (x : Start) → Contains xs x ↔ StartsIn told.starts v x
  starts_kept off xs is x =
      let both = parts (λ (b : VertexStart). is_anew is_all gone b.vertex) whole.starts (starts_of own) (record { vertex = v; start = x }) in (
        λ m. both.1 (inl (off, (is x).0 m)),
        λ has. elim (both.0 has) [ inl a ↦ (is x).1 a.1 | inr b ↦ absurd (let on : true ≡ false = sym b.0 ∙ off in cc) ],
      )
