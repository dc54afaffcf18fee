-- Ends of which those at a vertex are replaced, and prefixes that are touched.
use Rattle.std.proofs.Common.{◌≡◌, ◌≢◌, ◌↔◌, ◌⊎◌, ◌+◌, ◌++◌, ◌<◌, ◌∷◌, ℕ, Bool, true, false, not, List, [], length, take, get_or, refl, ap, subst, ◌∙◌, inl, inr, arith}
use Rattle.std.specs.List.{Contains, filter}
use Rattle.std.proofs.lemmas.List.Elements.{Contains-append_left, Contains-push}
use Rattle.ospf_base.specs.declared.prefix.Prefix.{Prefix}
use Rattle.ospf_graph.specs.declared.edges.end.End.{End}
use Rattle.ospf_graph.proofs.CandidateLemmas.{same_or_other, vertex_eq-refl, vertex_eq-same}
use Rattle.ospf_graph.proofs.ListLemmas.{more_members}
use Rattle.ospf_graph.specs.Search.{vertex_eq}
use Rattle.ospf_graph.specs.declared.graph.Vertex.{Vertex}
use Rattle.ospf_graph.specs.Adds.{Adds}
use Rattle.ospf_router.specs.Ends.{HoldsEndsAt, HoldsPrefixes, LeavesEnds, ReplacesEnds}
use Rattle.ospf_router.specs.Growing.{HasEndOf}
use Rattle.ospf_spf.proofs.TurnLemmas.{filter_from, filter_to}

module _ (v : Vertex) (at old : List End) where
  pub leaves_others : LeavesEnds v at old (filter (λ e. not (vertex_eq e.vertex v)) old)
  leaves_others = record {
    kept = λ e m other. filter_to (λ (x : End). not (vertex_eq x.vertex v)) old e m (ap not (by e (vertex_eq e.vertex v) refl other));
    only = λ e m.
        let r = filter_from (λ (x : End). not (vertex_eq x.vertex v)) old e m in (
          r.0,
          inl (λ same.
              let yes' : vertex_eq e.vertex v ≡ true = subst (λ (w : Vertex). vertex_eq e.vertex w ≡ true) same (vertex_eq-refl e.vertex) in
              let no' : not (vertex_eq e.vertex v) ≡ false = ap not yes' in
              let is = r.1 in cc),
        );
  }
    where
      by : (e : End) (b : Bool) → vertex_eq e.vertex v ≡ b → (e.vertex ≢ v) → vertex_eq e.vertex v ≡ false
      by e true is other = absurd (other (vertex_eq-same e.vertex v is))
      by e false is other = is

  pub leaves_all : (were : List End) → HoldsEndsAt v were old → ((e : End) → Contains were e → Contains at e) → LeavesEnds v at old old
  leaves_all were holds among = record {
    kept = λ e m other. m;
    only = λ e m. (m, elim (same_or_other e.vertex v) [ inl here ↦ inr (among e (holds e m here)) | inr other ↦ inl other ]);
  }

  pub replaced : (mid new : List End) → LeavesEnds v at old mid → Adds (Contains at) mid new → ReplacesEnds v at old new
  replaced mid new leaves adds e = (
    λ m. elim ((adds e).0 m) [
      | inl left ↦ (let l = leaves.only e left in elim l.1 [ inl other ↦ inl (l.0, other) | inr there ↦ inr there ])
      | inr came ↦ inr came
    ],
    λ m. elim m [ inl was ↦ (adds e).1 (inl (leaves.kept e was.0 was.1)) | inr came ↦ (adds e).1 (inr came) ],
  )

pub adds_none : (ends : List End) → Adds (Contains []) ends ends
adds_none ends e = (λ m. inl m, λ m. elim m [ inl there ↦ there | inr none ↦ absurd (let low = none.1 in omega arith) ])

pub adds_more : (more : List End) (i : ℕ) (x : End) (old mid new : List End) → i < length more → Adds (Contains (take i more)) old mid
    → ((e : End) → Contains new e ↔ (Contains mid e ⊎ (get_or more i x ≡ e))) → Adds (Contains (take (i + 1) more)) old new
adds_more more i x old mid new lt first last e = (
  λ m. elim ((last e).0 m) [
    | inl before ↦ elim ((first e).0 before) [ inl o ↦ inl o | inr n ↦ inr ((more_members more i x lt e).1 (inl n)) ]
    | inr same ↦ inr ((more_members more i x lt e).1 (inr same))
  ],
  λ m. elim m [
    | inl o ↦ (last e).1 (inl ((first e).1 (inl o)))
    | inr n ↦ elim ((more_members more i x lt e).0 n) [ inl before ↦ (last e).1 (inl ((first e).1 (inr before))) | inr same ↦ (last e).1 (inr same) ]
  ],
)

-- one that is there is not added
pub adds_there : (ends : List End) (x : End) → Contains ends x → (e : End) → Contains ends e ↔ (Contains ends e ⊎ (x ≡ e))
adds_there ends x there e = (λ m. inl m, λ m. elim m [ inl is ↦ is | inr same ↦ subst (λ (y : End). Contains ends y) same there ])

-- of one end more it is told that it is among others
pub among_more : (some others : List End) (i : ℕ) (x : End) → i < length some → ((e : End) → Contains (take i some) e → Contains others e) → Contains others (get_or some i x)
    → (e : End) → Contains (take (i + 1) some) e → Contains others e
among_more some others i x lt first there e m =
    elim ((more_members some i x lt e).0 m) [ inl before ↦ first e before | inr same ↦ subst (λ (y : End). Contains others y) same there ]

-- ---- prefixes

pub holds_push : (old mid : List Prefix) (p : Prefix) → HoldsPrefixes old mid → HoldsPrefixes old (mid ++ p ∷ [])
holds_push old mid p holds q m = Contains-append_left mid (p ∷ []) q (holds q m)

pub touched_more : (ends : List End) (i : ℕ) (x : End) (mid : List Prefix) → i < length ends → ((p : Prefix) → HasEndOf (take i ends) p → Contains mid p)
    → (p : Prefix) → HasEndOf (take (i + 1) ends) p → Contains (mid ++ (get_or ends i x).prefix ∷ []) p
touched_more ends i x mid lt first p h = elim ((more_members ends i x lt h.0).0 h.1) [
  | inl before ↦ Contains-append_left mid ((get_or ends i x).prefix ∷ []) p (first p (h.0, before, h.2))
  | inr same ↦ subst (λ (q : Prefix). Contains (mid ++ (get_or ends i x).prefix ∷ []) q) (ap (λ (e : End). e.prefix) same ∙ h.2) (Contains-push mid (get_or ends i x).prefix)
]
