-- Trees that grow: what an LSA that is put changes, and what stays.
use Rattle.std.proofs.Common.{◌≡◌, ◌≢◌, ◌↔◌, ◌++◌, ◌∷◌, ◌+◌, ◌<◌, ℕ, length, take, get_or, List, [], refl, sym, ◌∙◌, ap, subst, inl, inr, arith}
use Rattle.std.specs.List.{Contains}
use Rattle.std.proofs.lemmas.List.{take_more}
use Rattle.std.proofs.lemmas.List.Elements.{Contains-append_left, Contains-push, Contains-push_cases}
use Rattle.ospf_base.specs.Bytes.{number_at}
use Rattle.ospf_base.specs.declared.ids.Kind.{Kind}
use Rattle.ospf_base.specs.declared.ids.Kind.TheVariants as kind
use Rattle.ospf_base.specs.declared.ids.LsaKey.{LsaKey}
use Rattle.ospf_base.specs.declared.ids.RouterId.{RouterId}
use Rattle.ospf_base.specs.declared.prefix.Prefix.{Prefix}
use Rattle.ospf_lsa.specs.Listing.{IsPut}
use Rattle.ospf_lsa.specs.Lsa.{key_of, kind_of}
use Rattle.ospf_graph.specs.EdgeLists.Given.{AreEndsAt, IsEdgesOf, IsEndsOf}
use Rattle.ospf_graph.specs.EdgeLists.Listed.{advertisement_of, advertisements_of, advertisement_by}
use Rattle.ospf_graph.specs.declared.edges.end.End.{End}
use Rattle.ospf_graph.specs.Advertisements.{Advertisement, IsListed, IsNetwork, router_lsa, network_lsa}
use Rattle.ospf_graph.specs.Elsewhere.{AreSameBut, vertex_of}
use Rattle.ospf_graph.specs.Graph.{IsEdge}
use Rattle.ospf_spf.specs.IncrementalSpf.Kept.{ChangesEdges, IsKeptTree, IsSameBut, KeptTree}
use Rattle.ospf_graph.specs.Routes.{IsEnd}
use Rattle.ospf_graph.specs.Search.{AtIn, StartsIn}
use Rattle.ospf_graph.specs.Tree.{IsTree}
use Rattle.ospf_graph.specs.declared.graph.Edge.{Edge}
use Rattle.ospf_graph.specs.declared.graph.Start.{Start}
use Rattle.ospf_graph.specs.declared.graph.Vertex.{Vertex}
use Rattle.ospf_graph.specs.declared.graph.Vertex.TheVariants.{Router, Network}
use Rattle.ospf_graph.proofs.ElsewhereLemmas.{edges_elsewhere, touching_or_not}
use Rattle.ospf_graph.proofs.CandidateLemmas.{same_or_other}
use Rattle.ospf_graph.proofs.ListLemmas.{member_of_map, member_to_map}
use Rattle.ospf_graph.proofs.TreeLemmas.{IsTree-map}
use Rattle.ospf_router.specs.Ends.{ReplacesEnds}
use Rattle.ospf_spf.specs.Spared.{IsSparedPrefix}
use Rattle.ospf_router.specs.Growing.{AreGone, HasEndOf, IsGrownOver, IsTurn, IsUntouched}
use Rattle.ospf_router.specs.declared.growing.Turn.{Turn}
use Rattle.ospf_spf.proofs.RouteFrame.{IsKeptHere, kept_routes}

-- ---- the LSA that is put

-- what an LSA of a key tells of
abbrev vertex_at : LsaKey → Vertex
vertex_at key = by_kind key.kind
  where
    by_kind : Kind → Vertex
    by_kind kind.Router = Router key.router
    by_kind kind.Network = Network key.id

by_kind : (k : Kind) (lsa : List ℕ) → vertex_of (advertisement_by k lsa) ≡ vertex_at (record { kind = k; id = number_at 4 4 lsa; router = record { 0 = number_at 8 4 lsa } })
by_kind kind.Router lsa = refl
by_kind kind.Network lsa = refl

vertex_by : (lsa : List ℕ) → vertex_of (advertisement_of lsa) ≡ vertex_at (key_of lsa)
vertex_by lsa = by_kind (kind_of lsa) lsa

module _ (lsa : List ℕ) (old new : List (List ℕ)) (put : IsPut lsa old new) where
  put_in : (a : Advertisement) → (vertex_of a ≡ vertex_of (advertisement_of lsa) → ⊥) → Contains (advertisements_of old) a → Contains (advertisements_of new) a
  unfolding advertisements_of
  put_in a other h =
      let x = member_of_map advertisement_of old a h in
      let differs : key_of x.0 ≢ key_of lsa = λ same. other (ap vertex_of (sym x.2) ∙ vertex_by x.0 ∙ ap vertex_at same ∙ sym (vertex_by lsa)) in
      subst (λ y. Contains (advertisements_of new) y) x.2 (member_to_map advertisement_of new x.0 ((put x.0).1 (inr (x.1, differs))))

  put_out : (a : Advertisement) → (vertex_of a ≡ vertex_of (advertisement_of lsa) → ⊥) → Contains (advertisements_of new) a → Contains (advertisements_of old) a
  unfolding advertisements_of
  put_out a other h =
      let x = member_of_map advertisement_of new a h in
      elim ((put x.0).0 x.1) [
        | inl same ↦ absurd (other (ap vertex_of (sym x.2) ∙ ap (λ l. vertex_of (advertisement_of l)) same))
        | inr there ↦ subst (λ y. Contains (advertisements_of old) y) x.2 (member_to_map advertisement_of old x.0 there.0)
      ]

  pub put_same_but : AreSameBut (vertex_of (advertisement_of lsa)) (advertisements_of old) (advertisements_of new)
  put_same_but a other = (put_in a other, put_out a other)

-- ---- edges

module _ (old new : List (List ℕ)) (root : RouterId) (paths : KeptTree) (ends : List End) (t : Turn) (turn : IsTurn old new root paths ends t)
    (gone : List Edge) (went : AreGone t.before.edges.items t.after.edges.items gone) (edges : List Edge) (changes : ChangesEdges gone t.after.edges.items paths.edges edges) where
  -- an edge that did not go is there
  edge_in : (e : Edge) → IsEdge (advertisements_of old) e → (Contains gone e → ⊥) → IsEdge (advertisements_of new) e
  edge_in e is stays =
      elim (touching_or_not t.vertex e) [
        | inl here ↦ elim (went.all e ((turn.before_is.edges e).1 (is, here))) [
          | inl left ↦ absurd (stays left)
          | inr there ↦ ((turn.after_is.edges e).0 there).0
        ]
        | inr away ↦ (edges_elsewhere t.vertex (advertisements_of old) (advertisements_of new) turn.same e away).0 is
      ]

  edge_out : (e : Edge) → IsEdge (advertisements_of new) e → Contains edges e
  edge_out e is =
      elim (touching_or_not t.vertex e) [
        | inl here ↦ (changes e).1 (inr ((turn.after_is.edges e).1 (is, here)))
        | inr away ↦
            (let was = (edges_elsewhere t.vertex (advertisements_of old) (advertisements_of new) turn.same e away).1 is in
            let stays : Contains gone e → ⊥ = λ left. elim ((turn.before_is.edges e).0 (went.within e left)).1 [ inl from ↦ away.0 from | inr to ↦ away.1 to ] in
            (changes e).1 (inl ((turn.over.edges_are e).1 was, stays)))
      ]

  pub edges_turn : IsEdgesOf (advertisements_of new) edges
  edges_turn e = (
    λ m. elim ((changes e).0 m) [
      | inl was ↦ edge_in e ((turn.over.edges_are e).0 was.0) was.1
      | inr come ↦ ((turn.after_is.edges e).0 come).0
    ],
    edge_out e,
  )

-- one edge more, which is there
pub gone_kept : (before after gone : List Edge) (x : Edge) → Contains after x → AreGone before after gone → AreGone (before ++ x ∷ []) after gone
gone_kept before after gone x there g =
    record {
      within = λ e m. Contains-append_left before (x ∷ []) e (g.within e m);
      all = λ e m. elim (Contains-push_cases before x e m) [ inl earlier ↦ g.all e earlier | inr now ↦ inr (subst (λ y. Contains after y) now there) ];
    }

-- one edge more, which is taken for one that went
pub gone_more : (before after gone : List Edge) (x : Edge) → AreGone before after gone → AreGone (before ++ x ∷ []) after (gone ++ x ∷ [])
gone_more before after gone x g =
    record {
      within = λ e m. elim (Contains-push_cases gone x e m) [
        | inl earlier ↦ Contains-append_left before (x ∷ []) e (g.within e earlier)
        | inr now ↦ subst (λ y. Contains (before ++ x ∷ []) y) now (Contains-push before x)
      ];
      all = λ e m. elim (Contains-push_cases before x e m) [
        | inl earlier ↦ elim (g.all e earlier) [ inl left ↦ inl (Contains-append_left gone (x ∷ []) e left) | inr there ↦ inr there ]
        | inr now ↦ inl (subst (λ y. Contains (gone ++ x ∷ []) y) now (Contains-push gone x))
      ];
    }

-- the same at an index
pub gone_next : (before after gone : List Edge) (i : ℕ) (d : Edge) → i < length before → Contains after (get_or before i d) → AreGone (take i before) after gone
    → AreGone (take (i + 1) before) after gone
gone_next before after gone i d lt there g = rw (take_more before i d lt) (gone_kept (take i before) after gone (get_or before i d) there g)

pub gone_longer : (before after gone : List Edge) (i : ℕ) (d : Edge) → i < length before → AreGone (take i before) after gone
    → AreGone (take (i + 1) before) after (gone ++ get_or before i d ∷ [])
gone_longer before after gone i d lt g = rw (take_more before i d lt) (gone_more (take i before) after gone (get_or before i d) g)

-- ---- ends

module _ (v : Vertex) (A B : List Advertisement) (same : AreSameBut v A B) where
  end_stays : (p : Prefix) (w : Vertex) (c : ℕ) → w ≢ v → IsEnd A p w c → IsEnd B p w c
  end_stays p (Router r) c other h =
      let l = h.2 in
      (h.0, h.1, record { links = l.links; listed = (same (router_lsa r l.links) other).0 l.listed; link_in = l.link_in }, h.3)
  end_stays p (Network n) c other h =
      let w = h.3 in
      let there : IsNetwork B n h.1 h.2 = record {
        router = w.router;
        listed = (same (network_lsa n w.router h.1 h.2) other).0 w.listed;
        largest = λ s m others k. w.largest s m others ((same (network_lsa n s m others) other).1 k);
      } in
      (h.0, h.1, h.2, there, h.4)

turned : (v : Vertex) (A B : List Advertisement) → AreSameBut v A B → AreSameBut v B A
turned v A B same a other = ((same a other).1, (same a other).0)

pub ends_elsewhere : (v : Vertex) (A B : List Advertisement) → AreSameBut v A B → (p : Prefix) (w : Vertex) (c : ℕ) → w ≢ v → IsEnd A p w c ↔ IsEnd B p w c
ends_elsewhere v A B same p w c other = (end_stays v A B same p w c other, end_stays v B A (turned v A B same) p w c other)

-- the same ends in two lists
same_ends : (A B : List Advertisement) (v : Vertex) (before after : List End) → AreEndsAt A v before → AreEndsAt B v after → before ≡ after
    → (p : Prefix) (w : Vertex) (c : ℕ) → w ≡ v → IsEnd A p w c → IsEnd B p w c
same_ends A B v before after of_a of_b same p w c here is =
    let e : End = record { prefix = p; vertex = w; cost = c } in
    ((of_b e).0 (subst (λ l. Contains l e) same ((of_a e).1 (is, here)))).0

-- ---- trees

-- a tree by other words for its distances and starts
pub tree_as : (P : Edge → Type 0) (root : Vertex) (At At' : Vertex → ℕ → Type 0) (Starts Starts' : Vertex → Start → Type 0)
    → ((v : Vertex) (d : ℕ) → At v d ↔ At' v d) → ((v : Vertex) (x : Start) → Starts v x ↔ Starts' v x) → IsTree P root At Starts → IsTree P root At' Starts'
tree_as P root At At' Starts Starts' at starts t =
    record {
      one = λ v d k a b. t.one v d k ((at v d).1 a) ((at v k).1 b);
      root_at = (at root 0).0 t.root_at;
      root_start = (starts root _).0 t.root_start;
      path_of = λ v d a. t.path_of v d ((at v d).1 a);
      path_with = λ v x s. let p = t.path_with v x ((starts v x).1 s) in (p.0, p.1, (at v _).0 p.2, p.3);
      relaxed = λ e d is a. let k = t.relaxed e d is ((at e.from d).1 a) in (k.0, (at e.to k.0).0 k.1, k.2);
      spread = λ e d x is a b s. (starts e.to _).0 (t.spread e d x is ((at e.from d).1 a) ((at e.to _).1 b) ((starts e.from x).1 s));
    }

-- ---- the tree of a listing

pub tree_over : (root : RouterId) (lsas : List (List ℕ)) (paths : KeptTree) → paths.root ≡ Router root → IsEdgesOf (advertisements_of lsas) paths.edges → IsKeptTree paths
    → IsTree (IsEdge (advertisements_of lsas)) (Router root) (AtIn paths.settled) (StartsIn paths.starts)
tree_over root lsas paths root_is edges_are tree =
    subst (λ (r : Vertex). IsTree (IsEdge (advertisements_of lsas)) r (AtIn paths.settled) (StartsIn paths.starts)) root_is
    (IsTree-map (Contains paths.edges) (IsEdge (advertisements_of lsas)) (λ e. (edges_are e).0) (λ e. (edges_are e).1) paths.root (AtIn paths.settled) (StartsIn paths.starts) tree)

pub own_tree : (root : RouterId) (lsas : List (List ℕ)) (paths : KeptTree) (ends : List End) → IsGrownOver root lsas paths ends
    → IsTree (IsEdge (advertisements_of lsas)) (Router root) (AtIn paths.settled) (StartsIn paths.starts)
own_tree root lsas paths ends over = tree_over root lsas paths over.root_is over.edges_are over.tree

-- ---- the ends of the new listing

module _ (old new : List (List ℕ)) (root : RouterId) (paths : KeptTree) (ends : List End) (t : Turn) (turn : IsTurn old new root paths ends t) where
  end_of : Prefix → Vertex → ℕ → End
  end_of p w c = record { prefix = p; vertex = w; cost = c }

  -- an end elsewhere is one of both
  pub elsewhere : (p : Prefix) (w : Vertex) (c : ℕ) → w ≢ t.vertex → IsEnd (advertisements_of old) p w c ↔ IsEnd (advertisements_of new) p w c
  elsewhere = ends_elsewhere t.vertex (advertisements_of old) (advertisements_of new) turn.same

  module _ (same : t.before.ends.items ≡ t.after.ends.items) where
    pub end_to : (p : Prefix) (w : Vertex) (c : ℕ) → IsEnd (advertisements_of old) p w c → IsEnd (advertisements_of new) p w c
    end_to p w c is = elim (same_or_other w t.vertex) [
      | inl here ↦ same_ends (advertisements_of old) (advertisements_of new) t.vertex t.before.ends.items t.after.ends.items turn.before_is.ends turn.after_is.ends same p w c here is
      | inr other ↦ (elsewhere p w c other).0 is
    ]

    pub end_from : (p : Prefix) (w : Vertex) (c : ℕ) → IsEnd (advertisements_of new) p w c → IsEnd (advertisements_of old) p w c
    end_from p w c is = elim (same_or_other w t.vertex) [
      | inl here ↦ same_ends (advertisements_of new) (advertisements_of old) t.vertex t.after.ends.items t.before.ends.items turn.after_is.ends turn.before_is.ends (sym same) p w c here is
      | inr other ↦ (elsewhere p w c other).1 is
    ]

    -- so the list stays
    pub ends_stay : IsEndsOf (advertisements_of new) ends
    ends_stay e = (
      λ m. end_to e.prefix e.vertex e.cost ((turn.over.ends_are e).0 m),
      λ is. (turn.over.ends_are e).1 (end_from e.prefix e.vertex e.cost is),
    )

  -- with those at the vertex replaced, it is that of the new listing
  pub ends_turn : (made : List End) → ReplacesEnds t.vertex t.after.ends.items ends made → IsEndsOf (advertisements_of new) made
  ends_turn made replaces e = (
    λ m. elim ((replaces e).0 m) [
      | inl was ↦ (elsewhere e.prefix e.vertex e.cost was.1).0 ((turn.over.ends_are e).0 was.0)
      | inr come ↦ ((turn.after_is.ends e).0 come).0
    ],
    λ is. elim (same_or_other e.vertex t.vertex) [
      | inl here ↦ (replaces e).1 (inr ((turn.after_is.ends e).1 (is, here)))
      | inr other ↦ (replaces e).1 (inl ((turn.over.ends_are e).1 ((elsewhere e.prefix e.vertex e.cost other).1 is), other))
    ],
  )

  -- ---- a prefix without an end in either listing

  module _ (p : Prefix) (none_before : HasEndOf ends p → ⊥) (none_after : HasEndOf t.after.ends.items p → ⊥) where
    none_old : (w : Vertex) (c : ℕ) → IsEnd (advertisements_of old) p w c → ⊥
    none_old w c is = none_before (record { prefix = p; vertex = w; cost = c }, (turn.over.ends_are (record { prefix = p; vertex = w; cost = c })).1 is, refl)

    none_new : (w : Vertex) (c : ℕ) → IsEnd (advertisements_of new) p w c → ⊥
    none_new w c is = elim (same_or_other w t.vertex) [
      | inl here ↦ none_after (record { prefix = p; vertex = w; cost = c }, (turn.after_is.ends (record { prefix = p; vertex = w; cost = c })).1 (is, here), refl)
      | inr other ↦ none_old w c ((elsewhere p w c other).1 is)
    ]

    pub without_ends : IsSparedPrefix (advertisements_of old) (advertisements_of new) root p
    without_ends =
        record {
          routes = λ r of is. absurd (none_old is.way.end is.way.end_cost (subst (λ (q : Prefix). IsEnd (advertisements_of old) q is.way.end is.way.end_cost) of is.way.ends));
          ways = λ w. absurd (none_new w.end w.end_cost w.ends);
        }

-- ---- a prefix whose ends and vertices stay

module _ (old new : List (List ℕ)) (root : RouterId) (paths grown : KeptTree) (ends : List End) (t : Turn) (turn : IsTurn old new root paths ends t)
    (now : IsTree (IsEdge (advertisements_of new)) (Router root) (AtIn grown.settled) (StartsIn grown.starts)) (changed : List Vertex) (same : IsSameBut changed paths grown) (has_root : t.before.has_root ≡ t.after.has_root) where
  listed_to : IsListed (advertisements_of old) root → IsListed (advertisements_of new) root
  listed_to h = turn.after_is.root_is.0 (sym has_root ∙ turn.before_is.root_is.1 h)

  listed_from : IsListed (advertisements_of new) root → IsListed (advertisements_of old) root
  listed_from h = turn.before_is.root_is.0 (has_root ∙ turn.after_is.root_is.1 h)

  stays_if : (w : Vertex) (d : ℕ) → (Contains changed w → ⊥) → AtIn paths.settled w d ↔ AtIn grown.settled w d
  stays_if w d free = same.distance w d free

  none_in : (w : Vertex) → changed ≡ [] → Contains changed w → ⊥
  none_in w none m = let low = (subst (λ (vs : List Vertex). Contains vs w) none m).1 in omega arith

  module _ (p : Prefix) where
    -- the vertices of its ends that are reached are none that changed, and its ends there are the same
    kept_here : IsUntouched (advertisements_of new) changed grown.settled t p → IsKeptHere (advertisements_of old) (advertisements_of new) paths grown p
    kept_here (IsUntouched.Unreached none far) =
        record {
          to = λ w d c at is. let after = (stays_if w d (none_in w none)).0 at in elim (same_or_other w t.vertex) [
            | inl here ↦ absurd (far d (subst (λ u. AtIn grown.settled u d) here after))
            | inr other ↦ (after, (elsewhere old new root paths ends t turn p w c other).0 is)
          ];
          from = λ w d c at is. elim (same_or_other w t.vertex) [
            | inl here ↦ absurd (far d (subst (λ u. AtIn grown.settled u d) here at))
            | inr other ↦ ((stays_if w d (none_in w none)).1 at, (elsewhere old new root paths ends t turn p w c other).1 is)
          ];
          starts = λ w d c x at is. same.starts w x (none_in w none);
        }
    kept_here (IsUntouched.Unchanged alike free) =
        let end_in : (w : Vertex) (c : ℕ) → IsEnd (advertisements_of old) p w c → IsEnd (advertisements_of new) p w c = λ w c is. elim (same_or_other w t.vertex) [
          | inl here ↦ elim alike [
            | inl ends_same ↦ end_to old new root paths ends t turn ends_same p w c is
            | inr none ↦ absurd (none.0 (record { prefix = p; vertex = w; cost = c }, (turn.before_is.ends (record { prefix = p; vertex = w; cost = c })).1 (is, here), refl))
          ]
          | inr other ↦ (elsewhere old new root paths ends t turn p w c other).0 is
        ] in
        let end_out : (w : Vertex) (c : ℕ) → IsEnd (advertisements_of new) p w c → IsEnd (advertisements_of old) p w c = λ w c is. elim (same_or_other w t.vertex) [
          | inl here ↦ elim alike [
            | inl ends_same ↦ end_from old new root paths ends t turn ends_same p w c is
            | inr none ↦ absurd (none.1 (record { prefix = p; vertex = w; cost = c }, (turn.after_is.ends (record { prefix = p; vertex = w; cost = c })).1 (is, here), refl))
          ]
          | inr other ↦ (elsewhere old new root paths ends t turn p w c other).1 is
        ] in
        record {
          to = λ w d c at is. ((stays_if w d (λ m. free w c m (end_in w c is))).0 at, end_in w c is);
          from = λ w d c at is. ((stays_if w d (λ m. free w c m is)).1 at, end_out w c is);
          starts = λ w d c x at is. same.starts w x (λ m. free w c m (end_in w c is));
        }

    pub spared : IsUntouched (advertisements_of new) changed grown.settled t p → IsSparedPrefix (advertisements_of old) (advertisements_of new) root p
    spared untouched =
        kept_routes (advertisements_of old) (advertisements_of new) root paths grown (own_tree root old paths ends turn.over) now listed_to listed_from p (kept_here untouched)
