-- A table that is made that of other LSAs, prefix by prefix.
use Rattle.std.proofs.Common.{◌≡◌, ◌≢◌, ◌⊎◌, ◌↔◌, ◌++◌, ◌∷◌, suc, Bool, true, false, List, [], IsTrue, cond, refl, sym, ap, subst, ◌∙◌, inl, inr, arith}
use Rattle.std.specs.List.{AllPairs, Contains, filter}
use Rattle.std.proofs.lemmas.List.Elements.{All-contains, Contains-append_cases, Contains-append_left, Contains-append_right, Contains-get_or, Contains-push_cases}
use Rattle.ospf_base.specs.declared.ids.RouterId.{RouterId}
use Rattle.ospf_base.specs.declared.prefix.Prefix.{Prefix}
use Rattle.ospf_base.specs.Prefixes.{IsPrefixBefore}
use Rattle.ospf_graph.proofs.ListLemmas.{member_cases, member_head, member_later}
use Rattle.ospf_graph.proofs.TableLemmas.{same_route, sorted_unique}
use Rattle.ospf_graph.specs.Advertisements.{Advertisement}
use Rattle.ospf_graph.specs.Routes.{IsRoute, IsRouteBefore, IsTable, Way}
use Rattle.ospf_graph.specs.declared.route.Route.{Route}
use Rattle.ospf_spf.proofs.EditLemmas.{told}
use Rattle.ospf_spf.proofs.OrderLemmas.{changed_table, put_at, three_orders}
use Rattle.ospf_spf.proofs.PrefixOrder.{prefixes_told}
use Rattle.ospf_spf.specs.Changes.{PutsHops, Reaches, changed, prefix_of, put_of, stands_before}
use Rattle.ospf_spf.specs.Spared.{IsRight, SparesBut}
use Rattle.ospf_spf.specs.Table.{IsInOrder}
use Rattle.ospf_spf.specs.declared.changes.Change.{Change}
use Rattle.ospf_spf.specs.declared.changes.Change.TheVariants.{Put, Gone}

-- what a filter keeps
module _ {X : Type 0} (p : X → Bool) where
  pub filter_from : (xs : List X) (x : X) → Contains (filter p xs) x → Contains xs x × (p x ≡ true)
  filter_from [] x m = absurd (let low = m.1 in omega arith)
  filter_from (y ∷ ys) x m = by (p y) refl m (filter_from ys x)
    where
      by : (b : Bool) → p y ≡ b → Contains (cond b (y ∷ filter p ys) (filter p ys)) x → (Contains (filter p ys) x → Contains ys x × (p x ≡ true)) → Contains (y ∷ ys) x × (p x ≡ true)
      by true is m rest = elim (member_cases y (filter p ys) x m) [
        | inl same ↦ (subst (λ z. Contains (y ∷ ys) z) same (member_head y ys), ap p (sym same) ∙ is)
        | inr later ↦ (let r = rest later in (member_later y ys x r.0, r.1))
      ]
      by false is m rest = let r = rest m in (member_later y ys x r.0, r.1)

  pub filter_to : (xs : List X) (x : X) → Contains xs x → p x ≡ true → Contains (filter p xs) x
  filter_to [] x m is = absurd (let low = m.1 in omega arith)
  filter_to (y ∷ ys) x m is = by (p y) refl (λ later. filter_to ys x later is)
    where
      by : (b : Bool) → p y ≡ b → (Contains ys x → Contains (filter p ys) x) → Contains (cond b (y ∷ filter p ys) (filter p ys)) x
      by true at rest = elim (member_cases y ys x m) [
        | inl same ↦ subst (λ z. Contains (y ∷ filter p ys) z) same (member_head y (filter p ys))
        | inr later ↦ member_later y (filter p ys) x (rest later)
      ]
      by false at rest = elim (member_cases y ys x m) [
        | inl same ↦ absurd (let no : p x ≡ false = ap p (sym same) ∙ at in cc)
        | inr later ↦ rest later
      ]

pub before_self : (p q : Prefix) → p ≡ q → IsPrefixBefore p q → ⊥
before_self p q same before = prefixes_told.irrefl q (subst (λ (x : Prefix). IsPrefixBefore x q) same before)

pub behind_self : (p q : Prefix) → p ≡ q → IsPrefixBefore q p → ⊥
behind_self p q same before = prefixes_told.irrefl q (subst (λ (x : Prefix). IsPrefixBefore q x) same before)

asym : (p q : Route) → IsRouteBefore p q → IsRouteBefore q p → ⊥
asym p q a b = prefixes_told.irrefl p.prefix (prefixes_told.trans p.prefix q.prefix p.prefix a b)

-- a prefix is among these, or not
pub among_or_not : (ps : List Prefix) (p : Prefix) → Contains ps p ⊎ (Contains ps p → ⊥)
among_or_not [] p = inr (λ m. let low = m.1 in omega arith)
among_or_not (q ∷ qs) p = elim (three_orders q p) [
  | inl less ↦ later (among_or_not qs p) (λ same. before_self q p same less)
  | inr rest ↦ elim rest [
    | inl same ↦ inl (subst (λ (x : Prefix). Contains (q ∷ qs) x) same (member_head q qs))
    | inr more ↦ later (among_or_not qs p) (λ same. behind_self q p same more)
  ]
]
  where
    later : Contains qs p ⊎ (Contains qs p → ⊥) → (q ≡ p → ⊥) → Contains (q ∷ qs) p ⊎ (Contains (q ∷ qs) p → ⊥)
    later rest other = elim rest [
      | inl there ↦ inl (member_later q qs p there)
      | inr none ↦ inr (λ m. elim (member_cases q qs p m) [ inl same ↦ other same | inr rest ↦ none rest ])
    ]

-- ---- one change

module _ (routes : List Route) (c : Change) where
  front : Route → Bool
  front r = stands_before r.prefix (prefix_of c)

  back : Route → Bool
  back r = stands_before (prefix_of c) r.prefix

  pub changed_has : (x : Route) → Contains (changed routes c) x → Contains (put_of c) x ⊎ (Contains routes x × (x.prefix ≢ prefix_of c))
  unfolding changed front back
  changed_has x m = elim (Contains-append_cases (filter front routes) (put_of c ++ filter back routes) x m) [
    | inl f ↦ (let is = filter_from front routes x f in inr (is.0, λ same. before_self x.prefix (prefix_of c) same ((told x.prefix (prefix_of c)).0 is.1)))
    | inr rest ↦ elim (Contains-append_cases (put_of c) (filter back routes) x rest) [
      | inl p ↦ inl p
      | inr b ↦ (let is = filter_from back routes x b in inr (is.0, λ same. behind_self x.prefix (prefix_of c) same ((told (prefix_of c) x.prefix).0 is.1)))
    ]
  ]

  pub changed_puts : (x : Route) → Contains (put_of c) x → Contains (changed routes c) x
  unfolding changed front back
  changed_puts x m = Contains-append_right (filter front routes) (put_of c ++ filter back routes) x (Contains-append_left (put_of c) (filter back routes) x m)

  pub changed_keeps : (x : Route) → Contains routes x → x.prefix ≢ prefix_of c → Contains (changed routes c) x
  unfolding changed front back
  changed_keeps x m other = elim (three_orders x.prefix (prefix_of c)) [
    | inl less ↦ Contains-append_left (filter front routes) (put_of c ++ filter back routes) x (filter_to front routes x m ((told x.prefix (prefix_of c)).1 less))
    | inr rest ↦ elim rest [
      | inl same ↦ absurd (other same)
      | inr more ↦
          Contains-append_right (filter front routes) (put_of c ++ filter back routes) x
          (Contains-append_right (put_of c) (filter back routes) x (filter_to back routes x m ((told (prefix_of c) x.prefix).1 more)))
    ]
  ]

one_put : (r : Route) (x : Route) → Contains (put_of (Put r)) x → x ≡ r
one_put r x m = elim (member_cases r [] x m) [ inl same ↦ sym same | inr none ↦ absurd (let low = none.1 in omega arith) ]

none_put : (p : Prefix) (x : Route) → Contains (put_of (Gone p)) x → ⊥
none_put p x m = let low = m.1 in omega arith

-- two routes of a table to one prefix are one
one_of : (routes : List Route) (x y : Route) → AllPairs IsRouteBefore routes → Contains routes x → Contains routes y → x.prefix ≡ y.prefix → x ≡ y
one_of [] x y order mx my same = absurd (let low = mx.1 in omega arith)
one_of (z ∷ zs) x y order mx my same = elim (member_cases z zs x mx) [
  | inl ex ↦ elim (member_cases z zs y my) [
    | inl ey ↦ sym ex ∙ ey
    | inr ly ↦ absurd (before_self z.prefix y.prefix (ap (λ (r : Route). r.prefix) ex ∙ same) (first_before y ly))
  ]
  | inr lx ↦ elim (member_cases z zs y my) [
    | inl ey ↦ absurd (before_self z.prefix x.prefix (ap (λ (r : Route). r.prefix) ey ∙ sym same) (first_before x lx))
    | inr ly ↦ one_of zs x y (λ i j d lt le. order (suc i) (suc j) d (omega arith) (omega arith)) lx ly same
  ]
]
  where
    first_before : (w : Route) → Contains zs w → IsRouteBefore z w
    first_before w m = subst (λ (v : Route). IsRouteBefore z v) m.2 (order 0 (suc m.0) w (omega arith) (let low = m.1 in omega arith))

-- a change to what is there leaves the routes
module _ (routes : List Route) (order : IsInOrder routes) where
  put_there : (r : Route) → PutsHops (Put r) → Contains routes r → changed routes (Put r) ≡ routes
  put_there r hops there =
      sorted_unique IsRouteBefore asym (changed routes (Put r)) routes (changed_table routes (Put r) order hops).in_order order.in_order
      (λ x m. elim (changed_has routes (Put r) x m) [ inl put ↦ subst (λ (y : Route). Contains routes y) (sym (one_put r x put)) there | inr was ↦ was.0 ])
      (λ x m. elim (three_orders x.prefix r.prefix) [
        | inl less ↦ changed_keeps routes (Put r) x m (λ same. before_self x.prefix r.prefix same less)
        | inr rest ↦ elim rest [
          | inl same ↦ changed_puts routes (Put r) x (subst (λ (y : Route). Contains (r ∷ []) y) (one_of routes r x order.in_order there m (sym same)) (member_head r []))
          | inr more ↦ changed_keeps routes (Put r) x m (λ same. behind_self x.prefix r.prefix same more)
        ]
      ])

  gone_none : (p : Prefix) → (Reaches routes p → ⊥) → changed routes (Gone p) ≡ routes
  gone_none p none =
      sorted_unique IsRouteBefore asym (changed routes (Gone p)) routes (changed_table routes (Gone p) order tt).in_order order.in_order
      (λ x m. elim (changed_has routes (Gone p) x m) [ inl put ↦ absurd (none_put p x put) | inr was ↦ was.0 ])
      (λ x m. changed_keeps routes (Gone p) x m (λ same. none (x, m, same)))

-- some route is to the prefix, or none
reaches_or_not : (routes : List Route) (p : Prefix) → Reaches routes p ⊎ (Reaches routes p → ⊥)
reaches_or_not [] p = inr (λ r. let low = r.1.1 in omega arith)
reaches_or_not (z ∷ zs) p = elim (three_orders z.prefix p) [
  | inl less ↦ later (reaches_or_not zs p) (λ same. before_self z.prefix p same less)
  | inr rest ↦ elim rest [
    | inl same ↦ inl (z, member_head z zs, same)
    | inr more ↦ later (reaches_or_not zs p) (λ same. behind_self z.prefix p same more)
  ]
]
  where
    later : Reaches zs p ⊎ (Reaches zs p → ⊥) → (z.prefix ≡ p → ⊥) → Reaches (z ∷ zs) p ⊎ (Reaches (z ∷ zs) p → ⊥)
    later rest other = elim rest [
      | inl r ↦ inl (r.0, member_later z zs r.0 r.1, r.2)
      | inr none ↦ inr (λ r. elim (member_cases z zs r.0 r.1) [
        | inl same ↦ other (ap (λ (x : Route). x.prefix) same ∙ r.2)
        | inr rest ↦ none (r.0, rest, r.2)
      ])
    ]

-- ---- change by change

module _ (A : List Advertisement) (root : RouterId) (first : List Route) where
  -- some route of the table of A is not in the first one, or the other way round
  abbrev pub IsApart : Type 0
  IsApart = ((r : Route) × IsRoute A root r × (Contains first r → ⊥)) ⊎ ((r : Route) × Contains first r × (IsRoute A root r → ⊥))

  -- the table once it is right at the first prefixes
  pub record IsTurnedAt (now : List Route) (done : List Prefix) : Type 0 where
    pub in_order : IsInOrder now
    pub from : (x : Route) → Contains now x → Contains first x ⊎ IsRoute A root x
    pub kept : (x : Route) → Contains first x → IsRoute A root x → Contains now x
    pub right : (p : Prefix) (x : Route) → Contains done p → Contains now x → x.prefix ≡ p → IsRoute A root x
    pub ways : (p : Prefix) → Contains done p → Way A root p → Reaches now p

  -- and whether it is another one then
  pub record IsTurned (now : List Route) (done : List Prefix) (other : Bool) : Type 0 where
    pub at : IsTurnedAt now done
    pub same : other ≡ false → now ≡ first
    pub apart : other ≡ true → IsApart

  pub turned_at_start : IsInOrder first → IsTurnedAt first []
  turned_at_start order =
      record {
        in_order = order;
        from = λ x m. inl m;
        kept = λ x m is. m;
        right = λ p x m. absurd (let low = m.1 in omega arith);
        ways = λ p m. absurd (let low = m.1 in omega arith);
      }

  pub turned_start : IsInOrder first → IsTurned first [] false
  turned_start order =
      record {
        at = turned_at_start order;
        same = λ _. refl;
        apart = λ is. absurd (cc);
      }

  module _ (now : List Route) (done : List Prefix) (t : IsTurnedAt now done) (c : Change) (right : IsRight A root c) (hops : PutsHops c) where
    from_next : (d : Change) → d ≡ c → (x : Route) → Contains (changed now d) x → Contains first x ⊎ IsRoute A root x
    from_next (Put r) is x m = elim (changed_has now (Put r) x m) [
      | inl put ↦ inr (subst (λ (y : Route). IsRoute A root y) (sym (one_put r x put)) (subst (λ (e : Change). IsRight A root e) (sym is) right))
      | inr was ↦ t.from x was.0
    ]
    from_next (Gone p) is x m = elim (changed_has now (Gone p) x m) [ inl put ↦ absurd (none_put p x put) | inr was ↦ t.from x was.0 ]

    -- at its prefix the table is right then
    right_there : (d : Change) → d ≡ c → (x : Route) → Contains (changed now d) x → x.prefix ≡ prefix_of d → IsRoute A root x
    right_there (Put r) is x m at = elim (changed_has now (Put r) x m) [
      | inl put ↦ subst (λ (y : Route). IsRoute A root y) (sym (one_put r x put)) (subst (λ (e : Change). IsRight A root e) (sym is) right)
      | inr was ↦ absurd (was.1 at)
    ]
    right_there (Gone p) is x m at = elim (changed_has now (Gone p) x m) [ inl put ↦ absurd (none_put p x put) | inr was ↦ absurd (was.1 at) ]

    way_there : (d : Change) → d ≡ c → Way A root (prefix_of d) → Reaches (changed now d) (prefix_of d)
    way_there (Put r) is w = (r, changed_puts now (Put r) r (member_head r []), refl)
    way_there (Gone p) is w = absurd ((subst (λ (e : Change). IsRight A root e) (sym is) right) w)

    there_still : (d : Change) → d ≡ c → (x : Route) → x.prefix ≡ prefix_of d → IsRoute A root x → Contains (changed now d) x
    there_still (Put r) is x at route =
        let same : x ≡ r = same_route A root x r route (subst (λ (e : Change). IsRight A root e) (sym is) right) at in
        changed_puts now (Put r) x (subst (λ (y : Route). Contains (r ∷ []) y) (sym same) (member_head r []))
    there_still (Gone p) is x at route = absurd ((subst (λ (e : Change). IsRight A root e) (sym is) right) (subst (λ (q : Prefix). Way A root q) at route.way))

    kept_next : (x : Route) → Contains first x → IsRoute A root x → Contains (changed now c) x
    kept_next x m is = elim (three_orders x.prefix (prefix_of c)) [
      | inl less ↦ changed_keeps now c x (t.kept x m is) (λ same. before_self x.prefix (prefix_of c) same less)
      | inr rest ↦ elim rest [
        | inl same ↦ there_still c refl x same is
        | inr more ↦ changed_keeps now c x (t.kept x m is) (λ same. behind_self x.prefix (prefix_of c) same more)
      ]
    ]

    right_next : (p : Prefix) (x : Route) → Contains (done ++ prefix_of c ∷ []) p → Contains (changed now c) x → x.prefix ≡ p → IsRoute A root x
    right_next p x m there at = elim (Contains-push_cases done (prefix_of c) p m) [
      | inl before ↦ elim (three_orders x.prefix (prefix_of c)) [
        | inl less ↦ of_old before (λ same. before_self x.prefix (prefix_of c) same less)
        | inr rest ↦ elim rest [ inl same ↦ right_there c refl x there same | inr more ↦ of_old before (λ same. behind_self x.prefix (prefix_of c) same more) ]
      ]
      | inr here ↦ right_there c refl x there (at ∙ sym here)
    ]
      where
        of_old : Contains done p → (x.prefix ≡ prefix_of c → ⊥) → IsRoute A root x
        of_old before differs = elim (changed_has now c x there) [
          | inl put ↦ absurd (differs (put_at c x put))
          | inr was ↦ t.right p x before was.0 at
        ]

    ways_next : (p : Prefix) → Contains (done ++ prefix_of c ∷ []) p → Way A root p → Reaches (changed now c) p
    ways_next p m w = elim (Contains-push_cases done (prefix_of c) p m) [
      | inl before ↦ (let r = t.ways p before w in elim (three_orders r.0.prefix (prefix_of c)) [
        | inl less ↦ (r.0, changed_keeps now c r.0 r.1 (λ same. before_self r.0.prefix (prefix_of c) same less), r.2)
        | inr rest ↦ elim rest [
          | inl same ↦ at_prefix (sym r.2 ∙ same)
          | inr more ↦ (r.0, changed_keeps now c r.0 r.1 (λ same. behind_self r.0.prefix (prefix_of c) same more), r.2)
        ]
      ])
      | inr here ↦ at_prefix (sym here)
    ]
      where
        at_prefix : p ≡ prefix_of c → Reaches (changed now c) p
        at_prefix at = subst (λ (q : Prefix). Reaches (changed now c) q) (sym at) (way_there c refl (subst (λ (q : Prefix). Way A root q) at w))

    pub turned_at_next : IsTurnedAt (changed now c) (done ++ prefix_of c ∷ [])
    turned_at_next = record { in_order = changed_table now c t.in_order hops; from = from_next c refl; kept = kept_next; right = right_next; ways = ways_next }

    -- a change that makes another table tells it from the first one
    apart_by : (d : Change) → d ≡ c → (changed now d ≢ now) → IsApart
    apart_by (Put r) is differs =
        let exact : IsRoute A root r = subst (λ (e : Change). IsRight A root e) (sym is) right in
        let has : PutsHops (Put r) = subst (λ (e : Change). PutsHops e) (sym is) hops in
        inl (r, exact, λ was. differs (put_there now t.in_order r has (t.kept r was exact)))
    apart_by (Gone p) is differs = elim (reaches_or_not now p) [
      | inl r ↦
          let none : Way A root p → ⊥ = subst (λ (e : Change). IsRight A root e) (sym is) right in
          let wrong : IsRoute A root r.0 → ⊥ = λ route. none (subst (λ (q : Prefix). Way A root q) r.2 route.way) in
          elim (t.from r.0 r.1) [ inl was ↦ inr (r.0, was, wrong) | inr route ↦ absurd (wrong route) ]
      | inr none ↦ absurd (differs (gone_none now t.in_order p none))
    ]

  module _ (now : List Route) (done : List Prefix) (other : Bool) (t : IsTurned now done other) (c : Change) (right : IsRight A root c) (hops : PutsHops c) where
    pub turned_next : (next : Bool) → (next ≡ false → (other ≡ false) × (changed now c ≡ now)) → (next ≡ true → (other ≡ true) ⊎ (changed now c ≢ now))
        → IsTurned (changed now c) (done ++ prefix_of c ∷ []) next
    turned_next next still differs =
        record {
          at = turned_at_next now done t.at c right hops;
          same = λ is. let s = still is in s.1 ∙ t.same s.0;
          apart = λ is. elim (differs is) [ inl before ↦ t.apart before | inr new ↦ apart_by now done t.at c right hops c refl new ];
        }

  -- right at all prefixes that differ, it is the table of A
  module _ (B : List Advertisement) (now : List Route) (touched : List Prefix) (t : IsTurnedAt now touched) (was : IsTable B root first) (spares : SparesBut touched B A root) where
    all_right : (x : Route) → Contains now x → IsRoute A root x
    all_right x m = elim (among_or_not touched x.prefix) [
      | inl in_touched ↦ t.right x.prefix x in_touched m refl
      | inr free ↦ elim (t.from x m) [
        | inl old ↦ (spares x.prefix free).routes x refl (All-contains (IsRoute B root) first x was.sound old)
        | inr right ↦ right
      ]
    ]

    all_ways : (p : Prefix) → Way A root p → Reaches now p
    all_ways p w = elim (among_or_not touched p) [
      | inl in_touched ↦ t.ways p in_touched w
      | inr free ↦
          let s = spares p free in
          let r = was.complete p (s.ways w) in
          (r.0, t.kept r.0 r.1 (s.routes r.0 r.2 (All-contains (IsRoute B root) first r.0 was.sound r.1)), r.2)
    ]

    pub turned_at_table : IsTable A root now
    turned_at_table = record { in_order = t.in_order.in_order; complete = all_ways; sound = λ k d lt. all_right _ (Contains-get_or now k d lt) }

    not_apart : IsApart → now ≡ first → ⊥
    not_apart (inl (r, route, new)) same =
        let there = all_ways r.prefix route.way in
        let one : there.0 ≡ r = same_route A root there.0 r (all_right there.0 there.1) route there.2 in
        new (subst (λ (rs : List Route). Contains rs r) same (subst (λ (x : Route). Contains now x) one there.1))
    not_apart (inr (r, old, wrong)) same = wrong (all_right r (subst (λ (rs : List Route). Contains rs r) (sym same) old))

  module _ (B : List Advertisement) (now : List Route) (touched : List Prefix) (other : Bool) (t : IsTurned now touched other) (was : IsTable B root first) (spares : SparesBut touched B A root) where
    pub turned_table : IsTable A root now
    turned_table = turned_at_table B now touched t.at was spares

    pub turned_changed : IsTrue other ↔ (now ≢ first)
    turned_changed = (
      (λ is same. not_apart B now touched t.at was spares (t.apart is) same),
      (λ differs. by other refl differs),
    )
      where
        by : (b : Bool) → other ≡ b → (now ≢ first) → IsTrue other
        by true is differs = is
        by false is differs = absurd (differs (t.same is))
