-- What a finding about the parts of an area says.
use Rattle.std.proofs.Common.{rules, ◌≡◌, ◌==◌, ◌&&◌, ◌↔◌, ◌⊎◌, ◌++◌, ℕ, Bool, true, false, not, List, [], ◌∷◌, ◌∙◌, ap, sym, subst, refl, inl, inr, arith, nat_lt, Option, Some, None, Result, Ok, Err, OnOk, cond, is_some, option_map, if◌then◌else◌}
use Rattle.std.proofs.lemmas.Option.{same_Some}
use Rattle.std.proofs.lemmas.List.Elements.{Contains-append_left, Contains-append_right, Contains-append_cases}
use Rattle.std.specs.List.{Contains, find}
use Rattle.std.specs.Option.{option_or}
use Rattle.std.specs.Ordering.{is_eq, nat_cmp, ordering_then}
use Rattle.std.specs.declared.cmp.Ordering.{Ordering}
use Rattle.std.specs.declared.cmp.Ordering.TheVariants.{Less, Equal, Greater}
use Rattle.ospf_config.specs.declared.config.Config.{Config}
use Rattle.ospf_plan.specs.declared.ends.LinkEnd.{LinkEnd}
use Rattle.ospf_plan.specs.declared.fault.AreaFault.TheVariants as fault
use Rattle.ospf_plan.specs.declared.finding.Finding.{Finding}
use Rattle.ospf_plan.specs.declared.joins.Join.{Join}
use Rattle.ospf_plan.specs.Ends.{ends_of}
use Rattle.ospf_plan.specs.Findings.{found_in}
use Rattle.ospf_plan.specs.Joins.{IsJoined, back, forth, itself}
use Rattle.ospf_plan.specs.Parts.{AreFindings, AreReached, IsWay, LinkKey, adjacent_ends, apart, apart_in, cross, first_linked, first_of_all, is_apart, join_at, joins_of, link_cmp, link_of, same_link, stay}
use Rattle.ospf_plan.specs.Wires.{wire_faults_in, wires_of}
use Rattle.ospf_plan.specs.Unheard.{unheard_in}
use Rattle.ospf_plan.specs.Laws.{FindingHolds, HoldsApart, HoldsOfWire, HoldsUnheard, IsAhead}
use Rattle.ospf_plan.proofs.Words.{RisesBy}
use Rattle.ospf_plan.proofs.Members.{finds, head_in, later_in, some_from, some_to}
use Rattle.ospf_plan.proofs.FindingLemmas.{held_told, none_is_some, told_holds}
use Rattle.ospf_plan.proofs.Order.{ends_rise, rising_some}
use Rattle.ospf_plan.proofs.WireLemmas.{wire_holds, wire_told}
use Rattle.ospf_plan.proofs.UnheardLemmas.{unheard_holds, unheard_told}

never : false ≡ true → ⊥
never e = search rules

-- what follows where an answer is Ok
pub on_ok : {T E P Q : Type 0} (r : Result T E) → (P → Q) → OnOk r P → OnOk r Q
on_ok (Ok x) f p = f p
on_ok (Err e) f p = tt

and_cases : (a b : Bool) → (a && b) ≡ true → (a ≡ true) × (b ≡ true)
and_cases true b h = (refl, h)
and_cases false b h = absurd (never h)

same : (n m : ℕ) → (n == m) ≡ true → n ≡ m
same n m h = grind (arith, h)

itself_is : (n : ℕ) → (n == n) ≡ true
itself_is n = grind arith

-- ---- links

one_link : (k q : LinkKey) → same_link k q ≡ true → k ≡ q
one_link k q h =
    let (h5, g) = and_cases ((((((k.0 == q.0) && (k.1 == q.1)) && (k.2 == q.2)) && (k.3 == q.3)) && (k.4 == q.4)) && (k.5 == q.5)) (k.6 == q.6) h in
    let (h4, f) = and_cases (((((k.0 == q.0) && (k.1 == q.1)) && (k.2 == q.2)) && (k.3 == q.3)) && (k.4 == q.4)) (k.5 == q.5) h5 in
    let (h3, e) = and_cases ((((k.0 == q.0) && (k.1 == q.1)) && (k.2 == q.2)) && (k.3 == q.3)) (k.4 == q.4) h4 in
    let (h2, d) = and_cases (((k.0 == q.0) && (k.1 == q.1)) && (k.2 == q.2)) (k.3 == q.3) h3 in
    let (h1, c) = and_cases ((k.0 == q.0) && (k.1 == q.1)) (k.2 == q.2) h2 in
    let (a, b) = and_cases (k.0 == q.0) (k.1 == q.1) h1 in
    ap (λ n. (n, k.1, k.2, k.3, k.4, k.5, k.6)) (same k.0 q.0 a)
    ∙ ap (λ n. (q.0, n, k.2, k.3, k.4, k.5, k.6)) (same k.1 q.1 b)
    ∙ ap (λ n. (q.0, q.1, n, k.3, k.4, k.5, k.6)) (same k.2 q.2 c)
    ∙ ap (λ n. (q.0, q.1, q.2, n, k.4, k.5, k.6)) (same k.3 q.3 d)
    ∙ ap (λ n. (q.0, q.1, q.2, q.3, n, k.5, k.6)) (same k.4 q.4 e)
    ∙ ap (λ n. (q.0, q.1, q.2, q.3, q.4, n, k.6)) (same k.5 q.5 f)
    ∙ ap (λ n. (q.0, q.1, q.2, q.3, q.4, q.5, n)) (same k.6 q.6 g)

itself_linked : (k : LinkKey) → same_link k k ≡ true
itself_linked k = rw (itself_is k.0, itself_is k.1, itself_is k.2, itself_is k.3, itself_is k.4, itself_is k.5, itself_is k.6) refl

-- ---- the order of links

then_is : (a b : Ordering) (s t : Bool) → is_eq a ≡ s → is_eq b ≡ t → is_eq (ordering_then a b) ≡ (s && t)
then_is Less b s t p q = ap (λ x. x && t) p
then_is Equal b s t p q = q ∙ ap (λ x. x && t) p
then_is Greater b s t p q = ap (λ x. x && t) p

clash : (x y : ℕ) → nat_lt x y ≡ true → (x == y) ≡ true → ⊥
clash x y less one = grind (arith, less, one)

number_by : (x y : ℕ) (a b : Bool) → nat_lt x y ≡ a → (x == y) ≡ b → is_eq (cond a Less (cond b Equal Greater)) ≡ b
number_by x y true true p q = absurd (clash x y p q)
number_by x y true false p q = refl
number_by x y false true p q = refl
number_by x y false false p q = refl

number_is : (x y : ℕ) → is_eq (nat_cmp x y) ≡ (x == y)
number_is x y = number_by x y (nat_lt x y) (x == y) refl refl

link_is : (k q : LinkKey) → is_eq (link_cmp k q) ≡ same_link k q
link_is k q =
    then_is _ _ _ _ (then_is _ _ _ _ (then_is _ _ _ _ (then_is _ _ _ _ (then_is _ _ _ _ (then_is _ _ _ _ (number_is k.0 q.0) (number_is k.1 q.1))
    (number_is k.2 q.2)) (number_is k.3 q.3)) (number_is k.4 q.4)) (number_is k.5 q.5)) (number_is k.6 q.6)

or_none : {X : Type 0} (o : Option X) → option_or o None ≡ o
or_none None = refl
or_none (Some x) = refl

pub none_of : {X : Type 0} (o : Option X) → is_some o ≡ false → o ≡ None
none_of None h = refl
none_of (Some x) h = absurd (never (sym h))

module _ (old new : LinkKey → Option LinkEnd) (link : LinkKey) (e : LinkEnd) (absent : old link ≡ None) (updates : (q : LinkKey) → new q ≡ cond (is_eq (link_cmp link q)) (Some e) (old q)) where
  added_by : (k : LinkKey) (b : Bool) → same_link link k ≡ b → new k ≡ option_or (old k) (cond b (Some e) None)
  added_by k true t =
      updates k ∙ ap (λ b. cond b (Some e) (old k)) (link_is link k ∙ t)
      ∙ ap (λ o. option_or o (Some e)) (sym (ap old (sym (one_link link k t)) ∙ absent))
  added_by k false t = updates k ∙ ap (λ b. cond b (Some e) (old k)) (link_is link k ∙ t) ∙ sym (or_none (old k))

  pub added : (k : LinkKey) → new k ≡ option_or (old k) (cond (same_link link k) (Some e) None)
  added k = added_by k (same_link link k) refl

-- ---- searches

found_by : {X : Type 0} (p : X → Bool) (z : X) (zs : List X) (y : X) (b : Bool) → p z ≡ b → cond b (Some z) (find p zs) ≡ Some y
    → (find p zs ≡ Some y → Contains zs y × (p y ≡ true)) → Contains (z ∷ zs) y × (p y ≡ true)
found_by p z zs y true e is rest =
    let one : z ≡ y = same_Some z y is in
    (subst (Contains (z ∷ zs)) one (head_in z zs), subst (λ w. p w ≡ true) one e)
found_by p z zs y false e is rest = let (at, h) = rest is in (later_in z zs y at, h)

found_is : {X : Type 0} (p : X → Bool) (xs : List X) (y : X) → find p xs ≡ Some y → Contains xs y × (p y ≡ true)
found_is p [] y is = absurd (none_is_some y is)
found_is p (z ∷ zs) y is = found_by p z zs y (p z) refl is (found_is p zs y)

-- ---- joins and ways

-- the two interfaces that a join is of
record IsJoinOf (ends : List LinkEnd) (j : Join) : Type 0 where
  one : LinkEnd
  other : LinkEnd
  one_among : Contains ends one
  other_among : Contains ends other
  linked : link_of one ≡ link_of other
  one_is : j.one ≡ one.file
  other_is : j.other ≡ other.file

module _ (ends : List LinkEnd) (j : Join) where
  of_first : (e : LinkEnd) (o : Option LinkEnd) → Contains ends e → first_linked ends (link_of e) ≡ o → option_map (λ d. record { one = d.file; other = e.file }) o ≡ Some j → IsJoinOf ends j
  of_first e None among at is = absurd (none_is_some j is)
  of_first e (Some d) among at is =
      let (there, linked) = found_is (λ x. same_link (link_of x) (link_of e)) ends d at in
      let one : record { one = d.file; other = e.file } ≡ j = same_Some (record { one = d.file; other = e.file }) j is in
      record {
        one = d;
        other = e;
        one_among = there;
        other_among = among;
        linked = one_link (link_of d) (link_of e) linked;
        one_is = ap (λ (i : Join). i.one) (sym one);
        other_is = ap (λ (i : Join). i.other) (sym one);
      }

  join_from : Contains (joins_of ends) j → IsJoinOf ends j
  join_from h =
      let (e, among, is) = some_from (join_at (first_linked ends)) ends j h in
      of_first e (first_linked ends (link_of e)) among refl is

  way_forth : IsJoinOf ends j → IsWay ends 0 j.one → IsWay ends 0 j.other
  way_forth i w = subst (IsWay ends 0) (sym i.other_is) (cross i.one i.other i.one_among i.other_among i.linked (subst (IsWay ends 0) i.one_is w))

  way_back : IsJoinOf ends j → IsWay ends 0 j.other → IsWay ends 0 j.one
  way_back i w = subst (IsWay ends 0) (sym i.one_is) (cross i.other i.one i.other_among i.one_among (sym i.linked) (subst (IsWay ends 0) i.other_is w))

pub way_of : (ends : List LinkEnd) (q : ℕ) → IsJoined (joins_of ends) 0 q → IsWay ends 0 q
way_of ends _ itself = stay
way_of ends _ (forth j at rest) = way_forth ends j (join_from ends j at) (way_of ends j.one rest)
way_of ends _ (back j at rest) = way_back ends j (join_from ends j at) (way_of ends j.other rest)

join_to : (ends : List LinkEnd) (e f : LinkEnd) → Contains ends e → first_linked ends (link_of e) ≡ Some f → Contains (joins_of ends) (record { one = f.file; other = e.file })
join_to ends e f among at =
    some_to (join_at (first_linked ends)) ends (record { one = f.file; other = e.file }) e among (ap (option_map (λ (d : LinkEnd). record { one = d.file; other = e.file })) at)

pub joined_of : (ends : List LinkEnd) (q : ℕ) → IsWay ends 0 q → IsJoined (joins_of ends) 0 q
joined_of ends _ stay = itself
joined_of ends _ (cross d e in_d in_e linked rest) =
    let (f, at_d) = finds (λ x. same_link (link_of x) (link_of d)) ends d in_d (itself_linked (link_of d)) in
    let at_e : first_linked ends (link_of e) ≡ Some f = ap (first_linked ends) (sym linked) ∙ at_d in
    forth (record { one = f.file; other = e.file }) (join_to ends e f in_e at_e)
    (back (record { one = f.file; other = d.file }) (join_to ends d f in_d at_d) (joined_of ends d.file rest))

-- ---- what is told

unreached : (a : ℕ) (b : Bool) → ((a == 0) && not b) ≡ true → (a ≡ 0) × (b ≡ false)
unreached a true h = absurd (never (and_cases (a == 0) false h).1)
unreached a false h = (same a 0 (and_cases (a == 0) true h).0, refl)

-- what is found of an interface by whether it is apart
record IsApartAt (reached : ℕ → Bool) (first : Option LinkEnd) (e : LinkEnd) (f : Finding) : Type 0 where
  fault_is : f.fault ≡ fault.Partitioned
  here_is : e ≡ f.here
  other_is : first ≡ Some f.other
  wrong_is : is_apart reached e ≡ true

apart_by : (reached : ℕ → Bool) (e d : LinkEnd) (f : Finding) (b : Bool) → is_apart reached e ≡ b
    → (if b then Some (record { fault = fault.Partitioned; other = d; here = e }) else None) ≡ Some f → IsApartAt reached (Some d) e f
apart_by reached e d f false wrong is = absurd (none_is_some f is)
apart_by reached e d f true wrong is =
    subst (IsApartAt reached (Some d) e) (same_Some (record { fault = fault.Partitioned; other = d; here = e }) f is) (record { fault_is = refl; here_is = refl; other_is = refl; wrong_is = wrong })

apart_says : (reached : ℕ → Bool) (first : Option LinkEnd) (e : LinkEnd) (f : Finding) → apart reached first e ≡ Some f → IsApartAt reached first e f
apart_says reached None e f is = absurd (none_is_some f is)
apart_says reached (Some d) e f is = apart_by reached e d f (is_apart reached e) refl is

apart_holds : (ends : List LinkEnd) (reached : ℕ → Bool) (f : Finding) → AreReached ends reached → Contains (apart_in reached ends) f → HoldsApart ends f
apart_holds ends reached f are told =
    let (e, among, is) = some_from (apart reached (first_of_all ends)) ends f told in
    let s = apart_says reached (first_of_all ends) e f is in
    let (link, off) = unreached e.link (reached e.file) s.wrong_is in
    record {
      fault = s.fault_is;
      here = subst (Contains ends) s.here_is among;
      link = ap (λ (x : LinkEnd). x.link) (sym s.here_is) ∙ link;
      other = s.other_is;
      apart = λ w. never (sym off ∙ (are e.file).1 (subst (λ (x : LinkEnd). IsWay (adjacent_ends ends) 0 x.file) (sym s.here_is) w));
    }

off_by : (b : Bool) → (b ≡ true → ⊥) → b ≡ false
off_by true h = absurd (h refl)
off_by false h = refl

apart_told : (ends : List LinkEnd) (reached : ℕ → Bool) (f : Finding) → AreReached ends reached → HoldsApart ends f → Contains (apart_in reached ends) f
apart_told ends reached f are h =
    let off : reached f.here.file ≡ false = off_by (reached f.here.file) (λ t. h.apart ((are f.here.file).0 t)) in
    let wrong : is_apart reached f.here ≡ true = ap (λ n. (n == 0) && not (reached f.here.file)) h.link ∙ ap (λ b. not b) off in
    let made : apart reached (first_of_all ends) f.here ≡ Some (record { fault = fault.Partitioned; other = f.other; here = f.here }) =
    ap (λ o. apart reached o f.here) h.other ∙ ap (λ b. if b then Some (record { fault = fault.Partitioned; other = f.other; here = f.here }) else None) wrong in
    some_to (apart reached (first_of_all ends)) ends f f.here h.here (made ∙ ap (λ x. Some (record { fault = x; other = f.other; here = f.here })) (sym h.fault))

pub tells_exactly : (configs : List Config) (fs : List Finding) (f : Finding) → AreFindings configs fs
    → Contains fs f ↔ (((FindingHolds (ends_of configs) f ⊎ HoldsOfWire (ends_of configs) (wires_of configs) f) ⊎ HoldsUnheard (ends_of configs) (wires_of configs) f)
    ⊎ HoldsApart (ends_of configs) f)
tells_exactly configs fs f are =
    let ends = ends_of configs in
    let wires = wires_of configs in
    let ones = found_in ends in
    let twos = wire_faults_in ends wires in
    let threes = unheard_in ends wires in
    let fours = apart_in are.reached ends in (
      (λ told. elim (Contains-append_cases ((ones ++ twos) ++ threes) fours f (subst (λ l. Contains l f) are.told told)) [
        | inl front ↦ inl (elim (Contains-append_cases (ones ++ twos) threes f front) [
          | inl head ↦ inl (elim (Contains-append_cases ones twos f head) [ inl a ↦ inl (told_holds ends f a) | inr b ↦ inr (wire_holds ends wires f b) ])
          | inr c ↦ inr (unheard_holds configs f c)
        ])
        | inr d ↦ inr (apart_holds ends are.reached f are.are_reached d)
      ]),
      (λ h. subst (λ l. Contains l f) (sym are.told) (elim h [
        | inl front ↦ Contains-append_left ((ones ++ twos) ++ threes) fours f (elim front [
          | inl head ↦ Contains-append_left (ones ++ twos) threes f (elim head [
            | inl a ↦ Contains-append_left ones twos f (held_told ends f a)
            | inr b ↦ Contains-append_right ones twos f (wire_told ends wires f b)
          ])
          | inr c ↦ Contains-append_right (ones ++ twos) threes f (unheard_told configs f c)
        ])
        | inr d ↦ Contains-append_right ((ones ++ twos) ++ threes) fours f (apart_told ends are.reached f are.are_reached d)
      ])),
    )

pub parts_rise : (configs : List Config) (reached : ℕ → Bool) → RisesBy (λ (f g : Finding). IsAhead f.here g.here) (apart_in reached (ends_of configs))
parts_rise configs reached =
    let ends = ends_of configs in
    rising_some IsAhead (λ (f g : Finding). IsAhead f.here g.here) (apart reached (first_of_all ends)) ends (ends_rise configs)
    (λ d e f g ahead is_f is_g.
    let p = apart_says reached (first_of_all ends) d f is_f in
    let q = apart_says reached (first_of_all ends) e g is_g in
    subst (λ x. IsAhead f.here x) q.here_is (subst (λ x. IsAhead x e) p.here_is ahead))
