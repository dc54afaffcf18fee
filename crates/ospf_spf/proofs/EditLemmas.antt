-- One change at its place, and all changes one after another.
use Rattle.std.proofs.Common.{arith, subst, ◌≡◌, ◌&&◌, ◌==◌, Bool, true, false, List, [], ◌∷◌, ◌++◌, get_or, refl, ap, Decides, ◌+◌, ◌≤◌, suc, length, cond, length-append}
use Rattle.std.specs.List.{All, filter}
use Rattle.std.specs.Prelude.{nat_lt}
use Rattle.std.proofs.lemmas.Bool.Decides.{Decides-and, Decides-or, Decides-eqb, Decides-ltb}
use Rattle.std.proofs.lemmas.List.{append-nil}
use Rattle.std.proofs.lemmas.List.Elements.{All-head, All-tail, filter-append}
use Rattle.std.proofs.lemmas.List.Sums.{fold-append}
use Rattle.ospf_base.specs.declared.prefix.Prefix.{Prefix}
use Rattle.ospf_base.specs.Prefixes.{IsPrefixBefore}
use Rattle.ospf_graph.specs.declared.route.Route.{Route}
use Rattle.ospf_spf.proofs.PrefixOrder.{prefixes_told}
use Rattle.ospf_spf.specs.Changes.{changed, edited, prefix_of, put_of, stands_before}
use Rattle.ospf_spf.specs.declared.changes.Change.{Change}
use Rattle.ospf_spf.specs.declared.changes.Change.TheVariants.{Put, Gone}

-- no prefix stands both before and behind another
pub no_turn : (p q : Prefix) → IsPrefixBefore p q → IsPrefixBefore q p → ⊥
no_turn p q a b = prefixes_told.irrefl p (prefixes_told.trans p q p a b)

-- what the test says
pub told : (p q : Prefix) → Decides (stands_before p q) (IsPrefixBefore p q)
unfolding stands_before
told p q =
    Decides-or (nat_lt p.address.0 q.address.0) ((p.address.0 == q.address.0) && nat_lt p.length q.length) (Decides-ltb p.address.0 q.address.0)
    (Decides-and (p.address.0 == q.address.0) (nat_lt p.length q.length) (Decides-eqb p.address.0 q.address.0) (Decides-ltb p.length q.length))

by_cases : (b : Bool) → (b ≡ true → ⊥) → b ≡ false
by_cases true never = absurd (never refl)
by_cases false never = refl

fails : (p q : Prefix) → (IsPrefixBefore p q → ⊥) → stands_before p q ≡ false
fails p q never = by_cases (stands_before p q) (λ t. never ((told p q).0 t))

all_pass : {X : Type 0} (p : X → Bool) (xs : List X) → All (λ x. p x ≡ true) xs → filter p xs ≡ xs
all_pass p [] h = refl
all_pass {X} p (x ∷ xs) h =
    let e : p x ≡ true = All-head (λ (y : X). p y ≡ true) x xs h in
    rw e (ap (λ ys. x ∷ ys) (all_pass p xs (All-tail (λ (y : X). p y ≡ true) x xs h)))

none_pass : {X : Type 0} (p : X → Bool) (xs : List X) → All (λ x. p x ≡ false) xs → filter p xs ≡ []
none_pass p [] h = refl
none_pass {X} p (x ∷ xs) h =
    let e : p x ≡ false = All-head (λ (y : X). p y ≡ false) x xs h in
    rw e (none_pass p xs (All-tail (λ (y : X). p y ≡ false) x xs h))

three : {X : Type 0} (p : X → Bool) (xs ys zs us vs ws : List X) → filter p xs ≡ us → filter p ys ≡ vs → filter p zs ≡ ws
    → filter p (xs ++ (ys ++ zs)) ≡ us ++ (vs ++ ws)
three p xs ys zs us vs ws e f g =
    rw (filter-append p xs (ys ++ zs), filter-append p ys zs, e, f, g) refl

-- routes before the prefix of a change, those to it, and those behind it
pub changed_at : (xs ys zs : List Route) (c : Change) → All (λ r. IsPrefixBefore r.prefix (prefix_of c)) xs → All (λ r. r.prefix ≡ prefix_of c) ys
    → All (λ r. IsPrefixBefore (prefix_of c) r.prefix) zs → changed (xs ++ (ys ++ zs)) c ≡ xs ++ (put_of c ++ zs)
unfolding changed
changed_at xs ys zs c before at behind =
    let p = prefix_of c in
    let first : Route → Bool = λ r. stands_before r.prefix p in
    let last : Route → Bool = λ r. stands_before p r.prefix in
    let self_irrefl = λ (q : Prefix) (e : q ≡ p) (b : IsPrefixBefore q p). prefixes_told.irrefl p (subst (λ (x : Prefix). IsPrefixBefore x p) e b) in
    let other_irrefl = λ (q : Prefix) (e : q ≡ p) (b : IsPrefixBefore p q). prefixes_told.irrefl p (subst (λ (x : Prefix). IsPrefixBefore p x) e b) in
    let a1 : filter first xs ≡ xs = all_pass first xs (λ k d lt. (told (get_or xs k d).prefix p).1 (before k d lt)) in
    let a2 : filter first ys ≡ [] = none_pass first ys (λ k d lt. fails (get_or ys k d).prefix p (self_irrefl (get_or ys k d).prefix (at k d lt))) in
    let a3 : filter first zs ≡ [] = none_pass first zs (λ k d lt. fails (get_or zs k d).prefix p (no_turn p (get_or zs k d).prefix (behind k d lt))) in
    let b1 : filter last xs ≡ [] = none_pass last xs (λ k d lt. fails p (get_or xs k d).prefix (no_turn (get_or xs k d).prefix p (before k d lt))) in
    let b2 : filter last ys ≡ [] = none_pass last ys (λ k d lt. fails p (get_or ys k d).prefix (other_irrefl (get_or ys k d).prefix (at k d lt))) in
    let b3 : filter last zs ≡ zs = all_pass last zs (λ k d lt. (told p (get_or zs k d).prefix).1 (behind k d lt)) in
    let e : filter first (xs ++ (ys ++ zs)) ≡ xs ++ [] = three first xs ys zs xs [] [] a1 a2 a3 in
    let f : filter last (xs ++ (ys ++ zs)) ≡ zs = three last xs ys zs [] [] zs b1 b2 b3 in
    rw (e, f, append-nil) refl

-- one change more
pub edited_push : (routes : List Route) (cs : List Change) (c : Change) → edited routes (cs ++ c ∷ []) ≡ changed (edited routes cs) c
unfolding edited
edited_push routes cs c = fold-append changed routes cs (c ∷ [])

pub edited_none : (routes : List Route) → edited routes [] ≡ routes
unfolding edited
edited_none routes = refl

pub edited_more : (routes : List Route) (c : Change) (cs : List Change) → edited routes (c ∷ cs) ≡ edited (changed routes c) cs
unfolding edited
edited_more routes c cs = refl

-- what passes one of two tests that no element passes both of
both_filters : {X : Type 0} (p q : X → Bool) → ((x : X) → p x ≡ true → q x ≡ true → ⊥) → (xs : List X) → length (filter p xs) + length (filter q xs) ≤ length xs
both_filters p q apart [] = omega arith
both_filters {X} p q apart (x ∷ xs) = by_tests (p x) (q x) refl refl (both_filters p q apart xs)
  where
    by_tests : (a b : Bool) → p x ≡ a → q x ≡ b → length (filter p xs) + length (filter q xs) ≤ length xs
        → length (cond a (x ∷ filter p xs) (filter p xs)) + length (cond b (x ∷ filter q xs) (filter q xs)) ≤ suc (length xs)
    by_tests true true e f rest = absurd (apart x e f)
    by_tests true false e f rest = omega arith
    by_tests false true e f rest = omega arith
    by_tests false false e f rest = omega arith

put_length : (c : Change) → length (put_of c) ≤ 1
put_length (Put route) = omega arith
put_length (Gone prefix) = omega arith

changed_length : (routes : List Route) (c : Change) → length (changed routes c) ≤ length routes + 1
unfolding changed
changed_length routes c =
    let p = prefix_of c in
    let front : Route → Bool = λ r. stands_before r.prefix p in
    let back : Route → Bool = λ r. stands_before p r.prefix in
    let both = both_filters front back (λ r e f. no_turn r.prefix p ((told r.prefix p).0 e) ((told p r.prefix).0 f)) routes in
    let one = put_length c in
    omega (arith, both, one, length-append (filter front routes) (put_of c ++ filter back routes), length-append (put_of c) (filter back routes))

-- each change makes one route more at most
pub edited_length : (routes : List Route) (cs : List Change) → length (edited routes cs) ≤ length routes + length cs
edited_length routes [] = omega (arith, ap length (edited_none routes))
edited_length routes (c ∷ cs) = omega (arith, ap length (edited_more routes c cs), edited_length (changed routes c) cs, changed_length routes c)
