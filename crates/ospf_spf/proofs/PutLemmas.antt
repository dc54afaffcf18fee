-- A change that is made in its place.
use Rattle.std.proofs.Common.{add-one, suc, zero, set, Result, Ok, Err, ◌≡◌, ◌+◌, ◌<◌, ◌≤◌, ◌⊎◌, ◌++◌, ◌∷◌, ℕ, true, false, List, [], length, take, drop, get_or, refl, sym, ap, subst, ◌∙◌, inl, inr, arith, ltb, ltb-true}
use Rattle.std.specs.List.{All, AllPairs}
use Rattle.std.specs.Result.{OnErr, OnOk}
use Rattle.std.specs.List.Sorted.{IsNonDecreasingBy, IsPartitionPoint}
use Rattle.std.proofs.lemmas.List.{drop_more, get_or_default, take-append-drop}
use Rattle.std.proofs.lemmas.List.Elements.{All-cons, All-nil}
use Rattle.ospf_base.specs.declared.prefix.Prefix.{Prefix}
use Rattle.ospf_base.specs.Prefixes.{IsPrefixBefore}
use Rattle.ospf_graph.specs.Routes.{IsRouteBefore}
use Rattle.ospf_graph.specs.declared.route.Route.{Route}
use Rattle.ospf_spf.proofs.ChangeLemmas.{from_place, to_place}
use Rattle.ospf_spf.proofs.EditLemmas.{changed_at}
use Rattle.ospf_spf.proofs.Groups.{code_before, code_same}
use Rattle.ospf_spf.specs.Changes.{changed, prefix_of, put_of}
use Rattle.ospf_spf.specs.Reach.{prefix_code}
use Rattle.ospf_spf.specs.declared.changes.Change.{Change}
use Rattle.ospf_spf.specs.declared.changes.Change.TheVariants.{Put}

code_rises : (p q : Prefix) → IsPrefixBefore p q → prefix_code p < prefix_code q
code_rises p q before = let a = p.short in let b = q.short in grind arith

same_or_more : (i j : ℕ) → i ≤ j → (i ≡ j) ⊎ (i < j)
same_or_more i j le = grind arith

more_or_same : (a b : ℕ) → a ≤ b → (a < b) ⊎ (a ≡ b)
more_or_same a b le = grind arith

not_less : (a b : ℕ) → ltb a b ≡ false → b ≤ a
not_less a b h = grind arith

pub codes_in_order : (routes : List Route) → AllPairs IsRouteBefore routes → IsNonDecreasingBy (λ r. prefix_code r.prefix) routes
codes_in_order routes order i j d le lt = elim (same_or_more i j le) [
  | inl same ↦ (let e = ap (λ (k : ℕ). prefix_code (get_or routes k d).prefix) same in omega arith)
  | inr less ↦ (let h = code_rises (get_or routes i d).prefix (get_or routes j d).prefix (order i j d less lt) in omega arith)
]

module _ (routes : List Route) (order : AllPairs IsRouteBefore routes) (c : Change) (place : ℕ) where
  -- where the route to its prefix stands
  pub made_there : place < length routes → ((d : Route) → (get_or routes place d).prefix ≡ prefix_of c) → take place routes ++ (put_of c ++ drop (place + 1) routes) ≡ changed routes c
  made_there lt at = by (get_or_any routes place lt)
    where
      by : Route → take place routes ++ (put_of c ++ drop (place + 1) routes) ≡ changed routes c
      by d =
          let r = get_or routes place d in
          let here : (e : Route) → r ≡ get_or routes place e = λ e. get_or_default routes place d e lt in
          let before : All (λ x. IsPrefixBefore x.prefix (prefix_of c)) (take place routes) =
          to_place (λ x. IsPrefixBefore x.prefix (prefix_of c)) routes place (omega arith)
          (λ k e less. subst (λ (p : Prefix). IsPrefixBefore (get_or routes k e).prefix p) (at e) (order k place e less lt)) in
          let behind : All (λ x. IsPrefixBefore (prefix_of c) x.prefix) (drop (place + 1) routes) =
          from_place (λ x. IsPrefixBefore (prefix_of c) x.prefix) routes (place + 1)
          (λ k e le within. subst (λ (p : Prefix). IsPrefixBefore p (get_or routes k e).prefix) (at e) (order place k e (omega arith) within)) in
          let one : All (λ x. x.prefix ≡ prefix_of c) (r ∷ []) = All-cons (λ (x : Route). x.prefix ≡ prefix_of c) r [] (at d) (All-nil _) in
          let split : take place routes ++ ((r ∷ []) ++ drop (place + 1) routes) ≡ routes =
          ap (λ l. take place routes ++ l) (sym (drop_more routes place d lt)) ∙ take-append-drop place routes in
          sym (changed_at (take place routes) (r ∷ []) (drop (place + 1) routes) c before one behind) ∙ ap (λ l. changed l c) split

      get_or_any : (rs : List Route) (i : ℕ) → i < length rs → Route
      get_or_any [] i lt = absurd (omega arith)
      get_or_any (x ∷ xs) i lt = x

  -- and where none does
  pub made_new : place ≤ length routes → IsPartitionPoint (λ r. ltb (prefix_code r.prefix) (prefix_code (prefix_of c)) ≡ true) (λ r. ltb (prefix_code r.prefix) (prefix_code (prefix_of c)) ≡ false) routes place
      → ((place < length routes) → ((d : Route) → (get_or routes place d).prefix ≡ prefix_of c) → ⊥) → take place routes ++ (put_of c ++ drop place routes) ≡ changed routes c
  made_new within point none =
      let p = prefix_of c in
      let before : All (λ x. IsPrefixBefore x.prefix p) (take place routes) =
      to_place (λ x. IsPrefixBefore x.prefix p) routes place within
      (λ k e less. code_before (get_or routes k e).prefix p (ltb-true (prefix_code (get_or routes k e).prefix) (prefix_code p) (point.0 k e (omega arith) less))) in
      let behind : All (λ x. IsPrefixBefore p x.prefix) (drop place routes) = from_place (λ x. IsPrefixBefore p x.prefix) routes place (λ k e le lt. stands_behind k e le lt) in
      sym (changed_at (take place routes) [] (drop place routes) c before (All-nil _) behind) ∙ ap (λ l. changed l c) (take-append-drop place routes)
    where
      stands_behind : (k : ℕ) (e : Route) → place ≤ k → k < length routes → IsPrefixBefore (prefix_of c) (get_or routes k e).prefix
      stands_behind k e le lt =
          let low : prefix_code (prefix_of c) ≤ prefix_code (get_or routes k e).prefix = not_less (prefix_code (get_or routes k e).prefix) (prefix_code (prefix_of c)) (point.1 k e le lt) in
          elim (more_or_same (prefix_code (prefix_of c)) (prefix_code (get_or routes k e).prefix) low) [
            | inl less ↦ code_before (prefix_of c) (get_or routes k e).prefix less
            | inr same ↦ absurd (elim (same_or_more place k le) [
              | inl here ↦ none (omega arith) (λ d.
                  let at : (get_or routes place e).prefix ≡ prefix_of c = ap (λ (i : ℕ). (get_or routes i e).prefix) here ∙ sym (code_same (prefix_of c) (get_or routes k e).prefix same) in
                  ap (λ (r : Route). r.prefix) (get_or_default routes place d e (omega arith)) ∙ at)
              | inr later ↦
                  let first : prefix_code (prefix_of c) ≤ prefix_code (get_or routes place e).prefix = not_less (prefix_code (get_or routes place e).prefix) (prefix_code (prefix_of c)) (point.1 place e (omega arith) (omega arith)) in
                  let rises : prefix_code (get_or routes place e).prefix < prefix_code (get_or routes k e).prefix = code_rises (get_or routes place e).prefix (get_or routes k e).prefix (order place k e later lt) in
                  omega arith
            ])
          ]

-- ---- one route in the place of another

set_at : (rs : List Route) (i : ℕ) (r : Route) → i < length rs → set rs i r ≡ take i rs ++ (r ∷ drop (suc i) rs)
set_at [] i r lt = absurd (omega arith)
set_at (x ∷ xs) zero r lt = refl
set_at (x ∷ xs) (suc i) r lt = ap (λ l. x ∷ l) (set_at xs i r (omega arith))

pub set_there : (rs : List Route) (i : ℕ) (r : Route) (c : Change) → i < length rs → c ≡ Put r → set rs i r ≡ take i rs ++ (put_of c ++ drop (i + 1) rs)
set_there rs i r c lt is =
    set_at rs i r lt ∙ ap (λ n. take i rs ++ (r ∷ drop n rs)) (sym (add-one i)) ∙ ap (λ (d : Change). take i rs ++ (put_of d ++ drop (i + 1) rs)) (sym is)

-- ---- either way

pub either : {T E Z : Type 0} (r : Result T E) (X Y : Type 0) → OnOk r X → OnErr r Y → (X → Z) → (Y → Z) → Z
either (Ok x) X Y ok err f g = f ok
either (Err e) X Y ok err f g = g err

pub then_ok : {T E : Type 0} (r : Result T E) (X Y : Type 0) → OnOk r X → (X → Y) → OnOk r Y
then_ok (Ok x) X Y ok f = f ok
then_ok (Err e) X Y ok f = tt
