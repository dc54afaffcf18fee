-- Walks, leg by leg.
use Rattle.std.proofs.Common.{◌≡◌, ◌≢◌, ◌<◌, ◌≤◌, ◌+◌, ◌-◌, ◌%◌, ◌==◌, ◌++◌, find, slice_get, map, is_some, Bool, true, false, ℕ, zero, suc, List, [], ◌∷◌, Option, None, Some, length, drop, refl, sym, ap, subst, ◌∙◌, append_assoc, arith}
use Rattle.ospf_base.specs.declared.ids.RouterId.{RouterId}
use Rattle.std.specs.Prelude.{option_and_then}
use Rattle.ospf_graph.specs.Walk.{IsBest, IsLinkCost, IsNext}
use Rattle.ospf_graph.specs.declared.hop.NextHop.{NextHop}
use Rattle.ospf_world.specs.Walks.{ChosenWalksArrive, adverts, IsWalkOf, WalksBy, WorldWalk, choice_of, other_choices}
use Rattle.ospf_world.specs.World.{Member, Running, World, router_at}
use Rattle.ospf_world.specs.declared.walk.WalkEnd.{WalkEnd}
use Rattle.ospf_world.specs.declared.walk.WalkEnd.TheVariants as ends
use Rattle.ospf_world.specs.declared.walk.Leg.{Leg}
use Rattle.ospf_world.specs.declared.walk.Leg.TheVariants.{Ends, Goes}
use Rattle.ospf_world.specs.Legs.{IsLeg, LegsOver}
use Rattle.std.proofs.lemmas.List.{length-map}
use Rattle.ospf_world.specs.Slots.{SlotValue, member_of}
use Rattle.ospf_world.specs.Worlds.{WorldValue, world_of}
use Rattle.ospf_world.proofs.ListFacts.{none_left, one_left}

others_at : (xs : List ℕ) (i : ℕ) → other_choices (drop i xs) ≡ drop (i + 1) xs
others_at [] zero = refl
others_at [] (suc i) = ap (λ (n : ℕ). drop {A = ℕ} n []) (let e : suc (suc i) ≡ suc i + 1 = omega arith in e)
others_at (x ∷ xs) zero = refl
others_at (x ∷ xs) (suc i) = others_at xs i ∙ ap (λ (n : ℕ). drop n (x ∷ xs)) (let e : suc (i + 1) ≡ suc i + 1 = omega arith in e)

module _ (w : World) (address : ℕ) (choices : List ℕ) (from : RouterId) (n : ℕ) where
  -- what is left of the walk completes it
  abbrev pub Completes : ℕ → RouterId → List RouterId → ℕ → Type 0
  Completes i at met paid = (routers : List RouterId) (left : ℕ) (end : WalkEnd) → IsWalkOf w address (n - i) (drop i choices) at routers left end → IsWalkOf w address n choices from (met ++ routers) (paid + left) end

  step : (i : ℕ) (at : RouterId) (met routers : List RouterId) (paid left : ℕ) (end : WalkEnd) → i < n → Completes i at met paid
      → WalksBy w address (choice_of (drop i choices)) (IsWalkOf w address (n - (i + 1)) (other_choices (drop i choices))) at routers left end → IsWalkOf w address n choices from (met ++ routers) (paid + left) end
  step i at met routers paid left end within all by =
      let one : IsWalkOf w address (suc (n - (i + 1))) (drop i choices) at routers left end = by in
      all routers left end (subst (λ (k : ℕ). IsWalkOf w address k (drop i choices) at routers left end) (sym (one_left n i within)) one)

  pub walk_ends : (i : ℕ) (at : RouterId) (met : List RouterId) (paid choice last : ℕ) (leg : Leg) (end : WalkEnd) → i < n → choice ≡ choice_of (drop i choices) → IsLeg w address choice at leg → leg ≡ Ends last end → Completes i at met paid
      → IsWalkOf w address n choices from (met ++ at ∷ []) (paid + last) end
  walk_ends i at met paid choice last leg end within is (IsLeg.Stops none fin) said all =
      let h : Ends 0 ends.NotRunning ≡ Ends last end = sym fin ∙ said in
      let zero_cost : last ≡ 0 = cc in
      let ended : end ≡ ends.NotRunning = cc in
      step i at met (at ∷ []) paid last end within all (WalksBy.Stops none refl zero_cost ended)
  walk_ends i at met paid choice last leg end within is (IsLeg.Strays x runs none fin) said all =
      let h : Ends 0 ends.NoRoute ≡ Ends last end = sym fin ∙ said in
      let zero_cost : last ≡ 0 = cc in
      let ended : end ≡ ends.NoRoute = cc in
      step i at met (at ∷ []) paid last end within all (WalksBy.Strays x runs none refl zero_cost ended)
  walk_ends i at met paid choice last leg end within is (IsLeg.Legs x route hop runs best taken (LegsOver.Here here fin)) said all =
      let h : Ends route.cost ends.Arrived ≡ Ends last end = sym fin ∙ said in
      let cost_is : last ≡ route.cost = cc in
      let ended : end ≡ ends.Arrived = cc in
      let at_choice = subst (λ (k : ℕ). slice_get route.hops (k % length route.hops) ≡ Some hop) is taken in
      step i at met (at ∷ []) paid last end within all (WalksBy.Arrives x route runs best (at_choice ∙ ap (λ (o : NextHop). Some o) here) refl cost_is ended)
  walk_ends i at met paid choice last leg end within is (IsLeg.Legs x route hop runs best taken (LegsOver.There next link named costs goes)) said all =
      absurd (let h : Goes next link ≡ Ends last end = sym goes ∙ said in cc)

  pub walk_goes : (i : ℕ) (at : RouterId) (met : List RouterId) (paid choice link : ℕ) (leg : Leg) (next : RouterId) → i < n → choice ≡ choice_of (drop i choices) → IsLeg w address choice at leg → leg ≡ Goes next link → Completes i at met paid
      → Completes (i + 1) next (met ++ at ∷ []) (paid + link)
  walk_goes i at met paid choice link leg next within is (IsLeg.Stops none fin) said all = absurd (let h = sym fin ∙ said in cc)
  walk_goes i at met paid choice link leg next within is (IsLeg.Strays x runs none fin) said all = absurd (let h = sym fin ∙ said in cc)
  walk_goes i at met paid choice link leg next within is (IsLeg.Legs x route hop runs best taken (LegsOver.Here here fin)) said all = absurd (let h = sym fin ∙ said in cc)
  walk_goes i at met paid choice link leg next within is (IsLeg.Legs x route hop runs best taken (LegsOver.There b cost named costs goes)) said all = λ routers left end rest.
      let h : Goes b cost ≡ Goes next link = sym goes ∙ said in
      let next_is : b ≡ next = cc in
      let cost_is : cost ≡ link = cc in
      let at_choice = subst (λ (k : ℕ). slice_get route.hops (k % length route.hops) ≡ Some hop) is taken in
      let on : IsWalkOf w address (n - (i + 1)) (other_choices (drop i choices)) next routers left end = subst (λ (cs : List ℕ). IsWalkOf w address (n - (i + 1)) cs next routers left end) (sym (others_at choices i)) rest in
      let by = step i at met (at ∷ routers) paid (link + left) end within all
      (WalksBy.Hops x route hop next link routers left runs best at_choice (subst (λ (q : RouterId). IsNext hop q) next_is named) (subst (λ (m : ℕ). IsLinkCost (adverts x) at hop m) cost_is costs) on refl refl) in
      let lists : met ++ (at ∷ routers) ≡ (met ++ at ∷ []) ++ routers = sym (append_assoc met (at ∷ []) routers) in
      let sums : paid + (link + left) ≡ (paid + link) + left = omega arith in
      subst (λ (rs : List RouterId). IsWalkOf w address n choices from rs ((paid + link) + left) end) lists (subst (λ (m : ℕ). IsWalkOf w address n choices from (met ++ (at ∷ routers)) m end) sums by)

  pub walk_turns : (i : ℕ) (at : RouterId) (met : List RouterId) (paid : ℕ) → n ≤ i → Completes i at met paid → IsWalkOf w address n choices from (met ++ at ∷ []) paid ends.Turns
  walk_turns i at met paid past all =
      let rest : IsWalkOf w address zero (drop i choices) at (at ∷ []) 0 ends.Turns = (refl, refl, refl) in
      let whole = all (at ∷ []) 0 ends.Turns (subst (λ (k : ℕ). IsWalkOf w address k (drop i choices) at (at ∷ []) 0 ends.Turns) (sym (none_left n i past)) rest) in
      let sums : paid + 0 ≡ paid = omega arith in
      subst (λ (m : ℕ). IsWalkOf w address n choices from (met ++ at ∷ []) m ends.Turns) sums whole

-- the router is there
pub some_of : (o : Option Member) (b : Bool) → b ≡ is_some o → b ≡ true → (m : Member) × (o ≡ Some m)
some_of None b is so = absurd (let h : b ≡ false = is in cc)
some_of (Some m) b is so = (m, refl)

-- as many hops as the world has routers
pub whole_walk : (w : WorldValue) (slots : List SlotValue) (address : ℕ) (choices : List ℕ) (from : RouterId) (routers met : List RouterId) (paid : ℕ) (end : WalkEnd) → slots ≡ w.slots → routers ≡ met
    → IsWalkOf (world_of w) address (length slots) choices from met paid end → WorldWalk (world_of w) address choices from routers paid end
whole_walk w slots address choices from routers met paid end slots_are met_are walk =
    let count : length slots ≡ length (map member_of w.slots) = ap (λ (xs : List SlotValue). length xs) slots_are ∙ sym (length-map w.slots member_of) in
    subst (λ (rs : List RouterId). WorldWalk (world_of w) address choices from rs paid end) (sym met_are)
    (subst (λ (n : ℕ). IsWalkOf (world_of w) address n choices from met paid end) count walk)

-- ---- no walk turns

no_member : (w : World) (r : RouterId) (x : Running) → zero ≡ length w.routers → router_at w r ≡ Some x → ⊥
unfolding router_at
no_member w r x none runs = go w.routers none runs
  where
    go : (ms : List Member) → zero ≡ length ms → option_and_then (λ (m : Member). m.running) (find (λ (m : Member). m.router.0 == r.0) ms) ≡ Some x → ⊥
    go [] none runs = cc
    go (m ∷ ms) none runs = cc

turns_not : (w : World) (a : RouterId) (x : Running) (n address : ℕ) (choices : List ℕ) (routers : List RouterId) (paid : ℕ) (end : WalkEnd) → n ≡ length w.routers → router_at w a ≡ Some x → ChosenWalksArrive w a x
    → IsWalkOf w address n choices a routers paid end → end ≢ ends.Turns
turns_not w a x zero address choices routers paid end count runs arrive walk = absurd (no_member w a x count runs)
turns_not w a x (suc n) address choices routers paid end count runs arrive (WalksBy.Stops none met cost ended) = absurd (let h = sym none ∙ runs in cc)
turns_not w a x (suc n) address choices routers paid end count runs arrive (WalksBy.Strays y there none met cost ended) = λ turned. let h = sym ended ∙ turned in cc
turns_not w a x (suc n) address choices routers paid end count runs arrive (WalksBy.Arrives y route there best taken met cost ended) = λ turned. let h = sym ended ∙ turned in cc
turns_not w a x (suc n) address choices routers paid end count runs arrive (WalksBy.Hops y route hop next link rest left there best taken named costs on met cost) = λ turned.
    let same : y ≡ x = (let h : Some y ≡ Some x = sym there ∙ runs in cc) in
    let first : IsBest x.table address route = subst (λ (z : Running). IsBest z.table address route) same best in
    let walk : IsWalkOf w address (suc n) choices a routers paid end = WalksBy.Hops y route hop next link rest left there best taken named costs on met cost in
    let whole : WorldWalk w address choices a routers paid end = subst (λ (k : ℕ). IsWalkOf w address k choices a routers paid end) count walk in
    let arrived = (arrive address route first choices routers paid end whole).arrived in
    let h = sym arrived ∙ turned in cc

pub never_turns : (w : World) (a : RouterId) (x : Running) (address : ℕ) (choices : List ℕ) (routers : List RouterId) (paid : ℕ) (end : WalkEnd) → router_at w a ≡ Some x → ChosenWalksArrive w a x
    → WorldWalk w address choices a routers paid end → end ≢ ends.Turns
never_turns w a x address choices routers paid end runs arrive walk = turns_not w a x (length w.routers) address choices routers paid end refl runs arrive walk
