-- A new world.
use Rattle.std.proofs.Common.{Bool, ◌≡◌, ◌++◌, ◌+◌, ◌<◌, ◌==◌, ◌⊎◌, inl, inr, ℕ, zero, suc, List, [], ◌∷◌, Option, None, Some, map, refl, sym, ap, subst, ◌∙◌, cond, true, false, slice_get, length, eqb-true, arith, option_and_then, find, is_some, Result, Ok, Err}
use Rattle.std.specs.BTreeMap as tree
use Rattle.std.specs.Map.{lookup}
use Rattle.std.specs.Ordering.{nat_cmp}
use Rattle.std.specs.Result.{IsErrAnd}
use Rattle.std.proofs.lemmas.Bool.Decides.{Decides-eqb}
use Rattle.std.proofs.lemmas.Bool.{cond-false, cond-true}
use Rattle.std.proofs.lemmas.Option.{same_Some}
use Rattle.ospf_base.specs.declared.ids.RouterId.{RouterId}
use Rattle.ospf_config.specs.declared.config.Config.{Config}
use Rattle.ospf_world.specs.World.{IsNewWorld}
use Rattle.ospf_base.specs.declared.event.event.WorldFault.{WorldFault}
use Rattle.ospf_base.specs.declared.event.event.WorldFault.TheVariants as fault
use Rattle.ospf_router.proofs.AreaStep.StateFacts.{slice_get-append_cases}
use Rattle.ospf_world.specs.Slots.{SlotValue}
use Rattle.ospf_config.specs.Configs.{ShareRouter}
use Rattle.ospf_world.specs.Worlds.{AddsConfig, AreSlotPlaces, Opens, WorldValue, is_slot_of, new_world, place_from, place_in, place_of, stopped_slot, world_of}
use Rattle.ospf_world.proofs.PlaceFacts.{IsAt, placed}
use Rattle.ospf_world.proofs.WorldFacts.{id_is, router_at-is}

none_some : {A : Type 0} (x : A) → None ≡ Some x → ⊥
none_some x e = cc e

-- ---- places

place_new : (slots : List SlotValue) (s : SlotValue) (r n : ℕ) → place_from r n slots ≡ None → is_slot_of r s ≡ true → place_from r n (slots ++ s ∷ []) ≡ Some (n + length slots)
place_new [] s r n none is = cond-true (is_slot_of r s) (Some n) None is ∙ ap (λ m. Some m) (omega arith)
place_new (t ∷ slots) s r n none is = go (is_slot_of r t) none (λ none. place_new slots s r (n + 1) none is)
  where
    go : (b : Bool) → cond b (Some n) (place_from r (n + 1) slots) ≡ None → (place_from r (n + 1) slots ≡ None → place_from r (n + 1) (slots ++ s ∷ []) ≡ Some ((n + 1) + length slots)) → cond b (Some n) (place_from r (n + 1) (slots ++ s ∷ [])) ≡ Some (n + suc (length slots))
    go true none rest = absurd (none_some n (sym none))
    go false none rest = rest none ∙ ap (λ m. Some m) (omega arith)

place_old : (slots : List SlotValue) (s : SlotValue) (r n : ℕ) → is_slot_of r s ≡ false → place_from r n (slots ++ s ∷ []) ≡ place_from r n slots
place_old [] s r n is = cond-false (is_slot_of r s) (Some n) None is
place_old (t ∷ slots) s r n is = ap (λ o. cond (is_slot_of r t) (Some n) o) (place_old slots s r (n + 1) is)

from_none : (n : ℕ) → n ≡ 0 + n
from_none n = omega arith

-- the places of one more
pub places_more : (config : Config) (slots : List SlotValue) (places places' : tree.BTreeMap ℕ ℕ) → AreSlotPlaces places slots → place_in places config.router_id.0 ≡ None →
    ((r : ℕ) → place_in places' r ≡ cond (config.router_id.0 == r) (Some (length slots)) (place_in places r)) → AreSlotPlaces places' (slots ++ stopped_slot config ∷ [])
places_more config slots places places' are none added r = added r ∙ go (config.router_id.0 == r) refl
  where
    go : (b : Bool) → (config.router_id.0 == r) ≡ b → cond (config.router_id.0 == r) (Some (length slots)) (place_in places r) ≡ place_of (slots ++ stopped_slot config ∷ []) r
    go true is = cond-true (config.router_id.0 == r) (Some (length slots)) (place_in places r) is
        ∙ ap (λ (m : ℕ). Some m) (from_none (length slots)) ∙ sym (place_new slots (stopped_slot config) r 0 (sym (are r) ∙ subst (λ q. place_in places q ≡ None) (eqb-true config.router_id.0 r is) none) is)
    go false is = cond-false (config.router_id.0 == r) (Some (length slots)) (place_in places r) is ∙ (are r ∙ sym (place_old slots (stopped_slot config) r 0 is))

-- ---- Router IDs

-- one that has a place is that of a configuration
config_at : (configs : List Config) (r k : ℕ) → IsAt (map stopped_slot configs) r k → (a : Config) × (slice_get configs k ≡ Some a) × (a.router_id.0 ≡ r)
config_at [] r k at = absurd at
config_at (c ∷ configs) r zero at = (c, refl, eqb-true c.router_id.0 r at)
config_at (c ∷ configs) r (suc k) at = config_at configs r k at.1

-- one of a configuration has a place
has_place : (configs : List Config) (r n i : ℕ) (a : Config) → slice_get configs i ≡ Some a → a.router_id.0 ≡ r → place_from r n (map stopped_slot configs) ≡ None → ⊥
has_place [] r n i a at is none = none_some a at
has_place (c ∷ configs) r n zero a at is none = none_some n (sym none ∙ cond-true (c.router_id.0 == r) (Some n) (place_from r (n + 1) (map stopped_slot configs)) ((Decides-eqb c.router_id.0 r).1 (ap (λ (c : Config). c.router_id.0) (same_Some c a at) ∙ is)))
has_place (c ∷ configs) r n (suc i) a at is none = go (c.router_id.0 == r) none (λ none. has_place configs r (n + 1) i a at is none)
  where
    go : (b : Bool) → cond b (Some n) (place_from r (n + 1) (map stopped_slot configs)) ≡ None → (place_from r (n + 1) (map stopped_slot configs) ≡ None → ⊥) → ⊥
    go true none rest = none_some n (sym none)
    go false none rest = rest none

get_before : (xs ys : List Config) (k : ℕ) (x : Config) → slice_get xs k ≡ Some x → slice_get (xs ++ ys) k ≡ Some x
get_before [] ys k x at = absurd (none_some x at)
get_before (c ∷ xs) ys zero x at = at
get_before (c ∷ xs) ys (suc k) x at = get_before xs ys k x at

get_next : (xs ys : List Config) (x : Config) → slice_get (xs ++ x ∷ ys) (length xs) ≡ Some x
get_next [] ys x = refl
get_next (c ∷ xs) ys x = get_next xs ys x

place_within : (xs : List Config) (k : ℕ) (x : Config) → slice_get xs k ≡ Some x → k < length xs
place_within [] k x at = absurd (none_some x at)
place_within (c ∷ xs) zero x at = omega arith
place_within (c ∷ xs) (suc k) x at = let h = place_within xs k x at in omega (arith, h)

-- one more, of a Router ID that has a place, shares it
pub shares : (yielded rest : List Config) (config : Config) (k : ℕ) → place_of (map stopped_slot yielded) config.router_id.0 ≡ Some k → ShareRouter (yielded ++ config ∷ rest)
shares yielded rest config k at =
    let (a, get, is) = config_at yielded config.router_id.0 k (placed (map stopped_slot yielded) config.router_id.0 k at) in
    record { place = k; later = length yielded; before = place_within yielded k a get; one = a; other = config; at_place = get_before yielded (config ∷ rest) k a get; at_later = get_next yielded rest config; same = id_is a.router_id config.router_id is }

-- and of one that has none, does not
pub shares_not : (yielded : List Config) (config : Config) → place_of (map stopped_slot yielded) config.router_id.0 ≡ None → (ShareRouter yielded → ⊥) → ShareRouter (yielded ++ config ∷ []) → ⊥
shares_not yielded config none apart s = by (slice_get-append_cases yielded (config ∷ []) s.later s.other s.at_later)
  where
    first : (s.later < length yielded + 1) → slice_get yielded s.place ≡ Some s.one
    first within = go (slice_get-append_cases yielded (config ∷ []) s.place s.one s.at_place)
      where
        go : (slice_get yielded s.place ≡ Some s.one) ⊎ ((m : ℕ) × (s.place ≡ length yielded + m) × (slice_get (config ∷ []) m ≡ Some s.one)) → slice_get yielded s.place ≡ Some s.one
        go (inl at) = at
        go (inr (m, is, at)) = let lt = s.before in absurd (omega (arith, is, lt, within))

    by : (slice_get yielded s.later ≡ Some s.other) ⊎ ((m : ℕ) × (s.later ≡ length yielded + m) × (slice_get (config ∷ []) m ≡ Some s.other)) → ⊥
    by (inl at) = let within = place_within yielded s.later s.other at in apart (record { place = s.place; later = s.later; before = s.before; one = s.one; other = s.other; at_place = first (omega (arith, within)); at_later = at; same = s.same })
    by (inr (zero, is, at)) = has_place yielded config.router_id.0 0 s.place s.one (first (omega (arith, is))) (ap (λ (q : RouterId). q.0) s.same ∙ ap (λ (c : Config). c.router_id.0) (sym (same_Some config s.other at))) none
    by (inr (suc m, is, at)) = none_some s.other at

-- ---- the world

-- what it is made of, so far
pub record IsBegun (yielded : List Config) (slots : List SlotValue) (places : tree.BTreeMap ℕ ℕ) : Type 0 where
  pub slots_are : slots ≡ map stopped_slot yielded
  pub places_are : AreSlotPlaces places slots
  pub apart : ShareRouter yielded → ⊥

map_more : (xs : List Config) (x : Config) → map stopped_slot (xs ++ x ∷ []) ≡ map stopped_slot xs ++ stopped_slot x ∷ []
map_more [] x = refl
map_more (y ∷ xs) x = ap (λ ys. stopped_slot y ∷ ys) (map_more xs x)

pub begun_more : (yielded : List Config) (config : Config) (slots slots' : List SlotValue) (places places' : tree.BTreeMap ℕ ℕ) → IsBegun yielded slots places → place_in places config.router_id.0 ≡ None → slots' ≡ slots ++ stopped_slot config ∷ [] →
    ((r : ℕ) → place_in places' r ≡ cond (config.router_id.0 == r) (Some (length slots)) (place_in places r)) → IsBegun (yielded ++ config ∷ []) slots' places'
begun_more yielded config slots slots' places places' b none is added = record {
  slots_are = is ∙ (ap (λ ss. ss ++ stopped_slot config ∷ []) b.slots_are ∙ sym (map_more yielded config));
  places_are = subst (AreSlotPlaces places') (sym is) (places_more config slots places places' b.places_are none added);
  apart = shares_not yielded config (sym (ap (λ ss. place_of ss config.router_id.0) b.slots_are) ∙ (sym (b.places_are config.router_id.0) ∙ none)) b.apart;
}

abbrev fault_as : List Config → Result (Unit {0}) WorldFault → Result WorldValue WorldFault
fault_as configs (Ok u) = Ok (new_world configs)
fault_as configs (Err f) = Err f

abbrev ok_or : WorldValue → Result WorldValue WorldFault → WorldValue
ok_or w (Ok v) = v
ok_or w (Err f) = w

-- a Router ID that has a place
pub same_router : (config : Config) (slots : List SlotValue) (places : tree.BTreeMap ℕ ℕ) (o : Option ℕ) → o ≡ place_in places config.router_id.0 → is_some o ≡ true → AddsConfig config slots places (Err fault.SameRouter) slots places
same_router config slots places None is some = absurd (cc some)
same_router config slots places (Some k) is some = AddsConfig.SameRouter k (sym is) refl

pub begun_added : (yielded : List Config) (config : Config) (slots slots' : List SlotValue) (places places' : tree.BTreeMap ℕ ℕ) (result : Result (Unit {0}) WorldFault) → IsBegun yielded slots places → AddsConfig config slots places result slots' places' → result ≡ Ok tt → IsBegun (yielded ++ config ∷ []) slots' places'
begun_added yielded config slots slots' places places' result b (AddsConfig.Added none ok is added) at = begun_more yielded config slots slots' places places' b none is added
begun_added yielded config slots slots' places places' result b (AddsConfig.SameRouter k has err) at = absurd (let e = sym err ∙ at in cc e)
begun_added yielded config slots slots' places places' result b (AddsConfig.NoMemory err) at = absurd (let e = sym err ∙ at in cc e)

-- where one more has no slot, no world opens
pub opens_err : (configs yielded rest : List Config) (config : Config) (slots slots' : List SlotValue) (places places' : tree.BTreeMap ℕ ℕ) (result : Result (Unit {0}) WorldFault) (f : WorldFault) → configs ≡ yielded ++ config ∷ rest → IsBegun yielded slots places → AddsConfig config slots places result slots' places' → result ≡ Err f → Opens configs (Err f)
opens_err configs yielded rest config slots slots' places places' result f all b (AddsConfig.Added none ok is added) at = absurd (let e = sym ok ∙ at in cc e)
opens_err configs yielded rest config slots slots' places places' result f all b (AddsConfig.SameRouter k has err) at =
    Opens.SameRouter (subst ShareRouter (sym all) (shares yielded rest config k (sym (ap (λ ss. place_of ss config.router_id.0) b.slots_are) ∙ (sym (b.places_are config.router_id.0) ∙ has)))) (ap (fault_as configs) (sym at ∙ err))
opens_err configs yielded rest config slots slots' places places' result f all b (AddsConfig.NoMemory err) at = Opens.NoMemory (ap (fault_as configs) (sym at ∙ err))

pub begun_none : (places : tree.BTreeMap ℕ ℕ) → ((r : ℕ) → place_in places r ≡ None) → IsBegun [] [] places
begun_none places none = record { slots_are = refl; places_are = none; apart = λ s. none_some s.one s.at_place }

-- nothing runs in a new world
none_runs : (configs : List Config) (r : ℕ) → option_and_then (λ (s : SlotValue). s.running) (find (is_slot_of r) (map stopped_slot configs)) ≡ None
none_runs [] r = refl
none_runs (c ∷ configs) r = go (c.router_id.0 == r) (none_runs configs r)
  where
    go : (b : Bool) → option_and_then (λ (s : SlotValue). s.running) (find (is_slot_of r) (map stopped_slot configs)) ≡ None → option_and_then (λ (s : SlotValue). s.running) (cond b (Some (stopped_slot c)) (find (is_slot_of r) (map stopped_slot configs))) ≡ None
    go true rest = refl
    go false rest = rest

pub is_new : (configs : List Config) → IsNewWorld (world_of (new_world configs))
is_new configs = record { none_runs = λ r. router_at-is (new_world configs) r ∙ none_runs configs r.0; no_datagrams = refl; none_issued = refl; none_held = refl }

-- a world that opens is the new one of its configurations
pub opened_new : (configs : List Config) (result : Result WorldValue WorldFault) (w : WorldValue) → Opens configs result → result ≡ Ok w → new_world configs ≡ w
opened_new configs result w (Opens.Begins apart ok) at = ap (ok_or w) (sym ok ∙ at)
opened_new configs result w (Opens.SameRouter shared err) at = absurd (let e = sym err ∙ at in cc e)
opened_new configs result w (Opens.NoMemory err) at = absurd (let e = sym err ∙ at in cc e)

-- a walk goes on by one
pub walked_on : (configs yielded rest rest' : List Config) (config : Config) → configs ≡ yielded ++ rest → rest ≡ config ∷ rest' → configs ≡ (yielded ++ config ∷ []) ++ rest'
walked_on configs yielded rest rest' config walked step = walked ∙ (ap (λ t. yielded ++ t) step ∙ go yielded)
  where
    go : (xs : List Config) → xs ++ config ∷ rest' ≡ (xs ++ config ∷ []) ++ rest'
    go [] = refl
    go (x ∷ xs) = ap (λ t. x ∷ t) (go xs)

-- an empty index has no place
pub empty_none : (places : tree.BTreeMap ℕ ℕ) → places.entries ≡ [] → (r : ℕ) → place_in places r ≡ None
empty_none places none r = ap (λ es. lookup (tree.is_at (nat_cmp r)) es) none

-- what is handed on is the fault
pub opens_fault : (configs : List Config) (result : Result WorldValue WorldFault) (f : WorldFault) → IsErrAnd result (λ e. e ≡ f) → Opens configs (Err f) → Opens configs result
opens_fault configs (Ok w) f is opens = absurd is
opens_fault configs (Err e) f is opens = subst (λ (g : WorldFault). Opens configs (Err g)) (sym is) opens
