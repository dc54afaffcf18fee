-- That what is kept of a state fits, through what sets and puts.
use Rattle.std.proofs.Common.{◌≡◌, ◌≢◌, ◌<◌, ℕ, suc, true, List, [], ◌∷◌, map, refl, sym, ap, subst, ◌∙◌, ◌≤◌, zero, Some, set, slice_get, ◌==◌, inl, inr, Bool, false, length, if◌then◌else◌, arith}
use Rattle.std.specs.List.{AllByRecursion}
use Rattle.ospf_base.specs.declared.ids.RouterId.{RouterId}
use Rattle.ospf_neighbour.specs.declared.iface.machine.Iface.{Iface}
use Rattle.ospf_neighbour.specs.Neighbour.{NeighbourValue}
use Rattle.ospf_neighbour.specs.Neighbours.{AreNeighboursRising, neighbour_of}
use Rattle.ospf_adjacency.specs.Elections.{AreOfLink, elects_in}
use Rattle.ospf_area.specs.Places.{map_from}
use Rattle.ospf_area.specs.State.{AreaValue, LinkValue}
use Rattle.ospf_router.specs.AreaStep.Fit.{IsFitLink, IsFitRouter}
use Rattle.std.proofs.lemmas.List.{length-map, length-set}
use Rattle.std.proofs.lemmas.Option.{same_Some, none-some}
use Rattle.ospf_base.specs.declared.ids.LsaKey.{LsaKey}
use Rattle.ospf_neighbour.specs.declared.iface.settings.IfaceSettings.{IfaceSettings}
use Rattle.ospf_originate.specs.Sound.{AreApart, AreSetUp, IsSetUp, max_links}
use Rattle.std.proofs.lemmas.Bool.Decides.{leb_tells, eqb_tells}
use Rattle.ospf_adjacency.specs.Heard.{put}

-- A link stays fit where its neighbours keep their Router IDs.
-- ---- neighbours

abbrev pub ids : List NeighbourValue → List ℕ
ids ns = map (λ (n : NeighbourValue). n.router.0) ns

pub ids_map : (g : NeighbourValue → NeighbourValue) → ((n : NeighbourValue) → (g n).router ≡ n.router) → (ns : List NeighbourValue) → ids (map g ns) ≡ ids ns
ids_map g same [] = refl
ids_map g same (n ∷ ns) = cc (ap (λ (r : RouterId). r.0) (same n), ids_map g same ns)

-- a fact of the Router IDs of all neighbours
abbrev pub AllIds : (ℕ → Type 0) → List NeighbourValue → Type 0
AllIds P ns = AllByRecursion (λ n. P n.router.0) ns

pub all_ids : (P : ℕ → Type 0) (ms ns : List NeighbourValue) → ids ms ≡ ids ns → AllIds P ns → AllIds P ms
all_ids P [] ns same all = tt
all_ids P (m ∷ ms) [] same all = absurd (cc)
all_ids P (m ∷ ms) (n ∷ ns) same all =
    let head : n.router.0 ≡ m.router.0 = cc in
    let tail : ids ms ≡ ids ns = cc in
    (subst P head all.0, all_ids P ms ns tail all.1)

pub ids_rise : (ms ns : List NeighbourValue) → ids ms ≡ ids ns → AreNeighboursRising ns → AreNeighboursRising ms
ids_rise [] ns same rises = tt
ids_rise (m ∷ ms) [] same rises = absurd (cc)
ids_rise (m ∷ ms) (n ∷ ns) same rises =
    let head : n.router.0 ≡ m.router.0 = cc in
    let tail : ids ms ≡ ids ns = cc in
    (all_ids (λ k. m.router.0 < k) ms ns tail (subst (λ (r : ℕ). AllIds (λ k. r < k) ns) head rises.0), ids_rise ms ns tail rises.1)

pub of_link : (i : Iface) (ms ns : List NeighbourValue) → ids ms ≡ ids ns → AreOfLink i ns → AreOfLink i ms
of_link i ms ns same are = record { rising = ids_rise ms ns same are.rising; others = all_ids (λ k. k ≢ i.settings.router.0) ms ns same are.others }

-- ---- links

-- a link with another state of its neighbours
pub record IsKin (a b : LinkValue) : Type 0 where
  pub iface : b.iface ≡ a.iface
  pub elects : b.elects ≡ a.elects
  pub same : ids b.neighbours ≡ ids a.neighbours

pub kin_fit : (r : RouterId) (a b : LinkValue) → IsKin a b → IsFitLink r a → IsFitLink r b
kin_fit r a b kin fit = record {
  own = subst (λ (i : Iface). i.settings.router ≡ r) (sym kin.iface) fit.own;
  neighbours = subst (λ (i : Iface). AreOfLink i b.neighbours) (sym kin.iface) (of_link a.iface b.neighbours a.neighbours kin.same fit.neighbours);
  electing = λ due. subst (λ (i : Iface). elects_in i.state ≡ true) (sym kin.iface) (fit.electing (sym kin.elects ∙ due));
}

abbrev pub AllFit : RouterId → List LinkValue → Type 0
AllFit r links = AllByRecursion (IsFitLink r) links

pub fit_from : (r : RouterId) (f : ℕ → LinkValue → LinkValue) → ((l : ℕ) (x : LinkValue) → IsKin x (f l x)) → (k : ℕ) (xs : List LinkValue) → AllFit r xs → AllFit r (map_from f k xs)
fit_from r f kin k [] fit = tt
fit_from r f kin k (x ∷ xs) fit = (kin_fit r x (f k x) (kin k x) fit.0, fit_from r f kin (suc k) xs fit.1)

pub fit_map : (r : RouterId) (g : LinkValue → LinkValue) → ((x : LinkValue) → IsFitLink r x → IsFitLink r (g x)) → (xs : List LinkValue) → AllFit r xs → AllFit r (map g xs)
fit_map r g stays [] fit = tt
fit_map r g stays (x ∷ xs) fit = (stays x fit.0, fit_map r g stays xs fit.1)

-- ---- the router

-- a router of this Router ID, whose links are fit
pub record IsFor (r : RouterId) (s : AreaValue) : Type 0 where
  pub own : s.router ≡ r
  pub links : AllFit r s.links

pub along : (r : RouterId) (s s' : AreaValue) → s' ≡ s → IsFor r s → IsFor r s'
along r s s' is fit = subst (λ (x : AreaValue). IsFor r x) (sym is) fit

-- Links of which one, or each, becomes another that is as fit and as well set up.
-- ---- lists

pub all_at : {A : Type 0} (P : A → Type 0) (xs : List A) (k : ℕ) (x : A) → AllByRecursion P xs → slice_get xs k ≡ Some x → P x
all_at P [] k x all at = absurd (cc)
all_at P (y ∷ ys) zero x all at = subst P (same_Some y x at) all.0
all_at P (y ∷ ys) (suc k) x all at = all_at P ys k x all.1 at

pub all_set : {A : Type 0} (P : A → Type 0) (xs : List A) (k : ℕ) (x : A) → AllByRecursion P xs → P x → AllByRecursion P (set xs k x)
all_set P [] k x all p = tt
all_set P (y ∷ ys) zero x all p = (p, all.1)
all_set P (y ∷ ys) (suc k) x all p = (all.0, all_set P ys k x all.1 p)

pub all_mapped : {A : Type 0} (P : A → Type 0) (g : A → A) → ((x : A) → P x → P (g x)) → (xs : List A) → AllByRecursion P xs → AllByRecursion P (map g xs)
all_mapped P g stays [] all = tt
all_mapped P g stays (x ∷ xs) all = (stays x all.0, all_mapped P g stays xs all.1)

-- ---- links

-- a link that becomes another
pub record Stays (r : RouterId) (a b : LinkValue) : Type 0 where
  pub settings : b.iface.settings ≡ a.iface.settings
  pub fit : IsFitLink r b
  pub set_up : IsSetUp b

abbrev pub IsOther : ℕ → LinkValue → Type 0
IsOther a o = o.iface.settings.address.0 ≢ a

other_stays : (a : ℕ) (x y : LinkValue) → y.iface.settings ≡ x.iface.settings → IsOther a x → IsOther a y
other_stays a x y same other = λ is. other (sym (ap (λ (i : IfaceSettings). i.address.0) same) ∙ is)

apart_set : (xs : List LinkValue) (k : ℕ) (a b : LinkValue) → slice_get xs k ≡ Some a → b.iface.settings ≡ a.iface.settings → AreApart xs → AreApart (set xs k b)
apart_set [] k a b at same apart = tt
apart_set (y ∷ ys) zero a b at same apart =
    let is : y ≡ a = same_Some y a at in
    let here : b.iface.settings ≡ y.iface.settings = same ∙ ap (λ (x : LinkValue). x.iface.settings) (sym is) in
    (subst (λ (address : ℕ). AllByRecursion (IsOther address) ys) (sym (ap (λ (i : IfaceSettings). i.address.0) here)) apart.0, apart.1)
apart_set (y ∷ ys) (suc k) a b at same apart = (
  all_set (IsOther y.iface.settings.address.0) ys k b apart.0 (other_stays y.iface.settings.address.0 a b same (all_at (IsOther y.iface.settings.address.0) ys k a apart.0 at)),
  apart_set ys k a b at same apart.1,
)

module _ (g : LinkValue → LinkValue) (same : (x : LinkValue) → (g x).iface.settings ≡ x.iface.settings) where
  apart_map : (xs : List LinkValue) → AreApart xs → AreApart (map g xs)
  apart_map [] apart = tt
  apart_map (x ∷ xs) apart = (
    subst (λ (address : ℕ). AllByRecursion (IsOther address) (map g xs)) (sym (ap (λ (i : IfaceSettings). i.address.0) (same x)))
        (all_mapped (IsOther x.iface.settings.address.0) g (λ y. other_stays x.iface.settings.address.0 y (g y) (same y)) xs apart.0),
    apart_map xs apart.1,
  )

-- ---- the router

-- what nothing of it hangs on
pub aside : (s : AreaValue) (links : List LinkValue) (next_dd : ℕ) (sent : List LsaKey) → AllFit s.router links → AreSetUp links → IsFitRouter s → IsFitRouter (record s { links = links; next_dd = next_dd; sent = sent })
aside s links next_dd sent fit up is = record { links = fit; sound = record { links = up; stubs = is.sound.stubs; numbered = is.sound.numbered; counted = is.sound.counted; max_seq = is.sound.max_seq } }

pub set_fit : (s : AreaValue) (k : ℕ) (a b : LinkValue) (next_dd : ℕ) (sent : List LsaKey) → slice_get s.links k ≡ Some a → Stays s.router a b → IsFitRouter s → IsFitRouter (record s { links = set s.links k b; next_dd = next_dd; sent = sent })
set_fit s k a b next_dd sent at stays is = aside s (set s.links k b) next_dd sent (all_set (IsFitLink s.router) s.links k b is.links stays.fit) (record {
  few = subst (λ (n : ℕ). n ≤ max_links) (sym (length-set s.links k b)) is.sound.links.few;
  each = all_set IsSetUp s.links k b is.sound.links.each stays.set_up;
  apart = apart_set s.links k a b at stays.settings is.sound.links.apart;
}) is

pub map_fit : (s : AreaValue) (g : LinkValue → LinkValue) (sent : List LsaKey) → ((x : LinkValue) → (g x).iface.settings ≡ x.iface.settings) → ((x : LinkValue) → IsFitLink s.router x → IsFitLink s.router (g x))
    → ((x : LinkValue) → IsSetUp x → IsSetUp (g x)) → IsFitRouter s → IsFitRouter (record s { links = map g s.links; sent = sent })
map_fit s g sent same fit up is = aside s (map g s.links) s.next_dd sent (fit_map s.router g fit s.links is.links) (record {
  few = subst (λ (n : ℕ). n ≤ max_links) (sym (length-map s.links g)) is.sound.links.few;
  each = all_mapped IsSetUp g up s.links is.sound.links.each;
  apart = apart_map g same s.links is.sound.links.apart;
}) is

-- A neighbour that is put in its own place, or between others.
-- a test that tells whether two numbers are one
eq_true : (a b : ℕ) → (a == b) ≡ true → a ≡ b
eq_true a b is = elim (eqb_tells a b) [ inl e ↦ e.1 | inr e ↦ absurd (cc) ]

pub eq_false : (a b : ℕ) → (a == b) ≡ false → a ≢ b
eq_false a b is = elim (eqb_tells a b) [ inl e ↦ absurd (cc) | inr e ↦ e.1 ]

-- who is found has the Router ID
pub found_router : (ns : List NeighbourValue) (q : RouterId) (n : NeighbourValue) → neighbour_of ns q ≡ Some n → n.router.0 ≡ q.0
found_router [] q n at = absurd (none-some n at)
found_router (m ∷ ms) q n at = by_test (found_router ms q n) (m.router.0 == q.0) refl at
  where
    by_test : (neighbour_of ms q ≡ Some n → n.router.0 ≡ q.0) → (b : Bool) → (m.router.0 == q.0) ≡ b → (if b then Some m else neighbour_of ms q) ≡ Some n → n.router.0 ≡ q.0
    by_test rest true same at = subst (λ (x : NeighbourValue). x.router.0 ≡ q.0) (same_Some m n at) (eq_true m.router.0 q.0 same)
    by_test rest false other at = rest at

-- what holds of all Router IDs holds of who is found
pub found_all : (P : ℕ → Type 0) (ns : List NeighbourValue) (q : RouterId) (n : NeighbourValue) → neighbour_of ns q ≡ Some n → AllIds P ns → P n.router.0
found_all P [] q n at all = absurd (none-some n at)
found_all P (m ∷ ms) q n at all = by_test (λ at. found_all P ms q n at all.1) (m.router.0 == q.0) at
  where
    by_test : (neighbour_of ms q ≡ Some n → P n.router.0) → (b : Bool) → (if b then Some m else neighbour_of ms q) ≡ Some n → P n.router.0
    by_test rest true at = subst (λ (x : NeighbourValue). P x.router.0) (same_Some m n at) all.0
    by_test rest false at = rest at

-- put in the place of who is found, no Router ID changes
pub put_same : (ns : List NeighbourValue) (q : RouterId) (n n' : NeighbourValue) → AreNeighboursRising ns → neighbour_of ns q ≡ Some n → n'.router.0 ≡ n.router.0 → ids (put n' ns) ≡ ids ns
put_same [] q n n' rises at same = absurd (none-some n at)
put_same (m ∷ ms) q n n' rises at same = by_test (λ at. put_same ms q n n' rises.1 at same) (m.router.0 == q.0) refl at
  where
    Goal : Type 0
    Goal = ids (put n' (m ∷ ms)) ≡ ids (m ∷ ms)

    here : m ≡ n → Goal
    here is =
        let one : n'.router.0 ≡ m.router.0 = same ∙ ap (λ (x : NeighbourValue). x.router.0) (sym is) in
        elim (leb_tells (suc m.router.0) n'.router.0) [
          | inl w ↦ absurd (let lt = w.1 in omega (arith, lt, one))
          | inr w ↦ elim (eqb_tells m.router.0 n'.router.0) [ inl e ↦ (rw (w.0, e.0) (ap (λ (r : ℕ). r ∷ ids ms) one)) | inr e ↦ absurd (e.1 (sym one)) ]
        ]

    there : (neighbour_of ms q ≡ Some n → ids (put n' ms) ≡ ids ms) → neighbour_of ms q ≡ Some n → Goal
    there rest at =
        let above : m.router.0 < n.router.0 = found_all (λ k. m.router.0 < k) ms q n at rises.0 in
        elim (leb_tells (suc m.router.0) n'.router.0) [
          | inl w ↦ (rw w.0 (ap (λ (rs : List ℕ). m.router.0 ∷ rs) (rest at)))
          | inr w ↦ absurd (let lt = w.1 in omega (arith, lt, above, same))
        ]

    by_test : (neighbour_of ms q ≡ Some n → ids (put n' ms) ≡ ids ms) → (b : Bool) → (m.router.0 == q.0) ≡ b → (if b then Some m else neighbour_of ms q) ≡ Some n → Goal
    by_test rest true is at = here (same_Some m n at)
    by_test rest false is at = there rest at

-- put in, one is there more at most
pub put_many : (n : NeighbourValue) (ns : List NeighbourValue) → length (put n ns) ≤ suc (length ns)
put_many n [] = omega (arith)
put_many n (m ∷ ms) = elim (leb_tells (suc m.router.0) n.router.0) [
  | inl w ↦ (rw w.0 (let rest = put_many n ms in omega (arith, rest)))
  | inr w ↦ elim (eqb_tells m.router.0 n.router.0) [ inl e ↦ (rw (w.0, e.0) (omega (arith))) | inr e ↦ (rw (w.0, e.0) (omega (arith))) ]
]

-- the same Router IDs are as many
pub as_many : (ms ns : List NeighbourValue) → ids ms ≡ ids ns → length ms ≡ length ns
as_many [] [] same = refl
as_many [] (n ∷ ns) same = absurd (cc)
as_many (m ∷ ms) [] same = absurd (cc)
as_many (m ∷ ms) (n ∷ ns) same = let tail : ids ms ≡ ids ns = cc in ap suc (as_many ms ns tail)
