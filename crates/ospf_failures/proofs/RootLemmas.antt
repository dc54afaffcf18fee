-- What is found of each failure at one router after the other, and at groups of routers.
use Rattle.std.proofs.Common.{◌≡◌, ◌∙◌, ◌+◌, ◌++◌, ◌<◌, ◌≤◌, ◌^◌, ℕ, zero, suc, Global, List, [], ◌∷◌, ap, arith, drop, get_or, length, min, refl, set, subst, sym, take}
use Rattle.std.specs.List.{All, AllZip, flat_map}
use Rattle.std.specs.Prelude.{Vec}
use Rattle.std.proofs.lemmas.List.{append-nil, append_assoc, drop_all, drop_more, get_or_at, length-append, length-drop, length-take, length-take-le, set_at, take-append-drop, take_all, take_more}
use Rattle.std.proofs.lemmas.List.Concat.{flat_map-append}
use Rattle.std.proofs.lemmas.List.Elements.{All-cons, All-nil}
use Rattle.std.proofs.lemmas.Slice.Zip.{AllZip-long}
use Rattle.rayon.specs.Lists.{chunks_of}
use Rattle.rayon.proofs.ToStd.{chunks_of-concat}
use Rattle.ospf_base.specs.declared.ids.RouterId.{RouterId}
use Rattle.ospf_graph.specs.Advertisements.{Advertisement}
use Rattle.ospf_whatif.specs.Failure.{without_all}
use Rattle.ospf_whatif.specs.Outage.{IsOutage}
use Rattle.ospf_harm.specs.declared.carrier.Breakdown.{Breakdown}
use Rattle.ospf_whatif.specs.declared.failure.AreaFailure.{AreaFailure}
use Rattle.ospf_failures.specs.Overall.{AreSumsOfBoth, AreOutages, AreSeenAt, AreSeenMore, FitTogether, HasRoomForOne, IsSumOfBoth, IsOutageOf, IsSeenAt, IsSoFar, Sees, left_after_outage}
use Rattle.ospf_harm.specs.Cases.{IsTableBefore}
use Rattle.ospf_failures.specs.declared.overall.Overall.{Overall}
use Rattle.ospf_failures.specs.declared.overall.RouteDetail.{RouteDetail}
use Rattle.ospf_harm.specs.declared.cases.Before.{Before}
use Rattle.ospf_failures.specs.declared.roots.FailureOutage.{FailureOutage}
use Rattle.ospf_failures.proofs.OverallLemmas.{IsOverallOf, bounded, fit_together, room_for_one, sees_on, so_far_both, still_it}

AllZip_at : {X Y : Type 0} (R : X → Y → Type 0) (xs : List X) (ys : List Y) (i : ℕ) (d : X) (e : Y) → AllZip R xs ys → i < length xs → R (get_or xs i d) (get_or ys i e)
AllZip_at R [] [] i d e h lt = absurd (omega (arith, lt))
AllZip_at R [] (y ∷ ys) i d e h lt = absurd h
AllZip_at R (x ∷ xs) [] i d e h lt = absurd h
AllZip_at R (x ∷ xs) (y ∷ ys) zero d e h lt = h.0
AllZip_at R (x ∷ xs) (y ∷ ys) (suc i) d e h lt = AllZip_at R xs ys i d e h.1 (omega (arith, lt))

-- ---- one router more

module _ (A : List Advertisement) (wanted : RouteDetail) (roots : List RouterId) (b : Before) (is : IsTableBefore A b) where
  pub seen_on : (outages : List FailureOutage) (old new : List Overall) → AllZip (IsSeenAt A wanted roots) outages old → AreSeenMore A b wanted outages old new
      → AllZip (IsSeenAt A wanted (roots ++ b.root ∷ [])) outages new
  seen_on [] [] [] h k = tt
  seen_on [] [] (n ∷ new) h k = absurd k
  seen_on [] (o ∷ old) new h k = absurd h
  seen_on (x ∷ xs) [] new h k = absurd h
  seen_on (x ∷ xs) (o ∷ old) [] h k = absurd k
  seen_on (x ∷ xs) (o ∷ old) (n ∷ new) h k = (
    record {
      failure_is = still_it A (left_after_outage A x) wanted roots b is.table o n h.0.so_far k.0 ∙ h.0.failure_is;
      so_far = sees_on A (left_after_outage A x) wanted roots b is.table o n h.0.so_far k.0;
    },
    seen_on xs old new h.1 k.1,
  )

pub rooms_for_one : (A : List Advertisement) (wanted : RouteDetail) (roots : List RouterId) (outages : List FailureOutage) (os : List Overall) → length roots + 1 < 2 ^ 64
    → AllZip (IsSeenAt A wanted roots) outages os → All HasRoomForOne os
rooms_for_one A wanted roots [] [] small h = All-nil HasRoomForOne
rooms_for_one A wanted roots [] (o ∷ os) small h = absurd h
rooms_for_one A wanted roots (x ∷ xs) [] small h = absurd h
rooms_for_one A wanted roots (x ∷ xs) (o ∷ os) small h =
    All-cons HasRoomForOne o os (room_for_one (length roots) o small (bounded A (left_after_outage A x) wanted roots o h.0.so_far)) (rooms_for_one A wanted roots xs os small h.1)

-- one of each more
pub seen_push : (A : List Advertisement) (b : Before) (wanted : RouteDetail) (xs : List FailureOutage) (old new : List Overall) (x : FailureOutage) (o n : Overall)
    → AreSeenMore A b wanted xs old new → length old ≡ length xs → Sees (left_after_outage A x) b wanted o n → AreSeenMore A b wanted (xs ++ x ∷ []) (old ++ o ∷ []) (new ++ n ∷ [])
seen_push A b wanted [] [] [] x o n h long s = (s, tt)
seen_push A b wanted [] [] (m ∷ new) x o n h long s = absurd h
seen_push A b wanted [] (p ∷ old) new x o n h long s = absurd (omega (arith, long))
seen_push A b wanted (y ∷ xs) [] new x o n h long s = absurd (omega (arith, long))
seen_push A b wanted (y ∷ xs) (p ∷ old) [] x o n h long s = absurd h
seen_push A b wanted (y ∷ xs) (p ∷ old) (m ∷ new) x o n h long s = (h.0, seen_push A b wanted xs old new x o n h.1 (omega (arith, long)) s)

-- those so far have seen the router, and the others are as they were
abbrev pub HasSeen : List Advertisement → Before → RouteDetail → List FailureOutage → List Overall → ℕ → List Overall → Type 0
HasSeen A b wanted outages old place now =
    (seen : List Overall) × AreSeenMore A b wanted (take place outages) (take place old) seen × (now ≡ seen ++ drop place old)

seen_len : (A : List Advertisement) (b : Before) (wanted : RouteDetail) (xs : List FailureOutage) (old new : List Overall) → AreSeenMore A b wanted xs old new → length old ≡ length xs
    → length new ≡ length old
seen_len A b wanted [] [] [] h long = refl
seen_len A b wanted [] [] (m ∷ new) h long = absurd h
seen_len A b wanted [] (p ∷ old) new h long = absurd (omega (arith, long))
seen_len A b wanted (y ∷ xs) [] new h long = absurd (omega (arith, long))
seen_len A b wanted (y ∷ xs) (p ∷ old) [] h long = absurd h
seen_len A b wanted (y ∷ xs) (p ∷ old) (m ∷ new) h long =
    let l : length old ≡ length xs = omega (arith, long) in let r = seen_len A b wanted xs old new h.1 l in omega (arith, r)

pub now_len : (A : List Advertisement) (b : Before) (wanted : RouteDetail) (outages : List FailureOutage) (old : List Overall) → length old ≡ length outages → (place : ℕ) (now : List Overall)
    → HasSeen A b wanted outages old place now → length now ≡ length old
now_len A b wanted outages old long place now h =
    let t = length-take place old in
    let u = length-take place outages in
    let s = seen_len A b wanted (take place outages) (take place old) h.0 h.1 (t ∙ ap (λ (n : ℕ). min place n) long ∙ sym u) in
    let d = length-append h.0 (drop place old) in
    let w : length (take place old ++ drop place old) ≡ length old = ap length (take-append-drop place old) in
    let v = length-append (take place old) (drop place old) in
    ap length h.2 ∙ omega (arith, s, d, w, v)

-- what stands at a place behind a list of that length is as it was
at_place : (front old now : List Overall) (place : ℕ) (at : Overall) → length front ≡ place → place < length old → now ≡ front ++ drop place old → at ≡ get_or now place at
    → at ≡ get_or old place at
at_place front old now place at len lt is read =
    read ∙ ap (λ (l : List Overall). get_or l place at) (is ∙ ap (λ (l : List Overall). front ++ l) (drop_more old place at lt))
    ∙ get_or_at front (get_or old place at) (drop (place + 1) old) at place len

set_place : (front old now : List Overall) (place : ℕ) (at new : Overall) → length front ≡ place → place < length old → now ≡ front ++ drop place old
    → set now place new ≡ (front ++ new ∷ []) ++ drop (place + 1) old
set_place front old now place at new len lt is =
    ap (λ (l : List Overall). set l place new) (is ∙ ap (λ (l : List Overall). front ++ l) (drop_more old place at lt))
    ∙ set_at front (get_or old place at) (drop (place + 1) old) new place len ∙ sym (append_assoc front (new ∷ []) (drop (place + 1) old))

module _ (A : List Advertisement) (b : Before) (wanted : RouteDetail) (outages : List FailureOutage) (old : List Overall) (long : length old ≡ length outages) (place : ℕ) (now : List Overall)
    (so_far : HasSeen A b wanted outages old place now) (lt : place < length old) (at : Overall) (read : at ≡ get_or now place at) where
  front_len : length so_far.0 ≡ place
  front_len =
      let o : length (take place old) ≡ place = length-take-le place old (omega (arith, lt)) in
      let x : length (take place outages) ≡ place = length-take-le place outages (omega (arith, lt, long)) in
      let l = seen_len A b wanted (take place outages) (take place old) so_far.0 so_far.1 (omega (arith, o, x)) in
      omega (arith, l, o)

  pub was_there : at ≡ get_or old place at
  was_there = at_place so_far.0 old now place at front_len lt so_far.2 read

  pub room_there : All HasRoomForOne old → HasRoomForOne at
  room_there rooms = subst HasRoomForOne (sym was_there) (rooms place at lt)

  pub has_seen : (x : FailureOutage) (new : Overall) → x ≡ get_or outages place x → Sees (left_after_outage A x) b wanted at new → HasSeen A b wanted outages old (place + 1) (set now place new)
  has_seen x new is sees =
      let o : length (take place old) ≡ place = length-take-le place old (omega (arith, lt)) in
      let n : length (take place outages) ≡ place = length-take-le place outages (omega (arith, lt, long)) in
      let olds : take (place + 1) old ≡ take place old ++ at ∷ [] = take_more old place at lt ∙ ap (λ (e : Overall). take place old ++ e ∷ []) (sym was_there) in
      let xs : take (place + 1) outages ≡ take place outages ++ x ∷ [] = take_more outages place x (omega (arith, lt, long)) ∙ ap (λ (e : FailureOutage). take place outages ++ e ∷ []) (sym is) in (
        so_far.0 ++ new ∷ [],
        subst (λ (l : List FailureOutage). AreSeenMore A b wanted l (take (place + 1) old) (so_far.0 ++ new ∷ [])) (sym xs)
            (subst (λ (l : List Overall). AreSeenMore A b wanted (take place outages ++ x ∷ []) l (so_far.0 ++ new ∷ [])) (sym olds)
            (seen_push A b wanted (take place outages) (take place old) so_far.0 x at new so_far.1 (omega (arith, o, n)) sees)),
        set_place so_far.0 old now place at new front_len lt so_far.2,
      )

pub seen_whole : (A : List Advertisement) (b : Before) (wanted : RouteDetail) (outages : List FailureOutage) (old now : List Overall) (place : ℕ) → length old ≡ length outages → length old ≤ place
    → HasSeen A b wanted outages old place now → AreSeenMore A b wanted outages old now
seen_whole A b wanted outages old now place long all h =
    let none : now ≡ h.0 = h.2 ∙ ap (λ (l : List Overall). h.0 ++ l) (drop_all place old all) ∙ append-nil h.0 in
    subst (AreSeenMore A b wanted outages old) (sym none)
    (subst (λ (l : List FailureOutage). AreSeenMore A b wanted l old h.0) (take_all place outages (omega (arith, all, long)))
    (subst (λ (l : List Overall). AreSeenMore A b wanted (take place outages) l h.0) (take_all place old all) h.1))

-- ---- two groups of routers

module _ (A : List Advertisement) (wanted : RouteDetail) (some more : List RouterId) where
  pub joined_on : (outages : List FailureOutage) (a b both : List Overall) → AllZip (IsSeenAt A wanted some) outages a → AllZip (IsSeenAt A wanted more) outages b
      → AreSumsOfBoth a b both → AllZip (IsSeenAt A wanted (some ++ more)) outages both
  joined_on [] [] [] [] f g h = tt
  joined_on [] [] [] (r ∷ both) f g h = absurd h
  joined_on [] [] (q ∷ b) both f g h = absurd g
  joined_on [] (p ∷ a) b both f g h = absurd f
  joined_on (x ∷ xs) [] b both f g h = absurd f
  joined_on (x ∷ xs) (p ∷ a) [] both f g h = absurd g
  joined_on (x ∷ xs) (p ∷ a) (q ∷ b) [] f g h = absurd h
  joined_on (x ∷ xs) (p ∷ a) (q ∷ b) (r ∷ both) f g h = (
    record {
      failure_is = h.0.same ∙ f.0.failure_is;
      so_far = so_far_both A (left_after_outage A x) wanted some more p q r f.0.so_far g.0.so_far (g.0.failure_is ∙ sym f.0.failure_is) h.0;
    },
    joined_on xs a b both f.1 g.1 h.1,
  )

  pub fit_all : (outages : List FailureOutage) (a b : List Overall) → length some + length more < 2 ^ 64 → AllZip (IsSeenAt A wanted some) outages a
      → AllZip (IsSeenAt A wanted more) outages b → AllZip FitTogether a b
  fit_all [] [] [] small f g = tt
  fit_all [] [] (q ∷ b) small f g = absurd g
  fit_all [] (p ∷ a) b small f g = absurd f
  fit_all (x ∷ xs) [] b small f g = absurd f
  fit_all (x ∷ xs) (p ∷ a) [] small f g = absurd g
  fit_all (x ∷ xs) (p ∷ a) (q ∷ b) small f g = (
    fit_together (length some) (length more) p q small (bounded A (left_after_outage A x) wanted some p f.0.so_far) (bounded A (left_after_outage A x) wanted more q g.0.so_far),
    fit_all xs a b small f.1 g.1,
  )

pub joined_push : (a b both : List Overall) (p q r : Overall) → AreSumsOfBoth a b both → length b ≡ length a → IsSumOfBoth p q r
    → AreSumsOfBoth (a ++ p ∷ []) (b ++ q ∷ []) (both ++ r ∷ [])
joined_push [] [] [] p q r h long j = (j, tt)
joined_push [] [] (o ∷ both) p q r h long j = absurd h
joined_push [] (m ∷ b) both p q r h long j = absurd (omega (arith, long))
joined_push (o ∷ a) [] both p q r h long j = absurd (omega (arith, long))
joined_push (o ∷ a) (m ∷ b) [] p q r h long j = absurd h
joined_push (o ∷ a) (m ∷ b) (s ∷ both) p q r h long j = (h.0, joined_push a b both p q r h.1 (omega (arith, long)) j)

-- those so far are added, and the others are as they were
abbrev pub HasAdded : List Overall → List Overall → ℕ → List Overall → Type 0
HasAdded old yielded place now = (sums : List Overall) × AreSumsOfBoth (take place old) yielded sums × (now ≡ sums ++ drop place old)

joined_len : (a b both : List Overall) → AreSumsOfBoth a b both → length b ≡ length a → length both ≡ length a
joined_len [] [] [] h long = refl
joined_len [] [] (o ∷ both) h long = absurd h
joined_len [] (m ∷ b) both h long = absurd (omega (arith, long))
joined_len (o ∷ a) [] both h long = absurd (omega (arith, long))
joined_len (o ∷ a) (m ∷ b) [] h long = absurd h
joined_len (o ∷ a) (m ∷ b) (s ∷ both) h long =
    let l : length b ≡ length a = omega (arith, long) in let r = joined_len a b both h.1 l in omega (arith, r)

pub no_length : {X : Type 0} (xs : List X) → length xs ≡ 0 → xs ≡ []
no_length [] none = refl
no_length (x ∷ xs) none = absurd (omega (arith, none))

-- none is left behind
pub none_behind : (more yielded rest : List Overall) → more ≡ yielded ++ rest → length rest ≡ 0 → more ≡ yielded
none_behind more yielded rest walked none = walked ∙ ap (λ (l : List Overall). yielded ++ l) (no_length rest none) ∙ append-nil yielded

-- the element of a list behind some
pub there : (more yielded rest next : List Overall) (one : Overall) → more ≡ yielded ++ rest → rest ≡ one ∷ next → one ≡ get_or more (length yielded) one
there more yielded rest next one walked is =
    sym (ap (λ (l : List Overall). get_or l (length yielded) one) (walked ∙ ap (λ (l : List Overall). yielded ++ l) is) ∙ get_or_at yielded one next one (length yielded) refl)

pub within : (more yielded rest next : List Overall) (one : Overall) → more ≡ yielded ++ rest → rest ≡ one ∷ next → length yielded < length more
within more yielded rest next one walked is =
    let l : length more ≡ length yielded + length rest = ap length walked ∙ length-append yielded rest in
    let r : length rest ≡ length next + 1 = ap length is ∙ omega arith in
    omega (arith, l, r)

pub walk_on : (more yielded rest next : List Overall) (one : Overall) → more ≡ yielded ++ rest → rest ≡ one ∷ next → more ≡ (yielded ++ one ∷ []) ++ next
walk_on more yielded rest next one walked is = walked ∙ ap (λ (l : List Overall). yielded ++ l) is ∙ sym (append_assoc yielded (one ∷ []) next)

module _ (old more : List Overall) (fit : AllZip FitTogether old more) (yielded : List Overall) (place : ℕ) (now : List Overall) (is_at : place ≡ length yielded) (so_far : HasAdded old yielded place now)
    (short : length yielded < length more) where
  lt : place < length old
  lt = let l = AllZip-long FitTogether old more fit in omega (arith, l, is_at, short)

  sums_len : length so_far.0 ≡ place
  sums_len =
      let o : length (take place old) ≡ place = length-take-le place old (let s = lt in omega (arith, s)) in
      let l = joined_len (take place old) yielded so_far.0 so_far.1 (omega (arith, o, is_at)) in
      omega (arith, l, o)

  pub added_place : place < length now
  added_place =
      let l : length now ≡ length so_far.0 + length (drop place old) = ap length so_far.2 ∙ length-append so_far.0 (drop place old) in
      let d = length-drop place old in
      let s = sums_len in
      let t = lt in
      omega (arith, l, d, s, t)

  still_there : (at : Overall) → at ≡ get_or now place at → at ≡ get_or old place at
  still_there at read = at_place so_far.0 old now place at sums_len lt so_far.2 read

  pub fits_there : (at : Overall) → at ≡ get_or now place at → (one : Overall) → one ≡ get_or more (length yielded) one → FitTogether at one
  fits_there at read one is =
      subst (λ (e : Overall). FitTogether e one) (sym (still_there at read))
      (subst (FitTogether (get_or old place at)) (ap (λ (k : ℕ). get_or more k one) is_at ∙ sym is) (AllZip_at FitTogether old more place at one fit lt))

  pub has_added : (at : Overall) → at ≡ get_or now place at → (one both : Overall) → IsSumOfBoth at one both → HasAdded old (yielded ++ one ∷ []) (place + 1) (set now place both)
  has_added at read one both joined =
      let o : length (take place old) ≡ place = length-take-le place old (let s = lt in omega (arith, s)) in
      let olds : take (place + 1) old ≡ take place old ++ at ∷ [] = take_more old place at lt ∙ ap (λ (e : Overall). take place old ++ e ∷ []) (sym (still_there at read)) in (
        so_far.0 ++ both ∷ [],
        subst (λ (l : List Overall). AreSumsOfBoth l (yielded ++ one ∷ []) (so_far.0 ++ both ∷ [])) (sym olds)
            (joined_push (take place old) yielded so_far.0 at one both so_far.1 (omega (arith, o, is_at)) joined),
        set_place so_far.0 old now place at both sums_len lt so_far.2,
      )

pub added_whole : (old more yielded now : List Overall) (place : ℕ) → AllZip FitTogether old more → more ≡ yielded → place ≡ length yielded → HasAdded old yielded place now → AreSumsOfBoth old more now
added_whole old more yielded now place fit is is_at h =
    let l = AllZip-long FitTogether old more fit in
    let all : length old ≤ place = (let k = ap length is in omega (arith, l, k, is_at)) in
    let none : now ≡ h.0 = h.2 ∙ ap (λ (l : List Overall). h.0 ++ l) (drop_all place old all) ∙ append-nil h.0 in
    subst (AreSumsOfBoth old more) (sym none)
    (subst (λ (l : List Overall). AreSumsOfBoth old l h.0) (sym is) (subst (λ (l : List Overall). AreSumsOfBoth l yielded h.0) (take_all place old all) h.1))

-- ---- groups of routers, one after the other

-- what was added of some groups, and what is left to add
pub record IsAddedUp (A : List Advertisement) (wanted : RouteDetail) (outages : List FailureOutage) (groups : List (List RouterId)) (rest : List (Vec Overall Global)) (os : List Overall)
    : Type 0 where
  pub done : List (List RouterId)
  pub left : List (List RouterId)
  pub groups_are : done ++ left ≡ groups
  pub are_left : AllZip (AreSeenAt A wanted outages) left rest
  pub added : AllZip (IsSeenAt A wanted (flat_map (λ group. group) done)) outages os

module _ (A : List Advertisement) (wanted : RouteDetail) (outages : List FailureOutage) (groups : List (List RouterId)) where
  pub added_none : (rest : List (Vec Overall Global)) (os : List Overall) → AllZip (AreSeenAt A wanted outages) groups rest → AllZip (IsSeenAt A wanted []) outages os
      → IsAddedUp A wanted outages groups rest os
  added_none rest os left none = record { done = []; left = groups; groups_are = refl; are_left = left; added = none }

  one_left : (done left : List (List RouterId)) (piece : Vec Overall Global) (rest : List (Vec Overall Global)) → done ++ left ≡ groups → AllZip (AreSeenAt A wanted outages) left (piece ∷ rest)
      → (group : List RouterId) × (others : List (List RouterId)) × (left ≡ group ∷ others) × AreSeenAt A wanted outages group piece × AllZip (AreSeenAt A wanted outages) others rest
  one_left done [] piece rest is h = absurd h
  one_left done (group ∷ others) piece rest is h = (group, others, refl, h.0, h.1)

  module _ (piece : Vec Overall Global) (rest : List (Vec Overall Global)) (os : List Overall) (so_far : IsAddedUp A wanted outages groups (piece ∷ rest) os) where
    next : (group : List RouterId) × (others : List (List RouterId)) × (so_far.left ≡ group ∷ others) × AreSeenAt A wanted outages group piece × AllZip (AreSeenAt A wanted outages) others rest
    next = one_left so_far.done so_far.left piece rest so_far.groups_are so_far.are_left

    whole : flat_map (λ group. group) groups ≡ flat_map (λ group. group) so_far.done ++ (next.0 ++ flat_map (λ group. group) next.1)
    whole =
        ap (flat_map (λ group. group)) (sym so_far.groups_are) ∙ flat_map-append (λ group. group) so_far.done so_far.left
        ∙ ap (λ (l : List (List RouterId)). flat_map (λ group. group) so_far.done ++ flat_map (λ group. group) l) next.2

    pub piece_fits : length (flat_map (λ group. group) groups) < 2 ^ 64 → AllZip FitTogether os piece.items
    piece_fits small =
        let d = flat_map (λ (group : List RouterId). group) so_far.done in
        let e = flat_map (λ (group : List RouterId). group) next.1 in
        let len : length (flat_map (λ (group : List RouterId). group) groups) ≡ length d + (length next.0 + length e) =
        ap length whole ∙ length-append d (next.0 ++ e) ∙ ap (λ (n : ℕ). length d + n) (length-append next.0 e) in
        let few : length d + length next.0 < 2 ^ 64 = omega (arith, len, small) in
        fit_all A wanted d next.0 outages os piece.items few so_far.added next.3

    pub added_more : (both : List Overall) → AreSumsOfBoth os piece.items both → IsAddedUp A wanted outages groups rest both
    added_more both joined = record {
      done = so_far.done ++ next.0 ∷ [];
      left = next.1;
      groups_are = append_assoc so_far.done (next.0 ∷ []) next.1 ∙ ap (λ (l : List (List RouterId)). so_far.done ++ l) (sym next.2) ∙ so_far.groups_are;
      are_left = next.4;
      added =
          subst (λ (l : List RouterId). AllZip (IsSeenAt A wanted l) outages both)
          (ap (λ (l : List RouterId). flat_map (λ group. group) so_far.done ++ l) (sym (append-nil next.0)) ∙ sym (flat_map-append (λ group. group) so_far.done (next.0 ∷ [])))
          (joined_on A wanted (flat_map (λ group. group) so_far.done) next.0 outages os piece.items both so_far.added next.3 joined);
    }

  pub added_all : (os : List Overall) → IsAddedUp A wanted outages groups [] os → AllZip (IsSeenAt A wanted (flat_map (λ group. group) groups)) outages os
  added_all os so_far =
      subst (λ (l : List (List RouterId)). AllZip (IsSeenAt A wanted (flat_map (λ group. group) l)) outages os)
      (sym (append-nil so_far.done) ∙ ap (λ (l : List (List RouterId)). so_far.done ++ l) (sym (none_left so_far.left so_far.are_left)) ∙ so_far.groups_are) so_far.added
    where
      none_left : (left : List (List RouterId)) → AllZip (AreSeenAt A wanted outages) left [] → left ≡ []
      none_left [] h = refl
      none_left (group ∷ left) h = absurd h

-- ---- all

pub outages_all : (A : List Advertisement) (bs : List Breakdown) (xs : List FailureOutage) → AllZip (IsOutageOf A) bs xs → AreOutages A xs
outages_all A [] [] h = All-nil (λ (x : FailureOutage). IsOutage A x.outage)
outages_all A [] (x ∷ xs) h = absurd h
outages_all A (b ∷ bs) [] h = absurd h
outages_all A (b ∷ bs) (x ∷ xs) h = All-cons (λ (y : FailureOutage). IsOutage A y.outage) x xs h.0.outage (outages_all A bs xs h.1)

pub overalls_by_parts : (A : List Advertisement) (wanted : RouteDetail) (roots : List RouterId) (bs : List Breakdown) (xs : List FailureOutage) (os : List Overall)
    → AllZip (IsOutageOf A) bs xs → AllZip (IsSeenAt A wanted roots) xs os → AllZip (IsOverallOf A wanted roots) bs os
overalls_by_parts A wanted roots [] [] [] h k = tt
overalls_by_parts A wanted roots [] [] (o ∷ os) h k = absurd k
overalls_by_parts A wanted roots [] (x ∷ xs) os h k = absurd h
overalls_by_parts A wanted roots (b ∷ bs) [] os h k = absurd h
overalls_by_parts A wanted roots (b ∷ bs) (x ∷ xs) [] h k = absurd k
overalls_by_parts A wanted roots (b ∷ bs) (x ∷ xs) (o ∷ os) h k = (
  record {
    failure_is = k.0.failure_is ∙ h.0.failure_is;
    so_far = subst (λ (gone : List AreaFailure). IsSoFar A (without_all gone A) wanted roots o) h.0.parts_are k.0.so_far;
  },
  overalls_by_parts A wanted roots bs xs os h.1 k.1,
)

-- groups of so many routers
pub groups_few : (size : ℕ) (roots : List RouterId) → 0 < size → length roots < 2 ^ 64 → length (flat_map (λ group. group) (chunks_of size roots)) < 2 ^ 64
groups_few size roots some few = subst (λ (l : List RouterId). length l < 2 ^ 64) (sym (chunks_of-concat size roots some)) few

pub over_groups : (A : List Advertisement) (wanted : RouteDetail) (outages : List FailureOutage) (size : ℕ) (roots : List RouterId) (os : List Overall) → 0 < size
    → AllZip (IsSeenAt A wanted (flat_map (λ group. group) (chunks_of size roots))) outages os → AllZip (IsSeenAt A wanted roots) outages os
over_groups A wanted outages size roots os some h = subst (λ (l : List RouterId). AllZip (IsSeenAt A wanted l) outages os) (chunks_of-concat size roots some) h
