-- What differs at routers, one after the other.
use Rattle.std.proofs.Common.{◌≡◌, ◌∙◌, ◌+◌, ◌<◌, ◌≤◌, ◌^◌, ◌↔◌, ℕ, Bool, true, false, List, [], ◌∷◌, ◌++◌, All, map, take, length, get_or, ap, sym, refl, subst, inl, inr, arith, flat_map, string_bytes}
use Rattle.std.specs.List.{AllPairs, Contains}
use Rattle.std.specs.Prelude.{count_by, sum_by}
use Rattle.std.proofs.lemmas.List.{append-nil, length-take-le, map_push, take_more}
use Rattle.std.proofs.lemmas.List.Concat.{flat_map-append}
use Rattle.std.proofs.lemmas.List.Elements.{All-nil, All-push}
use Rattle.std.proofs.lemmas.List.Sums.{count_by-le-length, sum_by_push}
use Rattle.ospf_base.specs.declared.ids.RouterId.{RouterId}
use Rattle.ospf_graph.specs.Adds.{Adds}
use Rattle.ospf_graph.specs.Advertisements.{Advertisement}
use Rattle.ospf_whatif.specs.declared.failure.AreaFailure.{AreaFailure}
use Rattle.ospf_whatif.specs.declared.failure.AreaFailure.TheVariants.{Router}
use Rattle.ospf_change.specs.Diff.Sights.{AreRoutersAmong, AreSeen, AreRouterDifferences, IsRouterDifference, SeesOneMore, lines_of_router}
use Rattle.ospf_change.specs.Diff.Sums.{HasDifferenceRoom, RouterDifferences, count_of_kind, is_difference_of, is_some, count_if, difference_sums_of, difference_sums_plus}
use Rattle.ospf_change.specs.declared.diff.difference.RouteDifference.{RouteDifference}
use Rattle.ospf_change.specs.declared.diff.sights.Sights.{Sights}
use Rattle.ospf_change.specs.declared.diff.sums.DifferenceKind.{DifferenceKind}
use Rattle.ospf_change.specs.declared.diff.sums.DifferenceKind.TheVariants as kind
use Rattle.ospf_change.specs.declared.diff.sums.DifferenceSums.{DifferenceSums}

-- ---- sums

count_push : {X : Type 0} (p : X → Bool) (xs : List X) (x : X) → count_by p (xs ++ x ∷ []) ≡ count_by p xs + count_if (p x)
count_push p xs x = sum_by_push (λ y. count_if (p y)) xs x

pub count_more : (k : DifferenceKind) (found : List RouteDifference) (i : ℕ) (d : RouteDifference) → i < length found → d ≡ get_or found i d
    → count_of_kind k (take (i + 1) found) ≡ count_of_kind k (take i found) + count_if (is_difference_of k d)
count_more k found i d lt is =
    ap (count_of_kind k) (take_more found i d lt ∙ ap (λ (e : RouteDifference). take i found ++ e ∷ []) (sym is)) ∙ count_push (is_difference_of k) (take i found) d

pub count_within : (k : DifferenceKind) (found : List RouteDifference) (i : ℕ) → i < length found → count_of_kind k (take i found) ≤ i
count_within k found i lt =
    let few = count_by-le-length (is_difference_of k) (take i found) in
    let long = length-take-le i found (omega arith) in
    omega arith

sums_more : (sights : List RouterDifferences) (s : RouterDifferences) → difference_sums_of (sights ++ s ∷ []) ≡ difference_sums_plus (difference_sums_of sights) s.1
sums_more sights s = λ i. record {
  lost = sum_by_push (λ (t : RouterDifferences). count_of_kind kind.Lost t.1) sights s i;
  gained = sum_by_push (λ (t : RouterDifferences). count_of_kind kind.Gained t.1) sights s i;
  longer = sum_by_push (λ (t : RouterDifferences). count_of_kind kind.Longer t.1) sights s i;
  shorter = sum_by_push (λ (t : RouterDifferences). count_of_kind kind.Shorter t.1) sights s i;
  rerouted = sum_by_push (λ (t : RouterDifferences). count_of_kind kind.Rerouted t.1) sights s i;
  routers = count_push (λ (t : RouterDifferences). is_some t.1) sights s i;
}

-- ---- room for more

pub room_for_one : (n : ℕ) (s : DifferenceSums) → 0 < n → HasDifferenceRoom n s → HasDifferenceRoom 1 s
room_for_one n s some room = record {
  lost = (let r = room.lost in omega arith);
  gained = (let r = room.gained in omega arith);
  longer = (let r = room.longer in omega arith);
  shorter = (let r = room.shorter in omega arith);
  rerouted = (let r = room.rerouted in omega arith);
  routers = (let r = room.routers in omega arith);
}

one_at_most : (b : Bool) → count_if b ≤ 1
one_at_most false = omega arith
one_at_most true = omega arith

room_plus : (n : ℕ) (s : DifferenceSums) (found : List RouteDifference) → length found < 2 ^ 64 → HasDifferenceRoom (n + 1) s → HasDifferenceRoom n (difference_sums_plus s found)
room_plus n s found few room = record {
  lost = (let r = room.lost in let k = count_by-le-length (is_difference_of kind.Lost) found in omega arith);
  gained = (let r = room.gained in let k = count_by-le-length (is_difference_of kind.Gained) found in omega arith);
  longer = (let r = room.longer in let k = count_by-le-length (is_difference_of kind.Longer) found in omega arith);
  shorter = (let r = room.shorter in let k = count_by-le-length (is_difference_of kind.Shorter) found in omega arith);
  rerouted = (let r = room.rerouted in let k = count_by-le-length (is_difference_of kind.Rerouted) found in omega arith);
  routers = (let r = room.routers in let k = one_at_most (is_some found) in omega arith);
}

pub room_after : (n m : ℕ) (old new : DifferenceSums) (found : List RouteDifference) → length found < 2 ^ 64 → new ≡ difference_sums_plus old found → n + 1 ≡ m → HasDifferenceRoom m old
    → HasDifferenceRoom n new
room_after n m old new found few new_is is room =
    subst (HasDifferenceRoom n) (sym new_is) (room_plus n old found few (subst (λ (k : ℕ). HasDifferenceRoom k old) (sym is) room))

pub room_at_start : (n : ℕ) (s : DifferenceSums) → n < 2 ^ 64 → s ≡ difference_sums_of [] → HasDifferenceRoom n s
room_at_start n s few is =
    subst (HasDifferenceRoom n) (sym is)
    (record { lost = omega arith; gained = omega arith; longer = omega arith; shorter = omega arith; rerouted = omega arith; routers = omega arith })

-- ---- one router more

pub none_seen : (before after : List Advertisement) (routers : List RouterId) (s : Sights) → string_bytes s.lines ≡ [] → s.sums ≡ difference_sums_of []
    → AreSeen before after (take 0 routers) s
none_seen before after routers s lines sums = record {
  sights = [];
  are = record { routers_are = refl; seen = All-nil (IsRouterDifference before after) };
  lines_are = lines;
  sums_are = sums;
}

pub seen_more : (before after : List Advertisement) (routers : List RouterId) (i : ℕ) (r : RouterId) (old new : Sights) → i < length routers → r ≡ get_or routers i r
    → SeesOneMore before after r old new → AreSeen before after (take i routers) old → AreSeen before after (take (i + 1) routers) new
seen_more before after routers i r old new lt is more so_far =
    let s : RouterDifferences = (r, more.found) in
    let taken : take (i + 1) routers ≡ take i routers ++ r ∷ [] =
    take_more routers i r lt ∙ ap (λ (q : RouterId). take i routers ++ q ∷ []) (sym is) in
    let lines : flat_map lines_of_router (so_far.sights ++ s ∷ []) ≡ flat_map lines_of_router so_far.sights ++ lines_of_router s =
    flat_map-append lines_of_router so_far.sights (s ∷ []) ∙ ap (λ (l : List ℕ). flat_map lines_of_router so_far.sights ++ l) (append-nil (lines_of_router s)) in
    record {
      sights = so_far.sights ++ s ∷ [];
      are = record {
        routers_are = map_push (λ t. t.0) so_far.sights s ∙ ap (λ (l : List RouterId). l ++ r ∷ []) so_far.are.routers_are ∙ sym taken;
        seen = All-push (IsRouterDifference before after) so_far.sights s so_far.are.seen more.is;
      };
      lines_are = more.lines_are ∙ ap (λ (l : List ℕ). l ++ lines_of_router s) so_far.lines_are ∙ sym lines;
      sums_are = more.sums_are ∙ ap (λ (t : DifferenceSums). difference_sums_plus t more.found) so_far.sums_are ∙ sym (sums_more so_far.sights s);
    }

-- ---- the routers

pub routers_among : (before after : List AreaFailure) (start mid both routers : List RouterId) → start ≡ [] → Adds (λ r. Contains before (Router r)) start mid
    → Adds (λ r. Contains after (Router r)) mid both → ((r : RouterId) → Contains routers r ↔ Contains both r) → AllPairs (λ r s. r.0 < s.0) routers
    → AreRoutersAmong before after routers
routers_among before after start mid both routers none first second same rising = record {
  rising = rising;
  whole = λ r. (
    (λ c. elim ((second r).0 ((same r).0 c)) [
      | inl earlier ↦ elim ((first r).0 earlier) [
        | inl at_start ↦ absurd (let low = (subst (λ (l : List RouterId). Contains l r) none at_start).1 in omega arith)
        | inr h ↦ inl h
      ]
      | inr h ↦ inr h
    ]),
    (λ e. (same r).1 (elim e [ inl h ↦ (second r).1 (inl ((first r).1 (inr h))) | inr h ↦ (second r).1 (inr h) ])),
  );
}
