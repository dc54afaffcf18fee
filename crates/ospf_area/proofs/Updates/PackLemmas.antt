-- Acknowledgments have all headers, in order of key, as many in each as fit.
use Rattle.ospf_area.proofs.Updates.Words.{put_all_in_order, packets}
use Rattle.std.proofs.Common.{◌≡◌, ◌≢◌, ◌⊎◌, inl, ◌+◌, ◌-◌, ◌*◌, ◌<◌, ◌≤◌, ℕ, zero, suc, min, Bool, true, false, if◌then◌else◌, List, [], ◌∷◌, ◌++◌, Some, length, length-append, take, drop, refl, ap, subst, ◌∙◌, arith, add-one, append-nil}
use Rattle.std.specs.List.{AllByRecursion, flat_map, slice_get}
use Rattle.std.specs.List.Sorted.{IsPermutation}
use Rattle.std.proofs.lemmas.List.{length-take, length-drop, take-append-drop}
use Rattle.std.proofs.lemmas.Nat.{le-div}
use Rattle.std.proofs.lemmas.List.Sorted.{IsPermutation-append_right, IsPermutation-cons, IsPermutation-middle, IsPermutation-refl, IsPermutation-sym, IsPermutation-trans}
use Rattle.std.proofs.lemmas.Option.{none-some, same_Some}
use Rattle.ospf_lsa.specs.declared.header.LsaHeader.{LsaHeader}
use Rattle.ospf_packet.specs.Meaning.{acknowledgment}
use Rattle.ospf_packet.proofs.BodyLengths.{acknowledgment_length}
use Rattle.ospf_area.specs.Packing.{IsFull, IsWithin, ip_length}
use Rattle.ospf_area.specs.declared.sending.RouterContext.{RouterContext}
use Rattle.ospf_area.proofs.PackLemmas.{ip_length-is, room_passed, room_used}
use Rattle.ospf_area.specs.Updates.Acks.{ack_room, cut, header_precedes, in_order, put_in_order}
use Rattle.ospf_area.proofs.Updates.OrderLemmas.{in_order_rises, in_order_stable}
use Rattle.ospf_area.specs.Updates.AckLaws.{AcknowledgementsAreOrdered, AcknowledgementsArePacked, acknowledgment_of}

-- ---- the same headers

put_same : (h : LsaHeader) (xs : List LsaHeader) → IsPermutation (h ∷ xs) (put_in_order h xs)
put_same h [] = IsPermutation-refl (h ∷ [])
put_same h (x ∷ xs) = by_test (header_precedes h x) (put_same h xs)
  where
    turned : IsPermutation (h ∷ x ∷ xs) (x ∷ h ∷ xs)
    turned = IsPermutation-sym (x ∷ h ∷ xs) (h ∷ x ∷ xs) (IsPermutation-middle (x ∷ []) h xs)

    by_test : (b : Bool) → IsPermutation (h ∷ xs) (put_in_order h xs) → IsPermutation (h ∷ x ∷ xs) (if b then h ∷ x ∷ xs else x ∷ put_in_order h xs)
    by_test true rec = IsPermutation-refl (h ∷ x ∷ xs)
    by_test false rec = IsPermutation-trans (h ∷ x ∷ xs) (x ∷ h ∷ xs) (x ∷ put_in_order h xs) turned (IsPermutation-cons x (h ∷ xs) (put_in_order h xs) rec)

put_all_same : (hs sorted : List LsaHeader) → IsPermutation (hs ++ sorted) (put_all_in_order hs sorted)
put_all_same [] sorted = IsPermutation-refl sorted
put_all_same (h ∷ hs) sorted =
    IsPermutation-trans (h ∷ (hs ++ sorted)) (hs ++ h ∷ sorted) (put_all_in_order hs (put_in_order h sorted))
    (IsPermutation-sym (hs ++ h ∷ sorted) (h ∷ (hs ++ sorted)) (IsPermutation-middle hs h sorted))
    (IsPermutation-trans (hs ++ h ∷ sorted) (hs ++ put_in_order h sorted) (put_all_in_order hs (put_in_order h sorted))
    (IsPermutation-append_right hs (h ∷ sorted) (put_in_order h sorted) (put_same h sorted))
    (put_all_same hs (put_in_order h sorted)))

-- ---- in packets

acknowledgment_sized : (own : RouterContext) (headers : List LsaHeader) → ip_length (acknowledgment_of own headers) ≡ 44 + length headers * 20
acknowledgment_sized own headers = omega (arith, ip_length-is own (acknowledgment headers), acknowledgment_length headers)

none_cut : (n room : ℕ) (i : ℕ) (packed : List LsaHeader) → slice_get (cut n room []) i ≡ Some packed → ⊥
unfolding cut
none_cut zero room i packed is = none-some packed is
none_cut (suc n) room i packed is = none-some packed is

some_cut : (n room : ℕ) (hs : List LsaHeader) (i : ℕ) (packed : List LsaHeader) → slice_get (cut n room hs) i ≡ Some packed → 0 < length hs
some_cut n room [] i packed is = absurd (none_cut n room i packed is)
some_cut n room (h ∷ hs) i packed is = omega arith

whole : (n room : ℕ) (hs : List LsaHeader) → 0 < room → length hs ≤ n → flat_map (λ (packed : List LsaHeader). packed) (cut n room hs) ≡ hs
unfolding cut
whole zero room [] pos le = refl
whole zero room (h ∷ hs) pos le = absurd (omega arith)
whole (suc n) room [] pos le = refl
whole (suc n) room (h ∷ hs) pos le =
    let k = min room (length (h ∷ hs)) in
    let long = length-drop k (h ∷ hs) in
    ap (λ (l : List LsaHeader). take k (h ∷ hs) ++ l) (whole n room (drop k (h ∷ hs)) pos (omega arith)) ∙ take-append-drop k (h ∷ hs)

none_empty : (n room : ℕ) (hs : List LsaHeader) → 0 < room → AllByRecursion (λ (packed : List LsaHeader). packed ≢ []) (cut n room hs)
unfolding cut
none_empty zero room hs pos = tt
none_empty (suc n) room [] pos = tt
none_empty (suc n) room (h ∷ hs) pos =
    let k = min room (length (h ∷ hs)) in
    let long = length-take k (h ∷ hs) in
    ((λ none. absurd (omega (arith, ap length none))), none_empty n room (drop k (h ∷ hs)) pos)

all_fit : (own : RouterContext) (mtu n : ℕ) (hs : List LsaHeader) → 44 ≤ mtu → AllByRecursion (IsWithin (acknowledgment_of own) mtu) (cut n (ack_room mtu) hs)
unfolding cut
all_fit own mtu zero hs within = tt
all_fit own mtu (suc n) [] within = tt
all_fit own mtu (suc n) (h ∷ hs) within =
    let k = min (ack_room mtu) (length (h ∷ hs)) in
    let long = length-take k (h ∷ hs) in
    let used = room_used mtu 44 20 (ack_room mtu) (length (take k (h ∷ hs))) (omega arith) within refl (omega arith) in
    (omega (arith, used, acknowledgment_sized own (take k (h ∷ hs))), all_fit own mtu n (drop k (h ∷ hs)) within)

all_full : (own : RouterContext) (mtu n : ℕ) (hs : List LsaHeader) → (i : ℕ) (packed : List LsaHeader) (next : LsaHeader) (later : List LsaHeader)
    → slice_get (cut n (ack_room mtu) hs) i ≡ Some packed → slice_get (cut n (ack_room mtu) hs) (suc i) ≡ Some (next ∷ later) → IsFull (acknowledgment_of own) mtu packed next
unfolding cut
all_full own mtu zero hs i packed next later here there = absurd (none-some packed here)
all_full own mtu (suc n) [] i packed next later here there = absurd (none-some packed here)
all_full own mtu (suc n) (h ∷ hs) zero packed next later here there =
    let room = ack_room mtu in
    let k = min room (length (h ∷ hs)) in
    let left = some_cut n room (drop k (h ∷ hs)) 0 (next ∷ later) there in
    let long = length-take k (h ∷ hs) in
    let rest = length-drop k (h ∷ hs) in
    let is : length (take k (h ∷ hs)) ≡ length packed = ap length (same_Some (take k (h ∷ hs)) packed here) in
    let used : length packed ≡ room = omega arith in
    let more : length (packed ++ next ∷ []) ≡ room + 1 = omega (arith, used, length-append packed (next ∷ [])) in
    omega (arith, more, room_passed mtu 44 20 room (omega arith) refl, acknowledgment_sized own (packed ++ next ∷ []))
all_full own mtu (suc n) (h ∷ hs) (suc i) packed next later here there =
    all_full own mtu n (drop (min (ack_room mtu) (length (h ∷ hs))) (h ∷ hs)) i packed next later here there

alone_or_fit : (own : RouterContext) (mtu : ℕ) (ps : List (List LsaHeader)) → AllByRecursion (IsWithin (acknowledgment_of own) mtu) ps
    → AllByRecursion (λ (packed : List LsaHeader). IsWithin (acknowledgment_of own) mtu packed ⊎ (length packed ≡ 1)) ps
alone_or_fit own mtu [] all = tt
alone_or_fit own mtu (p ∷ ps) all = (inl all.0, alone_or_fit own mtu ps all.1)

pub acknowledgements_are_packed : AcknowledgementsArePacked
acknowledgements_are_packed own way mtu headers within =
    let hs = in_order headers in
    let room = ack_room mtu in
    let n = length hs in
    let some : 0 < room = le-div 1 (mtu - 44) 20 (omega arith) (omega arith) in
    let fit = all_fit own mtu n hs (omega arith) in (
      packets room hs,
      record {
        sent = refl;
        packed = record {
          whole = whole n room hs some (omega arith);
          some = none_empty n room hs some;
          fits = alone_or_fit own mtu (packets room hs) fit;
          full = λ k packed next later here there. all_full own mtu n hs k packed next later here (rw add-one at there);
        };
        fit = fit;
      },
    )

pub acknowledgements_are_ordered : AcknowledgementsAreOrdered
acknowledgements_are_ordered headers = record {
  same = subst (λ (l : List LsaHeader). IsPermutation l (in_order headers)) (append-nil headers) (put_all_same headers []);
  rising = in_order_rises headers;
  stable = in_order_stable headers;
}
