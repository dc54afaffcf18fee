-- The steps of the sweep.
use Rattle.std.proofs.Common.{subst, ◌≡◌, ◌+◌, ◌-◌, ◌<◌, ◌≤◌, ◌⊎◌, ℕ, List, [], ◌∷◌, ◌++◌, length, take, get_or, refl, sym, ap, ◌∙◌, inl, inr, arith}
use Rattle.std.specs.List.{Contains}
use Rattle.std.proofs.lemmas.List.{get_or_append_left, get_or_push, get_or-take, get_or_default, length_push, length-take-le}
use Rattle.std.proofs.lemmas.List.Elements.{Contains-append_left, Contains-push}
use Rattle.ospf_fib.specs.PrefixIndex.Ranges.{AreStartsRising}
use Rattle.ospf_fib.specs.PrefixIndex.Sweep.{Blocks, IsRangeBegun, IsLongest, IsSwept, here, top}

-- blocks stand in the order of their first addresses, and one that begins before an earlier
-- one ends lies in it and is longer
pub record AreNested (b : Blocks) : Type 0 where
  pub in_order : (k l : ℕ) → k ≤ l → l < b.count → b.first k ≤ b.first l
  pub nested : (k l : ℕ) → k < l → l < b.count → b.first l < b.end k
      → (b.end l ≤ b.end k) × (b.long k < b.long l)
  pub not_empty : (k : ℕ) → k < b.count → b.first k < b.end k

same_or_less : (i j : ℕ) → i ≤ j → (i ≡ j) ⊎ (i < j)
same_or_less i j le = grind arith

less_or_more : (i j : ℕ) → (i < j) ⊎ (j ≤ i)
less_or_more i j = grind arith

none_or_some : (n : ℕ) → (n ≡ 0) ⊎ (0 < n)
none_or_some n = grind arith

-- the last of a list that is not empty
pub top_is : (count : ℕ) (opened : List ℕ) → 0 < length opened → top count opened ≡ get_or opened (length opened - 1) 0
top_is count opened some = get_or_default opened (length opened - 1) count 0 (omega arith)

pub top_none : (count : ℕ) (opened : List ℕ) → length opened ≡ 0 → top count opened ≡ count
top_none count [] e = refl
top_none count (x ∷ xs) e = absurd (omega arith)

here_push : (starts : List ℕ) (y : ℕ) → here (starts ++ y ∷ []) ≡ y
here_push starts y = let n : length starts ≡ length (starts ++ y ∷ []) - 1 = omega (arith, length_push starts y) in get_or_push starts y 0 (length (starts ++ y ∷ []) - 1) n

-- ranges of which the last begins here and has this place, and all others have their answers
pub record IsNext (b : Blocks) (y v : ℕ) (starts places : List ℕ) : Type 0 where
  pub same_length : length places ≡ length starts
  pub some : 0 < length starts
  pub from_first : get_or starts 0 0 ≡ 0
  pub in_order : AreStartsRising starts
  pub exact : (i address : ℕ) → i + 1 < length starts → get_or starts i 0 ≤ address → address < get_or starts (i + 1) 0 → IsLongest b address (get_or places i 0)
  pub current : get_or places (length starts - 1) 0 ≡ v
  pub at_last : here starts ≡ y

module _ (b : Blocks) (nest : AreNested b) (begun : ℕ) (opened starts places : List ℕ) (m : IsSwept b begun opened starts places) where
  longest : (k : ℕ) → Contains opened k → 0 < length opened → b.long k ≤ b.long (get_or opened (length opened - 1) 0)
  longest k in_open some =
      let is : get_or opened in_open.0 0 ≡ k = get_or_default opened in_open.0 0 k in_open.1 ∙ in_open.2 in
      elim (same_or_less in_open.0 (length opened - 1) (let low = in_open.1 in omega arith)) [
        | inl same ↦ let e : k ≡ get_or opened (length opened - 1) 0 = sym is ∙ ap (λ j. get_or opened j 0) same in rw e (omega arith)
        | inr less ↦ let n = (m.nested in_open.0 (length opened - 1) less (omega arith)).1 in
            let f : b.long (get_or opened in_open.0 0) ≡ b.long k = ap b.long is in omega (arith, n, f)
      ]

  -- the range at which the sweep stands has its answer up to an address that is not behind the next block nor the end of the last opened
  pub closes : (y : ℕ) → ((k : ℕ) → begun ≤ k → k < b.count → y ≤ b.first k) → (0 < length opened → y ≤ b.end (get_or opened (length opened - 1) 0))
      → (a : ℕ) → here starts ≤ a → a < y → IsLongest b a (top b.count opened)
  closes y before inside a from to =
      elim (none_or_some (length opened)) [
        | inl none ↦ rw (top_none b.count opened none) (
          λ small. absurd (omega arith),
          λ le k lt has.
              elim (less_or_more k begun) [
                | inl less ↦ elim (m.ended k less) [
                  | inl in_open ↦ let low = in_open.1 in omega arith
                  | inr gone ↦ omega (arith, gone, has.1, from)
                ]
                | inr more ↦ omega (arith, before k more lt, has.0, to)
              ],
        )
        | inr some ↦
            let last = length opened - 1 in
            let t = get_or opened last 0 in
            let at = m.open_here last (omega arith) in
            let fits : a < b.end t = omega (arith, inside some, to) in
            let low : b.first t ≤ a = omega (arith, at.1, from) in
            let small : t < b.count = omega (arith, at.0, m.within) in
            rw (top_is b.count opened some) (
              λ _. (
                (low, fits),
                λ k lt has.
                    elim (less_or_more k begun) [
                      | inr more ↦ absurd (omega (arith, before k more lt, has.0, to))
                      | inl less ↦ elim (m.ended k less) [
                        | inr gone ↦ absurd (omega (arith, gone, has.1, from))
                        | inl in_open ↦ longest k in_open some
                      ]
                    ],
              ),
              λ le. absurd (omega (arith, small, le)),
            )
      ]

  -- a range begins where the last one does
  renamed : (y v : ℕ) → here starts ≡ y → IsNext b y v starts (take (length places - 1) places ++ v ∷ [])
  renamed y v same =
      let kept = take (length places - 1) places in
      let long : length kept ≡ length starts - 1 = omega (arith, length-take-le (length places - 1) places (omega arith), m.same_length) in
      let at : (i : ℕ) → i < length starts - 1 → get_or (kept ++ v ∷ []) i 0 ≡ get_or places i 0 = λ i lt.
      get_or_append_left kept (v ∷ []) 0 i (omega (arith, long)) ∙ get_or-take (length places - 1) places i 0 (omega (arith, m.same_length)) in
      record {
        same_length = omega (arith, length_push kept v, long, m.some);
        some = m.some;
        from_first = m.from_first;
        in_order = m.in_order;
        exact = λ i a lt from to. subst (λ (n : ℕ). IsLongest b a n) (sym (at i (omega arith))) (m.exact i a lt from to);
        current = get_or_push kept v 0 (length starts - 1) long;
        at_last = same;
      }

  -- each range has its answer, with one more that begins at this address
  exact_more : (y v : ℕ) → ((a : ℕ) → here starts ≤ a → a < y → IsLongest b a (top b.count opened))
      → (i a : ℕ) → i + 1 < length (starts ++ y ∷ []) → get_or (starts ++ y ∷ []) i 0 ≤ a → a < get_or (starts ++ y ∷ []) (i + 1) 0 → IsLongest b a (get_or (places ++ v ∷ []) i 0)
  exact_more y v closed i a lt from to =
      let long = length_push starts y in
      let in_places : i < length places = omega (arith, m.same_length, long) in
      let is : get_or (places ++ v ∷ []) i 0 ≡ get_or places i 0 = get_or_append_left places (v ∷ []) 0 i in_places in
      let at : get_or (starts ++ y ∷ []) i 0 ≡ get_or starts i 0 = get_or_append_left starts (y ∷ []) 0 i (omega (arith, long)) in
      let low : get_or starts i 0 ≤ a = subst (λ (n : ℕ). n ≤ a) at from in
      subst (λ (n : ℕ). IsLongest b a n) (sym is) (elim (same_or_less (i + 2) (length starts + 1) (omega (arith, long))) [
        | inl same ↦
            let e : i ≡ length starts - 1 = omega arith in
            let next : get_or (starts ++ y ∷ []) (i + 1) 0 ≡ y = get_or_push starts y 0 (i + 1) (omega arith) in
            let h : here starts ≤ a = subst (λ (n : ℕ). get_or starts n 0 ≤ a) e low in
            let p = closed a h (subst (λ (n : ℕ). a < n) next to) in
            subst (λ (n : ℕ). IsLongest b a n) (sym (ap (λ n. get_or places n 0) e ∙ m.current)) p
        | inr less ↦
            let next : get_or (starts ++ y ∷ []) (i + 1) 0 ≡ get_or starts (i + 1) 0 = get_or_append_left starts (y ∷ []) 0 (i + 1) (omega arith) in
            m.exact i a (omega arith) low (subst (λ (n : ℕ). a < n) next to)
      ])

  order_more : (y : ℕ) → here starts < y → AreStartsRising (starts ++ y ∷ [])
  order_more y up i j before lt =
      let long = length_push starts y in
      let first : get_or (starts ++ y ∷ []) i 0 ≡ get_or starts i 0 = get_or_append_left starts (y ∷ []) 0 i (omega (arith, long)) in
      elim (same_or_less j (length starts) (omega (arith, long))) [
        | inr less ↦ rw (get_or_append_left starts (y ∷ []) 0 j less, first) (m.in_order i j before less)
        | inl at ↦
            let last : get_or (starts ++ y ∷ []) j 0 ≡ y = get_or_push starts y 0 j (sym at) in
            elim (same_or_less i (length starts - 1) (omega arith)) [
              | inl same ↦ let e : get_or starts i 0 ≡ here starts = ap (λ n. get_or starts n 0) same in omega (arith, e, first, last, up)
              | inr less ↦ omega (arith, first, last, m.in_order i (length starts - 1) less (omega (arith, m.some)), up)
            ]
      ]

  -- a range begins behind the last one
  added : (y v : ℕ) → here starts < y → ((a : ℕ) → here starts ≤ a → a < y → IsLongest b a (top b.count opened)) → IsNext b y v (starts ++ y ∷ []) (places ++ v ∷ [])
  added y v up closed =
      record {
        same_length = omega (arith, length_push places v, length_push starts y, m.same_length);
        some = omega (arith, length_push starts y);
        from_first = get_or_append_left starts (y ∷ []) 0 0 m.some ∙ m.from_first;
        in_order = order_more y up;
        exact = exact_more y v closed;
        current = get_or_push places v 0 (length (starts ++ y ∷ []) - 1) (omega (arith, m.same_length, length_push starts y));
        at_last = here_push starts y;
      }

  -- a range begins
  next_ranges : (y v : ℕ) (next_starts next_places : List ℕ) → here starts ≤ y → ((a : ℕ) → here starts ≤ a → a < y → IsLongest b a (top b.count opened))
      → IsRangeBegun starts places y v next_starts next_places → IsNext b y v next_starts next_places
  next_ranges y v next_starts next_places up closed (inl is) = rw (is.2, is.3) (renamed y v is.1)
  next_ranges y v next_starts next_places up closed (inr is) =
      let behind : here starts < y = elim (same_or_less (here starts) y up) [
        | inl same ↦ absurd (is.0 m.some same)
        | inr less ↦ less
      ] in
      rw (is.1, is.2) (added y v behind closed)

  -- the block that was opened last ends
  pub ends_one : (limit : ℕ) (fewer next_starts next_places : List ℕ) → 0 < length opened → fewer ≡ take (length opened - 1) opened → b.end (get_or opened (length opened - 1) 0) ≤ limit
      → ((k : ℕ) → begun ≤ k → k < b.count → limit ≤ b.first k)
      → IsRangeBegun starts places (b.end (get_or opened (length opened - 1) 0)) (top b.count fewer) next_starts next_places → IsSwept b begun fewer next_starts next_places
  ends_one limit fewer next_starts next_places some is fits before started =
      let last = length opened - 1 in
      let y = b.end (get_or opened last 0) in
      let long : length fewer ≡ last = ap length is ∙ length-take-le last opened (omega arith) in
      let at : (s : ℕ) → s < last → get_or fewer s 0 ≡ get_or opened s 0 = λ s lt. ap (λ l. get_or l s 0) is ∙ get_or-take last opened s 0 lt in
      let up : here starts ≤ y = (m.open_here last (omega arith)).2 in
      let more = next_ranges y (top b.count fewer) next_starts next_places up (closes y (λ k le lt. omega (arith, before k le lt)) (λ _. omega arith)) started in
      let next = more.at_last in
      record {
        within = m.within;
        same_length = more.same_length;
        some = more.some;
        from_first = more.from_first;
        in_order = more.in_order;
        exact = more.exact;
        current = more.current;
        open_here = λ s lt.
            let less : s < last = omega (arith, long) in
            let h = m.open_here s (omega arith) in
            let n = (m.nested s last less (omega arith)).0 in
            rw (at s less, next) (h.0, omega (arith, h.1, up), n);
        nested = λ s t lt within.
            let less : t < last = omega (arith, long) in
            rw (at s (omega arith), at t less) (m.nested s t lt (omega arith));
        ended = λ k lt.
            elim (m.ended k lt) [
              | inr gone ↦ inr (rw next (omega (arith, gone, up)))
              | inl in_open ↦
                  let value : get_or opened in_open.0 0 ≡ k = get_or_default opened in_open.0 0 k in_open.1 ∙ in_open.2 in
                  elim (same_or_less in_open.0 last (let low = in_open.1 in omega arith)) [
                    | inl same ↦ inr (rw next (let e : b.end k ≡ y = ap b.end (sym value ∙ ap (λ j. get_or opened j 0) same) in omega (arith, e)))
                    | inr less ↦ inl (in_open.0, omega (arith, long, less), get_or_default fewer in_open.0 k 0 (omega (arith, long, less)) ∙ at in_open.0 less ∙ value)
                  ]
            ];
        ahead = λ k le lt. rw next (omega (arith, before k le lt, fits));
      }

  -- the next block begins
  pub begins_one : (next_starts next_places : List ℕ) → begun < b.count → (0 < length opened → b.first begun < b.end (get_or opened (length opened - 1) 0))
      → IsRangeBegun starts places (b.first begun) begun next_starts next_places → IsSwept b (begun + 1) (opened ++ begun ∷ []) next_starts next_places
  begins_one next_starts next_places small inside started =
      let y = b.first begun in
      let up : here starts ≤ y = m.ahead begun (omega arith) small in
      let more = next_ranges y begun next_starts next_places up (closes y (λ k le lt. nest.in_order begun k le lt) (λ s. omega (arith, inside s))) started in
      let next = more.at_last in
      let long = length_push opened begun in
      let last : get_or (opened ++ begun ∷ []) (length opened) 0 ≡ begun = get_or_push opened begun 0 (length opened) refl in
      let at : (s : ℕ) → s < length opened → get_or (opened ++ begun ∷ []) s 0 ≡ get_or opened s 0 = λ s lt. get_or_append_left opened (begun ∷ []) 0 s lt in
      let behind : length (opened ++ begun ∷ []) - 1 ≡ length opened = omega (arith, long) in
      let is_top : top b.count (opened ++ begun ∷ []) ≡ begun =
      top_is b.count (opened ++ begun ∷ []) (omega (arith, long)) ∙ ap (λ n. get_or (opened ++ begun ∷ []) n 0) behind ∙ last in
      let holds = nest.not_empty begun small in
      let ends : (s : ℕ) → s < length opened → y < b.end (get_or opened s 0) = λ s lt.
      elim (same_or_less s (length opened - 1) (omega arith)) [
        | inl same ↦ let e : b.end (get_or opened s 0) ≡ b.end (get_or opened (length opened - 1) 0) = ap (λ j. b.end (get_or opened j 0)) same in omega (arith, e, inside (omega arith))
        | inr less ↦ omega (arith, (m.nested s (length opened - 1) less (omega arith)).0, inside (omega arith))
      ] in
      record {
        within = omega arith;
        same_length = more.same_length;
        some = more.some;
        from_first = more.from_first;
        in_order = more.in_order;
        exact = more.exact;
        current = more.current ∙ sym is_top;
        open_here = λ s lt.
            elim (same_or_less s (length opened) (omega (arith, long))) [
              | inl same ↦ let e : get_or (opened ++ begun ∷ []) s 0 ≡ begun = ap (λ n. get_or (opened ++ begun ∷ []) n 0) same ∙ last in rw (e, next) (omega arith, omega arith, omega (arith, holds))
              | inr less ↦ let h = m.open_here s less in rw (at s less, next) (omega (arith, h.0), omega (arith, h.1, up), omega (arith, ends s less))
            ];
        nested = λ s t lt within.
            let before : s < length opened = omega (arith, long) in
            elim (same_or_less t (length opened) (omega (arith, long))) [
              | inl same ↦
                  let e : get_or (opened ++ begun ∷ []) t 0 ≡ begun = ap (λ n. get_or (opened ++ begun ∷ []) n 0) same ∙ last in
                  let n = nest.nested (get_or opened s 0) begun (m.open_here s before).0 small (ends s before) in
                  rw (e, at s before) n
              | inr less ↦ rw (at s before, at t less) (m.nested s t lt less)
            ];
        ended = λ k lt.
            elim (same_or_less k begun (omega arith)) [
              | inl same ↦ inl (rw same (Contains-push opened begun))
              | inr less ↦ elim (m.ended k less) [
                | inl in_open ↦ inl (Contains-append_left opened (begun ∷ []) k in_open)
                | inr gone ↦ inr (rw next (omega (arith, gone, up)))
              ]
            ];
        ahead = λ k le lt. rw next (nest.in_order begun k (omega arith) lt);
      }
