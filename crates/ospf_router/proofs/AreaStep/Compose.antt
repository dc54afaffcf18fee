use Rattle.std.proofs.Common.{◌≡◌, ◌⊎◌, ◌+◌, ◌-◌, ◌<◌, ◌≤◌, ◌++◌, ℕ, true, false, List, [], length, get_or, Option, None, refl, sym, ap, subst, inl, inr, arith, ◌∙◌, length-append}
use Rattle.ospf_area.proofs.Words.{state_of}
use Rattle.std.specs.Prelude.{◌<ℤ◌, ◌≤ℤ◌}
use Rattle.std.specs.List.{Contains, AllPairs}
use Rattle.std.proofs.lemmas.Bool.{false≢true, cases_Bool, cases_lt}
use Rattle.std.proofs.lemmas.Int.{ints}
use Rattle.std.proofs.lemmas.List.Elements.{Contains-append_cases, Contains-append_left, Contains-append_right, Contains-get_or}
use Rattle.std.proofs.Math.ListN.{get_or-append}
use Rattle.std.proofs.lemmas.List.{get_or-append_right}
use Rattle.std.proofs.lemmas.Option.{none-some}
use Rattle.ospf_base.specs.Constants.{max_age}
use Rattle.ospf_base.specs.Sums.{contents}
use Rattle.ospf_base.specs.declared.ids.Instance.{Instance}
use Rattle.ospf_base.specs.declared.ids.LsaKey.{LsaKey}
use Rattle.ospf_base.specs.declared.ids.RouterId.{RouterId}
use Rattle.ospf_lsa.specs.Header.{header_of}
use Rattle.ospf_lsa.specs.Lsa.{key_of, instance_of}
use Rattle.ospf_lsa.specs.Recency.{recency}
use Rattle.ospf_lsa.specs.declared.recency.Recency.TheVariants.{Newer}
use Rattle.ospf_packet.specs.Meaning.{Meaning}
use Rattle.ospf_neighbour.specs.Machine.{is_exchanging}
use Rattle.ospf_area.specs.Outputs.{OutputsValue, then_outputs}
use Rattle.ospf_area.specs.State.{AreaValue, kept_number, Awaits}
use Rattle.ospf_router.specs.AreaStep.Packets.{Received}
use Rattle.ospf_router.specs.AreaStep.Words.{CanName, HoldsInstance, Asks, Brings}
use Rattle.ospf_lsdb.specs.Moments.{among}
use Rattle.ospf_router.specs.AreaStep.Accounts.{Accounts, Numbers, HasContents, IsDescribed, IsReplaced, TakesItsPlace, Sends, HasWord, MayLeave, WaitsOn, WasKept, NoneEntersExchange}
use Rattle.ospf_router.proofs.AreaStep.StateFacts.{greater_is_newer, newer_than_expired, same_contents}

-- R holds of each pair of a list joined from two: within either, and across
AllPairs-append : {X : Type 0} (R : X → X → Type 0) (xs ys : List X) → AllPairs R xs → AllPairs R ys → ((x y : X) → Contains xs x → Contains ys y → R x y) → AllPairs R (xs ++ ys)
AllPairs-append R xs ys in_xs in_ys across i j d lt within = go (cases_lt i (length xs)) (cases_lt j (length xs))
  where
    total : length (xs ++ ys) ≡ length xs + length ys
    total = length-append xs ys

    left : (k : ℕ) → k < length xs → get_or (xs ++ ys) k d ≡ get_or xs k d
    left k h = get_or-append xs ys d k h

    right : (k : ℕ) → length xs ≤ k → get_or (xs ++ ys) k d ≡ get_or ys (k - length xs) d
    right k h = get_or-append_right xs ys (length xs) k d refl h

    go : (i < length xs) ⊎ (length xs ≤ i) → (j < length xs) ⊎ (length xs ≤ j) → R (get_or (xs ++ ys) i d) (get_or (xs ++ ys) j d)
    go (inl a) (inl b) = subst (λ x. R x (get_or (xs ++ ys) j d)) (sym (left i a)) (subst (λ y. R (get_or xs i d) y) (sym (left j b)) (in_xs i j d lt b))
    go (inl a) (inr b) =
        let inside : j - length xs < length ys = omega (arith, total) in
        subst (λ x. R x (get_or (xs ++ ys) j d)) (sym (left i a)) (subst (λ y. R (get_or xs i d) y) (sym (right j b)) (across _ _ (Contains-get_or xs i d a) (Contains-get_or ys (j - length xs) d inside)))
    go (inr a) (inl b) = absurd (omega arith)
    go (inr a) (inr b) =
        let inside : j - length xs < length ys = omega (arith, total) in
        let order : i - length xs < j - length xs = omega arith in
        subst (λ x. R x (get_or (xs ++ ys) j d)) (sym (right i a)) (subst (λ y. R (get_or ys (i - length xs) d) y) (sym (right j b)) (in_ys (i - length xs) (j - length xs) d order inside))

Brings-left : (a b : OutputsValue) (i : Instance) → Brings a i → Brings (then_outputs a b) i
Brings-left a b i (Brings.Takes c) = Brings.Takes (Contains-append_left a.taken b.taken i c)
Brings-left a b i (Brings.Issues lsa c e) = Brings.Issues lsa (Contains-append_left a.issued b.issued lsa c) e

Brings-right : (a b : OutputsValue) (i : Instance) → Brings b i → Brings (then_outputs a b) i
Brings-right a b i (Brings.Takes c) = Brings.Takes (Contains-append_right a.taken b.taken i c)
Brings-right a b i (Brings.Issues lsa c e) = Brings.Issues lsa (Contains-append_right a.issued b.issued lsa c) e

Brings-cases : (a b : OutputsValue) (i : Instance) → Brings (then_outputs a b) i → Brings a i ⊎ Brings b i
Brings-cases a b i (Brings.Takes c) = elim (Contains-append_cases a.taken b.taken i c) [ inl x ↦ inl (Brings.Takes x) | inr y ↦ inr (Brings.Takes y) ]
Brings-cases a b i (Brings.Issues lsa c e) = elim (Contains-append_cases a.issued b.issued lsa c) [ inl x ↦ inl (Brings.Issues lsa x e) | inr y ↦ inr (Brings.Issues lsa y e) ]

Sends-cases : (a b : OutputsValue) (p : Meaning) → Sends (then_outputs a b) p → Sends a p ⊎ Sends b p
Sends-cases a b p s = elim (Contains-append_cases a.sent b.sent s.datagram s.sent) [ inl x ↦ inl (record { datagram = s.datagram; sent = x; reads = s.reads }) | inr y ↦ inr (record { datagram = s.datagram; sent = y; reads = s.reads }) ]

-- what one part answers for and then the next, the two answer for together
module _ (heard : Option Received) (s t u : AreaValue) (a b : OutputsValue) (first : Accounts heard s a t) (next : Accounts heard t b u) (none_enters : NoneEntersExchange t u) (none_ended : a.ended ≡ []) where
  has_first : (content : List ℕ) → HasContents heard s a content → HasContents heard s (then_outputs a b) content
  has_first content (HasContents.Held lsa c e) = HasContents.Held lsa c e
  has_first content (HasContents.Heard p lsa h c e) = HasContents.Heard p lsa h c e
  has_first content (HasContents.Issued lsa c e) = HasContents.Issued lsa (Contains-append_left a.issued b.issued lsa c) e

  has_next : (content : List ℕ) → HasContents heard t b content → HasContents heard s (then_outputs a b) content
  has_next content (HasContents.Held lsa c e) = subst (λ k. HasContents heard s (then_outputs a b) k) e (has_first (contents lsa) (first.database lsa c))
  has_next content (HasContents.Heard p lsa h c e) = HasContents.Heard p lsa h c e
  has_next content (HasContents.Issued lsa c e) = HasContents.Issued lsa (Contains-append_right a.issued b.issued lsa c) e

  names_first : (i : Instance) → CanName s i ⊎ Brings a i → CanName s i ⊎ Brings (then_outputs a b) i
  names_first i (inl n) = inl n
  names_first i (inr x) = inr (Brings-left a b i x)

  names_next : (i : Instance) → CanName t i ⊎ Brings b i → CanName s i ⊎ Brings (then_outputs a b) i
  names_next i (inl n) = names_first i (first.names i n)
  names_next i (inr x) = inr (Brings-right a b i x)

  holds_next : (i : Instance) → HoldsInstance t i ⊎ Brings b i → HoldsInstance s i ⊎ Brings (then_outputs a b) i
  holds_next i (inl n) = elim (first.holds i n) [ inl o ↦ inl o | inr x ↦ inr (Brings-left a b i x) ]
  holds_next i (inr x) = inr (Brings-right a b i x)

  asks_next : (l : ℕ) (q : RouterId) (i : Instance) → Asks t l q i ⊎ IsDescribed heard l q i → Asks s l q i ⊎ IsDescribed heard l q i
  asks_next l q i (inl c) = first.asks l q i c
  asks_next l q i (inr e) = inr e

  word_next : (l : ℕ) (q : RouterId) (i : Instance) → HasWord heard t l q i → HasWord heard s l q i
  word_next l q i (HasWord.Acknowledged h) = HasWord.Acknowledged h
  word_next l q i (HasWord.Described j h covers) = HasWord.Described j h covers
  word_next l q i (HasWord.Requested j c covers) = elim (first.asks l q j c) [ inl o ↦ HasWord.Requested j o covers | inr e ↦ HasWord.Described j e covers ]

  -- what took a copy's place in either part took it in both
  stored_first : (old new : List ℕ) → TakesItsPlace heard a old new → TakesItsPlace heard (then_outputs a b) old new
  stored_first old new (TakesItsPlace.Installed p h c taken) = TakesItsPlace.Installed p h c (Contains-append_left a.taken b.taken (instance_of new) taken)
  stored_first old new (TakesItsPlace.Issued c more) = TakesItsPlace.Issued (Contains-append_left a.issued b.issued new c) more

  stored_next : (old was new : List ℕ) → instance_of was ≡ instance_of old → TakesItsPlace heard b old new → TakesItsPlace heard (then_outputs a b) was new
  stored_next old was new same (TakesItsPlace.Installed p h c taken) = TakesItsPlace.Installed p h c (Contains-append_right a.taken b.taken (instance_of new) taken)
  stored_next old was new same (TakesItsPlace.Issued c more) = TakesItsPlace.Issued (Contains-append_right a.issued b.issued new c) (subst (λ i. i.number <ℤ (instance_of new).number) (sym same) more)

  -- an LSA that is newer than a copy that was kept is newer than the copy was
  newer_than_kept : (old new : List ℕ) (k : WasKept heard s old) → recency (header_of new) (header_of old) ≡ Newer → TakesItsPlace heard b old new → recency (header_of new) (header_of k.old) ≡ Newer
  newer_than_kept old new k newer stored = by k.age stored
    where
      same : instance_of k.old ≡ instance_of old
      same = same_contents k.old old k.same

      by : (k.old ≡ old) ⊎ ((heard ≡ None) ⊎ ((header_of old).age ≡ max_age)) → TakesItsPlace heard b old new → recency (header_of new) (header_of k.old) ≡ Newer
      by (inl it) stored = subst (λ l. recency (header_of new) (header_of l) ≡ Newer) (sym it) newer
      by (inr (inl silent)) (TakesItsPlace.Installed p h c taken) = absurd (none-some p (sym silent ∙ h))
      by (inr (inl silent)) (TakesItsPlace.Issued c more) = greater_is_newer (header_of new) (header_of k.old) (subst (λ i. i.number <ℤ (instance_of new).number) (sym same) more)
      by (inr (inr expired)) stored = newer_than_expired (header_of new) (header_of old) (header_of k.old) expired (ap (λ i. i.number) same) (ap (λ i. i.sum) same) newer

  replaced_since : (i : Instance) (r : IsReplaced heard t b i) → WasKept heard s r.old → IsReplaced heard s (then_outputs a b) i
  replaced_since i r k = record {
    old = k.old;
    new = r.new;
    copy = k.copy;
    old_is = same_contents k.old r.old k.same ∙ r.old_is;
    same_key = r.same_key;
    newer = newer_than_kept r.old r.new k r.newer r.stored;
    stored = stored_next r.old k.old r.new (same_contents k.old r.old k.same) r.stored;
  }

  -- a copy that was kept over both parts
  kept_both : (lsa : List ℕ) (k : WasKept heard t lsa) → WasKept heard s k.old → WasKept heard s lsa
  kept_both lsa k was = record { old = was.old; copy = was.copy; same = was.same ∙ k.same; age = by k.age was.age }
    where
      by : (k.old ≡ lsa) ⊎ ((heard ≡ None) ⊎ ((header_of lsa).age ≡ max_age)) → (was.old ≡ k.old) ⊎ ((heard ≡ None) ⊎ ((header_of k.old).age ≡ max_age)) → (was.old ≡ lsa) ⊎ ((heard ≡ None) ⊎ ((header_of lsa).age ≡ max_age))
      by (inl it) (inl that) = inl (that ∙ it)
      by (inl it) (inr (inl silent)) = inr (inl silent)
      by (inl it) (inr (inr expired)) = inr (inr (subst (λ l. (header_of l).age ≡ max_age) it expired))
      by (inr aged) that = inr aged

  waits_both : (l : ℕ) (q : RouterId) (i : Instance) → WaitsOn heard s t l q i → WaitsOn heard t u l q i → WaitsOn heard s u l q i
  waits_both l q i one two = record {
    awaits = two.awaits;
    kept = λ lsa c is. (let k = two.kept lsa c is in kept_both lsa k (one.kept k.old k.copy (same_contents k.old lsa k.same ∙ is)));
  }

  -- what may have left a list in the first part may have left it in both
  leave_first : (l : ℕ) (q : RouterId) (i : Instance) → MayLeave heard s a t l q i → MayLeave heard s (then_outputs a b) u l q i
  leave_first l q i (MayLeave.Acknowledged h) = MayLeave.Acknowledged h
  leave_first l q i (MayLeave.Replaced r again) =
      MayLeave.Replaced (record { old = r.old; new = r.new; copy = r.copy; old_is = r.old_is; same_key = r.same_key; newer = r.newer; stored = stored_first r.old r.new r.stored })
      (λ holds. elim (next.holds i holds) [ inl there ↦ Brings-left a b i (again there) | inr now ↦ Brings-right a b i now ])
  leave_first l q i (MayLeave.Fell fell) = MayLeave.Fell (still (cases_Bool (is_exchanging (state_of u l q))))
    where
      still : (is_exchanging (state_of u l q) ≡ true) ⊎ (is_exchanging (state_of u l q) ≡ false) → is_exchanging (state_of u l q) ≡ false
      still (inl up) = absurd (false≢true (sym fell ∙ none_enters l q up))
      still (inr down) = down

  leave_next : (l : ℕ) (q : RouterId) (i : Instance) → WaitsOn heard s t l q i → MayLeave heard t b u l q i → MayLeave heard s (then_outputs a b) u l q i
  leave_next l q i waits (MayLeave.Acknowledged h) = MayLeave.Acknowledged h
  leave_next l q i waits (MayLeave.Replaced r again) = MayLeave.Replaced (replaced_since i r (waits.kept r.old r.copy r.old_is)) (λ holds. Brings-right a b i (again holds))
  leave_next l q i waits (MayLeave.Fell fell) = MayLeave.Fell fell

  leaves_both : (l : ℕ) (q : RouterId) (i : Instance) → Awaits s l q i → WaitsOn heard s u l q i ⊎ MayLeave heard s (then_outputs a b) u l q i
  leaves_both l q i before = by_first (first.leaves l q i before)
    where
      by_next : WaitsOn heard s t l q i → WaitsOn heard t u l q i ⊎ MayLeave heard t b u l q i → WaitsOn heard s u l q i ⊎ MayLeave heard s (then_outputs a b) u l q i
      by_next one (inl two) = inl (waits_both l q i one two)
      by_next one (inr may) = inr (leave_next l q i one may)

      by_first : WaitsOn heard s t l q i ⊎ MayLeave heard s a t l q i → WaitsOn heard s u l q i ⊎ MayLeave heard s (then_outputs a b) u l q i
      by_first (inl one) = by_next one (next.leaves l q i one.awaits)
      by_first (inr may) = inr (leave_first l q i may)

  listed_both : (l : ℕ) (q : RouterId) (i : Instance) → Brings (then_outputs a b) i → HoldsInstance u i → is_exchanging (state_of u l q) ≡ true → Awaits u l q i ⊎ HasWord heard s l q i
  listed_both l q i brings holds up = by_part (Brings-cases a b i brings)
    where
      by_second : Brings b i → Awaits u l q i ⊎ HasWord heard s l q i
      by_second x = elim (next.listed l q i x holds up) [ inl awaits ↦ inl awaits | inr word ↦ inr (word_next l q i word) ]

      by_leave : WaitsOn heard t u l q i ⊎ MayLeave heard t b u l q i → Awaits u l q i ⊎ HasWord heard s l q i
      by_leave (inl waits) = inl waits.awaits
      by_leave (inr (MayLeave.Acknowledged h)) = inr (HasWord.Acknowledged h)
      by_leave (inr (MayLeave.Replaced r again)) = by_second (again holds)
      by_leave (inr (MayLeave.Fell fell)) = absurd (false≢true (sym fell ∙ up))

      by_mid : Awaits t l q i ⊎ HasWord heard s l q i → Awaits u l q i ⊎ HasWord heard s l q i
      by_mid (inl awaits) = by_leave (next.leaves l q i awaits)
      by_mid (inr word) = inr word

      by_holds : Brings a i → HoldsInstance t i ⊎ Brings b i → Awaits u l q i ⊎ HasWord heard s l q i
      by_holds x (inl there) = by_mid (first.listed l q i x there (none_enters l q up))
      by_holds x (inr now) = by_second now

      by_part : Brings a i ⊎ Brings b i → Awaits u l q i ⊎ HasWord heard s l q i
      by_part (inl x) = by_holds x (next.holds i holds)
      by_part (inr y) = by_second y

  not_ended : (key : LsaKey) → among a.ended key ≡ false
  not_ended key = ap (λ keys. among keys key) none_ended

  same_ended : (key : LsaKey) → among (a.ended ++ b.ended) key ≡ among b.ended key
  same_ended key = ap (λ keys. among (keys ++ b.ended) key) none_ended

  numbers_both : Numbers heard s (then_outputs a b) u
  numbers_both = record {
    own = λ lsa c. elim (Contains-append_cases a.issued b.issued lsa c) [ inl x ↦ first.numbers.own lsa x | inr y ↦ next.numbers.own lsa y ∙ first.same_router ];
    above = λ lsa c. above lsa (Contains-append_cases a.issued b.issued lsa c);
    rising = AllPairs-append _ a.issued b.issued first.numbers.rising next.numbers.rising across;
    kept = λ key goes_on. kept key (sym (same_ended key) ∙ goes_on);
    known = λ lsa c goes_on. known lsa (sym (same_ended (key_of lsa)) ∙ goes_on) (Contains-append_cases a.issued b.issued lsa c);
    again = λ key ends. next.numbers.again key (sym (same_ended key) ∙ ends);
    ends = λ key ends. let largest = next.numbers.ends key (sym (same_ended key) ∙ ends) in record { lsa = largest.lsa; has = has_next (contents largest.lsa) largest.has; number = largest.number };
  }
    where
      known_first : (lsa : List ℕ) → Contains a.issued lsa → (instance_of lsa).number ≤ℤ kept_number t (key_of lsa)
      known_first lsa c = first.numbers.known lsa c (not_ended (key_of lsa))

      above : (lsa : List ℕ) → Contains a.issued lsa ⊎ Contains b.issued lsa → kept_number s (key_of lsa) <ℤ (instance_of lsa).number
      above lsa (inl x) = first.numbers.above lsa x
      above lsa (inr y) =
          let more : kept_number s (key_of lsa) ≤ℤ kept_number t (key_of lsa) = first.numbers.kept (key_of lsa) (not_ended (key_of lsa)) in
          let over : kept_number t (key_of lsa) <ℤ (instance_of lsa).number = next.numbers.above lsa y in
          omega (arith, ints)

      across : (x y : List ℕ) → Contains a.issued x → Contains b.issued y → key_of x ≡ key_of y → (instance_of x).number <ℤ (instance_of y).number
      across x y cx cy same =
          let upto : (instance_of x).number ≤ℤ kept_number t (key_of y) = subst (λ key. (instance_of x).number ≤ℤ kept_number t key) same (known_first x cx) in
          let over : kept_number t (key_of y) <ℤ (instance_of y).number = next.numbers.above y cy in
          omega (arith, ints)

      kept : (key : LsaKey) → among b.ended key ≡ false → kept_number s key ≤ℤ kept_number u key
      kept key goes_on =
          let one : kept_number s key ≤ℤ kept_number t key = first.numbers.kept key (not_ended key) in
          let two : kept_number t key ≤ℤ kept_number u key = next.numbers.kept key goes_on in
          omega (arith, ints)

      known : (lsa : List ℕ) → among b.ended (key_of lsa) ≡ false → Contains a.issued lsa ⊎ Contains b.issued lsa → (instance_of lsa).number ≤ℤ kept_number u (key_of lsa)
      known lsa goes_on (inl x) =
          let one : (instance_of lsa).number ≤ℤ kept_number t (key_of lsa) = known_first lsa x in
          let two : kept_number t (key_of lsa) ≤ℤ kept_number u (key_of lsa) = next.numbers.kept (key_of lsa) goes_on in
          omega (arith, ints)
      known lsa goes_on (inr y) = next.numbers.known lsa y goes_on

  pub Accounts-then : Accounts heard s (then_outputs a b) u
  Accounts-then = record {
    same_router = next.same_router ∙ first.same_router;
    bears = λ p sends. elim (Sends-cases a b p sends) [ inl x ↦ first.bears p x | inr y ↦ next.bears p y ∙ first.same_router ];
    database = λ lsa c. has_next (contents lsa) (next.database lsa c);
    updates = λ p lsa sends c. elim (Sends-cases a b p sends) [ inl x ↦ has_first (contents lsa) (first.updates p lsa x c) | inr y ↦ has_next (contents lsa) (next.updates p lsa y c) ];
    names = λ i n. names_next i (next.names i n);
    named = λ p i sends c. elim (Sends-cases a b p sends) [ inl x ↦ names_first i (first.named p i x c) | inr y ↦ names_next i (next.named p i y c) ];
    holds = λ i h. holds_next i (next.holds i h);
    asks = λ l q i c. asks_next l q i (next.asks l q i c);
    leaves = leaves_both;
    listed = listed_both;
    numbers = numbers_both;
  }
