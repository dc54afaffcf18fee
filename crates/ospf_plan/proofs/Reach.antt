-- What passes over joins reach.
use Rattle.std.proofs.Common.{rules, ◌≡◌, ◌==◌, nat_lt, ◌||◌, ◌&&◌, ◌⊎◌, ◌<◌, ◌≤◌, ◌+◌, ℕ, Bool, true, false, List, [], ◌∷◌, ◌++◌, ◌∙◌, append-nil, append_assoc, ap, sym, subst, refl, inl, inr, arith, length, if◌then◌else◌}
use Rattle.std.specs.List.{Contains}
use Rattle.ospf_plan.specs.declared.joins.Join.{Join}
use Rattle.ospf_plan.proofs.Members.{head_in, in_cases, later_in, none_in_nil}
use Rattle.ospf_plan.specs.Joins.{IsJoined, reached_after, back, forth, itself, left, marked_by, touches}

-- (a) what is reached stays so
kept : (s : ℕ → Bool) (j : Join) (q : ℕ) → s q ≡ true → marked_by s j q ≡ true
kept s j q h = rw h refl

pub stays : (s : ℕ → Bool) (js : List Join) (q : ℕ) → s q ≡ true → reached_after s js q ≡ true
stays s [] q h = h
stays s (j ∷ js) q h = stays (marked_by s j) js q (kept s j q h)

-- (b) what is reached is joined
abbrev pub AreJoined : List Join → ℕ → (ℕ → Bool) → Type 0
AreJoined all r s = (q : ℕ) → s q ≡ true → IsJoined all r q

abbrev pub AreAmong : List Join → List Join → Type 0
AreAmong all js = (j : Join) → Contains js j → Contains all j

or_cases : (a b : Bool) → (a || b) ≡ true → (a ≡ true) ⊎ (b ≡ true)
or_cases true b h = inl refl
or_cases false b h = inr h

and_cases : (a b : Bool) → (a && b) ≡ true → (a ≡ true) × (b ≡ true)
and_cases true b h = (refl, h)
and_cases false b h = absurd (let no : false ≡ true = h in search rules)

same : (n m : ℕ) → (n == m) ≡ true → n ≡ m
same n m h = grind (arith, h)

both_joined : (all : List Join) (r : ℕ) (s : ℕ → Bool) (j : Join) → Contains all j → AreJoined all r s → touches s j ≡ true → IsJoined all r j.one × IsJoined all r j.other
both_joined all r s j at h t = elim (or_cases (s j.one) (s j.other) t)
    [ inl a ↦ (h j.one a, forth j at (h j.one a)) | inr b ↦ (back j at (h j.other b), h j.other b) ]

mark_joined : (all : List Join) (r : ℕ) (s : ℕ → Bool) (j : Join) → Contains all j → AreJoined all r s → AreJoined all r (marked_by s j)
mark_joined all r s j at h q m = elim (or_cases (s q) (touches s j && ((j.one == q) || (j.other == q))) m) [
  | inl old ↦ h q old
  | inr new ↦ (let (t, e) = and_cases (touches s j) ((j.one == q) || (j.other == q)) new in
      let (a, b) = both_joined all r s j at h t in
      elim (or_cases (j.one == q) (j.other == q) e) [ inl x ↦ subst (IsJoined all r) (same j.one q x) a | inr y ↦ subst (IsJoined all r) (same j.other q y) b ])
]

pub all_joined : (all : List Join) (r : ℕ) (s : ℕ → Bool) (js : List Join) → AreAmong all js → AreJoined all r s → AreJoined all r (reached_after s js)
all_joined all r s [] among h = h
all_joined all r s (j ∷ js) among h =
    all_joined all r (marked_by s j) js (λ i at. among i (later_in j js i at)) (mark_joined all r s j (among j (head_in j js)) h)

-- (c) each join has both ends reached, or is left
itself_is : (n : ℕ) → (n == n) ≡ true
itself_is n = grind arith

or_true : (a : Bool) → (a || true) ≡ true
or_true true = refl
or_true false = refl

one_marked : (s : ℕ → Bool) (j : Join) → touches s j ≡ true → marked_by s j j.one ≡ true
one_marked s j t = rw (t, itself_is j.one) (or_true (s j.one))

other_marked : (s : ℕ → Bool) (j : Join) → touches s j ≡ true → marked_by s j j.other ≡ true
other_marked s j t = rw (t, itself_is j.other, or_true (j.one == j.other)) (or_true (s j.other))

abbrev pub IsDone : (ℕ → Bool) → Join → Type 0
IsDone s j = (s j.one ≡ true) × (s j.other ≡ true)

left_later : (b : Bool) (j i : Join) (js : List Join) → Contains js i → Contains (if b then js else j ∷ js) i
left_later true j i js h = h
left_later false j i js h = later_in j js i h

here_done : (s : ℕ → Bool) (j : Join) (js : List Join) (b : Bool) → touches s j ≡ b → IsDone (reached_after (marked_by s j) js) j ⊎ Contains (if b then left (marked_by s j) js else j ∷ left (marked_by s j) js) j
here_done s j js true t = inl (stays (marked_by s j) js j.one (one_marked s j t), stays (marked_by s j) js j.other (other_marked s j t))
here_done s j js false t = inr (head_in j (left (marked_by s j) js))

pub done_or_left : (s : ℕ → Bool) (js : List Join) (i : Join) → Contains js i → IsDone (reached_after s js) i ⊎ Contains (left s js) i
done_or_left s [] i at = absurd (none_in_nil i at)
done_or_left s (j ∷ js) i at = elim (in_cases j js i at) [
  | inl is ↦ subst (λ k. IsDone (reached_after s (j ∷ js)) k ⊎ Contains (left s (j ∷ js)) k) is (here_done s j js (touches s j) refl)
  | inr later ↦ elim (done_or_left (marked_by s j) js i later) [ inl d ↦ inl d | inr l ↦ inr (left_later (touches s j) j i (left (marked_by s j) js) l) ]
]

-- (d) no more are left
shorter_by : (b : Bool) (j : Join) (js : List Join) (n : ℕ) → length js ≤ n → length (if b then js else j ∷ js) ≤ n + 1
shorter_by true j js n h = omega (arith, h)
shorter_by false j js n h = omega (arith, h)

pub no_longer : (s : ℕ → Bool) (js : List Join) → length (left s js) ≤ length js
no_longer s [] = omega arith
no_longer s (j ∷ js) = let h = shorter_by (touches s j) j (left (marked_by s j) js) (length js) (no_longer (marked_by s j) js) in omega (arith, h)

-- ---- one join more

marked_same : (s t : ℕ → Bool) (j : Join) → ((q : ℕ) → s q ≡ t q) → (p : ℕ) → marked_by s j p ≡ marked_by t j p
marked_same s t j h p =
    ap (λ b. b || (touches s j && ((j.one == p) || (j.other == p)))) (h p)
    ∙ ap (λ b. t p || ((b || s j.other) && ((j.one == p) || (j.other == p)))) (h j.one)
    ∙ ap (λ b. t p || ((t j.one || b) && ((j.one == p) || (j.other == p)))) (h j.other)

pub after_same : (s t : ℕ → Bool) (js : List Join) (q : ℕ) → ((p : ℕ) → s p ≡ t p) → reached_after s js q ≡ reached_after t js q
after_same s t [] q h = h q
after_same s t (j ∷ js) q h = after_same (marked_by s j) (marked_by t j) js q (marked_same s t j h)

pub left_same : (s t : ℕ → Bool) (js : List Join) → ((p : ℕ) → s p ≡ t p) → left s js ≡ left t js
left_same s t [] h = refl
left_same s t (j ∷ js) h =
    ap (λ b. if b || s j.other then left (marked_by s j) js else j ∷ left (marked_by s j) js) (h j.one)
    ∙ ap (λ b. if t j.one || b then left (marked_by s j) js else j ∷ left (marked_by s j) js) (h j.other)
    ∙ ap (λ ks. if touches t j then ks else j ∷ ks) (left_same (marked_by s j) (marked_by t j) js (marked_same s t j h))

split_by : (b : Bool) (j : Join) (ks xs : List Join) → xs ++ (if b then ks else j ∷ ks) ≡ (xs ++ (if b then [] else j ∷ [])) ++ ks
split_by true j ks xs = ap (λ ys. ys ++ ks) (sym (append-nil xs))
split_by false j ks xs = sym (append_assoc xs (j ∷ []) ks)

pub left_split : (s : ℕ → Bool) (j : Join) (js : List Join) (xs : List Join) → xs ++ left s (j ∷ js) ≡ (xs ++ (if touches s j then [] else j ∷ [])) ++ left (marked_by s j) js
left_split s j js xs = split_by (touches s j) j (left (marked_by s j) js) xs

-- ---- a pass that reaches nothing

touched_is : (b : Bool) → (b ≡ true) ⊎ (b ≡ false)
touched_is true = inl refl
touched_is false = inr refl

or_false : (a : Bool) → (a || false) ≡ a
or_false true = refl
or_false false = refl

unmarked : (s : ℕ → Bool) (j : Join) (q : ℕ) → touches s j ≡ false → marked_by s j q ≡ s q
unmarked s j q t = ap (λ b. s q || (b && ((j.one == q) || (j.other == q)))) t ∙ or_false (s q)

all_left : (s : ℕ → Bool) (j : Join) (js : List Join) → length (j ∷ js) ≤ length (left s (j ∷ js)) → (touches s j ≡ false) × (length js ≤ length (left (marked_by s j) js))
all_left s j js h = elim (touched_is (touches s j)) [
  | inl t ↦ absurd (let most = no_longer (marked_by s j) js in
      let h' : length (j ∷ js) ≤ length (left (marked_by s j) js) = subst (λ b. length (j ∷ js) ≤ length (if b then left (marked_by s j) js else j ∷ left (marked_by s j) js)) t h in
      omega (arith, most, h'))
  | inr t ↦ (t, (let h' : length (j ∷ js) ≤ length (j ∷ left (marked_by s j) js) = subst (λ b. length (j ∷ js) ≤ length (if b then left (marked_by s j) js else j ∷ left (marked_by s j) js)) t h in omega (arith, h')))
]

pub still : (s : ℕ → Bool) (js : List Join) → length js ≤ length (left s js) → (q : ℕ) → reached_after s js q ≡ s q
still s [] h q = refl
still s (j ∷ js) h q = let (t, more) = all_left s j js h in still (marked_by s j) js more q ∙ unmarked s j q t

pub untouched : (s : ℕ → Bool) (js : List Join) → length js ≤ length (left s js) → (i : Join) → Contains js i → touches s i ≡ false
untouched s [] h i at = absurd (none_in_nil i at)
untouched s (j ∷ js) h i at =
    let (t, more) = all_left s j js h in
    elim (in_cases j js i at) [
      | inl is ↦ subst (λ k. touches s k ≡ false) is t
      | inr later ↦ ap (λ b. b || s i.other) (sym (unmarked s j i.one t)) ∙ ap (λ b. marked_by s j i.one || b) (sym (unmarked s j i.other t)) ∙ untouched (marked_by s j) js more i later
    ]

left_from : (b : Bool) (j i : Join) (ks js : List Join) → (Contains ks i → Contains js i) → Contains (if b then ks else j ∷ ks) i → Contains (j ∷ js) i
left_from true j i ks js sub h = later_in j js i (sub h)
left_from false j i ks js sub h = elim (in_cases j ks i h) [ inl is ↦ subst (λ k. Contains (j ∷ js) k) is (head_in j js) | inr later ↦ later_in j js i (sub later) ]

pub left_among : (s : ℕ → Bool) (js : List Join) (i : Join) → Contains (left s js) i → Contains js i
left_among s [] i h = h
left_among s (j ∷ js) i h = left_from (touches s j) j i (left (marked_by s j) js) js (left_among (marked_by s j) js i) h

-- ---- all passes

-- how far the passes over all joins have come: what is reached, and what is left of the joins
pub record IsSoFar (all : List Join) (r : ℕ) (s : ℕ → Bool) (js : List Join) : Type 0 where
  pub joined : AreJoined all r s
  pub among : AreAmong all js
  pub root : s r ≡ true
  pub done : (i : Join) → Contains all i → IsDone s i ⊎ Contains js i

pub first_so_far : (all : List Join) (r : ℕ) (s : ℕ → Bool) → ((q : ℕ) → s q ≡ (r == q)) → IsSoFar all r s all
first_so_far all r s only = record {
  joined = λ q h. subst (IsJoined all r) (same r q (sym (only q) ∙ h)) itself;
  among = λ i at. at;
  root = only r ∙ itself_is r;
  done = λ i at. inr at;
}

pub next_so_far : (all : List Join) (r : ℕ) (s t : ℕ → Bool) (js ks : List Join) → ((q : ℕ) → t q ≡ reached_after s js q) → ks ≡ left s js → IsSoFar all r s js → IsSoFar all r t ks
next_so_far all r s t js ks reached rest far = record {
  joined = λ q h. all_joined all r s js far.among far.joined q (sym (reached q) ∙ h);
  among = λ i at. far.among i (left_among s js i (subst (λ xs. Contains xs i) rest at));
  root = reached r ∙ stays s js r far.root;
  done = λ i at. elim (far.done i at) [
    | inl d ↦ inl (reached i.one ∙ stays s js i.one d.0, reached i.other ∙ stays s js i.other d.1)
    | inr l ↦ elim (done_or_left s js i l)
        [ inl d ↦ inl (reached i.one ∙ d.0, reached i.other ∙ d.1) | inr m ↦ inr (subst (λ xs. Contains xs i) (sym rest) m) ]
  ];
}

-- no join that is left has an end that is reached
abbrev pub IsClosed : (ℕ → Bool) → List Join → Type 0
IsClosed s js = (i : Join) → Contains js i → touches s i ≡ false

pub closes : (s t : ℕ → Bool) (js ks : List Join) → ((q : ℕ) → t q ≡ reached_after s js q) → ks ≡ left s js → length js ≤ length ks → IsClosed t ks
closes s t js ks reached rest all i at =
    let many : length js ≤ length (left s js) = subst (λ xs. length js ≤ length xs) rest all in
    let same_q : (q : ℕ) → t q ≡ s q = λ q. reached q ∙ still s js many q in
    ap (λ b. b || t i.other) (same_q i.one) ∙ ap (λ b. s i.one || b) (same_q i.other)
    ∙ untouched s js many i (left_among s js i (subst (λ xs. Contains xs i) rest at))

no_both : (a b : Bool) → (a || b) ≡ false → (a ≡ true → ⊥) × (b ≡ true → ⊥)
no_both true b h = absurd (let no : true ≡ false = h in search rules)
no_both false b h = ((λ e. let no : false ≡ true = e in search rules), (λ e. let no : true ≡ false = sym e ∙ h in search rules))

pub all_reached : (all : List Join) (r : ℕ) (s : ℕ → Bool) (js : List Join) → IsSoFar all r s js → IsClosed s js → (q : ℕ) → IsJoined all r q → s q ≡ true
all_reached all r s js far closed _ itself = far.root
all_reached all r s js far closed _ (forth j at w) = elim (far.done j at)
    [ inl d ↦ d.1 | inr l ↦ absurd ((no_both (s j.one) (s j.other) (closed j l)).0 (all_reached all r s js far closed j.one w)) ]
all_reached all r s js far closed _ (back j at w) = elim (far.done j at)
    [ inl d ↦ d.0 | inr l ↦ absurd ((no_both (s j.one) (s j.other) (closed j l)).1 (all_reached all r s js far closed j.other w)) ]

pub less_or_not : (n m : ℕ) → (n < m) ⊎ (m ≤ n)
less_or_not n m = elim (touched_is (nat_lt n m)) [ inl t ↦ inl (grind (arith, t)) | inr t ↦ inr (grind (arith, t)) ]
