-- Captures of logs that go on.
use Rattle.std.proofs.Common.{Bool, ◌≡◌, ◌==◌, ◌<◌, ◌≤◌, ◌+◌, ◌++◌, ℕ, zero, suc, List, [], ◌∷◌, cond, drop, flat_map, length, map, take, get_or, refl, sym, ap, subst, ◌∙◌, arith}
use Rattle.std.specs.Prelude.{count_by, take_while}
use Rattle.std.specs.List.{AllByRecursion, enumerate_from}
use Rattle.std.proofs.lemmas.List.{append-nil, append_assoc, drop_all, drop_more, length-append, length-map, take-append-drop, take-append-le, take-map, take_all}
use Rattle.std.proofs.lemmas.List.Concat.{flat_map-append, flat_map-cons}
use Rattle.std.proofs.lemmas.List.FromFn.{get_or-enumerate_from, length-enumerate_from}
use Rattle.std.proofs.lemmas.List.Sums.{take_while-cons}
use Rattle.ospf_world.specs.declared.logs.Datagram.{Datagram}
use Rattle.ospf_views.specs.RecordFiles.Captures.{capture_of, captured_at, captured_of, is_by, is_tick_of, microsecond_of, numbered_datagrams, second_of, seconds, within_second}
use Rattle.ospf_views.specs.RecordFiles.Counts.{capped}
use Rattle.ospf_views.specs.RecordFiles.Pcap.{Captured, file_header, record_bytes}
use Rattle.ospf_views.specs.RecordFiles.Recorder.{AddsTo, CapturesGoOn, GoOn, IsRecorded, IsRecordedTo, records_since}
use Rattle.ospf_views.specs.declared.records.recorder.Recorder.{Recorder}
use Rattle.ospf_views.proofs.RecordFiles.CountFacts.{by_false}
use Rattle.ospf_world.specs.declared.ticks.Ticked.{Ticked}

-- what a datagram adds to a capture of these logs
abbrev pub records_of : List Ticked → List Datagram → ℕ × Datagram → List ℕ
records_of ticks datagrams sent = flat_map record_bytes (captured_of ticks datagrams sent)

-- ---- lists with numbers

same_map : {X Y : Type 0} (f g : ℕ × X → Y) (k : ℕ) (xs : List X) → ((i : ℕ) (x : X) → i < k + length xs → f (i, x) ≡ g (i, x)) → map f (enumerate_from k xs) ≡ map g (enumerate_from k xs)
same_map f g k [] same = refl
same_map f g k (x ∷ xs) same = λ i. same k x (omega arith) i ∷ same_map f g (k + 1) xs (λ j y below. same j y (omega (arith, below))) i

same_flat : {X Y : Type 0} (f g : ℕ × X → List Y) (k : ℕ) (xs : List X) → ((i : ℕ) (x : X) → i < k + length xs → f (i, x) ≡ g (i, x)) → flat_map f (enumerate_from k xs) ≡ flat_map g (enumerate_from k xs)
same_flat f g k [] same = refl
same_flat f g k (x ∷ xs) same =
    flat_map-cons f (k, x) (enumerate_from (k + 1) xs)
    ∙ (λ i. same k x (omega arith) i ++ same_flat f g (k + 1) xs (λ j y below. same j y (omega (arith, below))) i)
    ∙ sym (flat_map-cons g (k, x) (enumerate_from (k + 1) xs))

take_numbered : {X : Type 0} (k : ℕ) (xs ys : List X) → take (length xs) (enumerate_from k (xs ++ ys)) ≡ enumerate_from k xs
take_numbered k [] ys = refl
take_numbered k (x ∷ xs) ys = ap (λ (l : List (ℕ × _)). (k, x) ∷ l) (take_numbered (k + 1) xs ys)

take_within : {X : Type 0} (i n : ℕ) (xs : List X) → i ≤ n → take i xs ≡ take i (take n xs)
take_within zero n xs le = refl
take_within (suc i) zero xs le = absurd (omega (arith, le))
take_within (suc i) (suc n) [] le = refl
take_within (suc i) (suc n) (x ∷ xs) le = ap (λ (l : List _). x ∷ l) (take_within i n xs (omega (arith, le)))

-- ---- ticks that come behind

none_by : (i : ℕ) (more : List Ticked) → AllByRecursion (λ t. i < t.sent) more → take_while (is_by i) more ≡ []
none_by i [] behind = refl
none_by i (t ∷ more) behind = take_while-cons (is_by i) t more ∙ ap (λ (b : Bool). cond b (t ∷ take_while (is_by i) more) []) (by_false t i behind.0)

ticks_stay : (i : ℕ) (ticks more : List Ticked) → AllByRecursion (λ t. i < t.sent) more → take_while (is_by i) (ticks ++ more) ≡ take_while (is_by i) ticks
ticks_stay i [] more behind = none_by i more behind
ticks_stay i (t ∷ ticks) more behind =
    take_while-cons (is_by i) t (ticks ++ more) ∙ ap (λ (l : List Ticked). cond (is_by i t) (t ∷ l) []) (ticks_stay i ticks more behind) ∙ sym (take_while-cons (is_by i) t ticks)

behind_all : (i n : ℕ) (more : List Ticked) → i < n → AllByRecursion (λ t. n ≤ t.sent) more → AllByRecursion (λ t. i < t.sent) more
behind_all i n [] below behind = tt
behind_all i n (t ∷ more) below behind = (let le = behind.0 in omega (arith, below, le), behind_all i n more below behind.1)

-- ---- what was recorded stays

module _ (ticks more : List Ticked) (datagrams sent : List Datagram) (behind : AllByRecursion (λ t. length datagrams ≤ t.sent) more) where
  second_stays : (i : ℕ) (g : Datagram) → i < length datagrams → second_of (ticks ++ more) (i, g) ≡ second_of ticks (i, g)
  unfolding second_of
  second_stays i g below = ap (λ (ts : List Ticked). capped (count_by (is_tick_of g.router.0) ts)) (ticks_stay i ticks more (behind_all i (length datagrams) more below behind))

  pub seconds_stay : take (length datagrams) (seconds (ticks ++ more) (datagrams ++ sent)) ≡ seconds ticks datagrams
  seconds_stay =
      take-map (second_of (ticks ++ more)) (length datagrams) (numbered_datagrams (datagrams ++ sent))
      ∙ ap (map (second_of (ticks ++ more))) (take_numbered 0 datagrams sent)
      ∙ same_map (second_of (ticks ++ more)) (second_of ticks) 0 datagrams (λ i g below. second_stays i g (omega (arith, below)))

  seconds_before : (i : ℕ) → i < length datagrams → take i (seconds (ticks ++ more) (datagrams ++ sent)) ≡ take i (seconds ticks datagrams)
  seconds_before i below = take_within i (length datagrams) (seconds (ticks ++ more) (datagrams ++ sent)) (omega (arith, below)) ∙ ap (take i) seconds_stay

  microsecond_stays : (i : ℕ) (g : Datagram) → i < length datagrams → microsecond_of (ticks ++ more) (datagrams ++ sent) (i, g) ≡ microsecond_of ticks datagrams (i, g)
  unfolding microsecond_of
  microsecond_stays i g below = λ j. within_second (count_by (λ s. s == second_stays i g below j) (seconds_before i below j))

  captured_stays : (i : ℕ) (g : Datagram) → i < length datagrams → captured_of (ticks ++ more) (datagrams ++ sent) (i, g) ≡ captured_of ticks datagrams (i, g)
  captured_stays i g below = λ j. captured_at (second_stays i g below j) (microsecond_stays i g below j) g

  all_captured_stay : flat_map (captured_of (ticks ++ more) (datagrams ++ sent)) (take (length datagrams) (numbered_datagrams (datagrams ++ sent))) ≡ flat_map (captured_of ticks datagrams) (numbered_datagrams datagrams)
  all_captured_stay =
      ap (flat_map (captured_of (ticks ++ more) (datagrams ++ sent))) (take_numbered 0 datagrams sent)
      ∙ same_flat (captured_of (ticks ++ more) (datagrams ++ sent)) (captured_of ticks datagrams) 0 datagrams (λ i g below. captured_stays i g (omega (arith, below)))

  pub goes_on : capture_of (ticks ++ more) (datagrams ++ sent) ≡ capture_of ticks datagrams ++ records_since (length datagrams) (ticks ++ more) (datagrams ++ sent)
  goes_on =
      let all = numbered_datagrams (datagrams ++ sent) in
      let c = captured_of (ticks ++ more) (datagrams ++ sent) in
      let n = length datagrams in
      ap (λ (cs : List Captured). file_header ++ flat_map record_bytes cs)
      (ap (flat_map c) (sym (take-append-drop n all)) ∙ flat_map-append c (take n all) (drop n all) ∙ ap (λ (cs : List Captured). cs ++ flat_map c (drop n all)) all_captured_stay)
      ∙ ap (λ (bs : List ℕ). file_header ++ bs) (flat_map-append record_bytes (flat_map (captured_of ticks datagrams) (numbered_datagrams datagrams)) (flat_map c (drop n all)))
      ∙ sym (append_assoc file_header (flat_map record_bytes (flat_map (captured_of ticks datagrams) (numbered_datagrams datagrams))) (flat_map record_bytes (flat_map c (drop n all))))

  pub recorded_still : (r : Recorder) → IsRecorded ticks datagrams r → IsRecordedTo (ticks ++ more) (datagrams ++ sent) r
  recorded_still r is = record {
    within = let h = length-append datagrams sent in let w = is.to.within in omega (arith, h, w);
    clocks = record {
      within = let h = length-append ticks more in let w = is.to.clocks.within in omega (arith, h, w);
      came = subst (AllByRecursion (λ t. t.sent ≤ r.datagrams)) (sym (take-append-le r.ticks ticks more is.to.clocks.within)) is.to.clocks.came;
      counts = λ q. is.to.clocks.counts q ∙ ap (λ (ts : List Ticked). capped (count_by (is_tick_of q) ts)) (sym (take-append-le r.ticks ticks more is.to.clocks.within));
    };
    stamped = λ k. is.to.stamped k ∙ ap (λ (ss : List ℕ). capped (count_by (λ s. s == k) ss)) whole;
  }
    where
      short : length (seconds ticks datagrams) ≡ length datagrams
      short = length-map (numbered_datagrams datagrams) (second_of ticks) ∙ length-enumerate_from 0 datagrams

      whole : take r.datagrams (seconds ticks datagrams) ≡ take r.datagrams (seconds (ticks ++ more) (datagrams ++ sent))
      whole =
          take_all r.datagrams (seconds ticks datagrams) (let h = short in let a = is.all in omega (arith, h, a))
          ∙ sym seconds_stay ∙ ap (λ (n : ℕ). take n (seconds (ticks ++ more) (datagrams ++ sent))) (sym is.all)

pub recorded_on : (ticks ticks' : List Ticked) (datagrams datagrams' : List Datagram) (r : Recorder) → GoOn ticks datagrams ticks' datagrams' → IsRecorded ticks datagrams r → IsRecordedTo ticks' datagrams' r
recorded_on ticks ticks' datagrams datagrams' r on is =
    subst (λ (ts : List Ticked). IsRecordedTo ts datagrams' r) (sym on.ticks_are)
    (subst (λ (ds : List Datagram). IsRecordedTo (ticks ++ on.more) ds r) (sym on.datagrams_are) (recorded_still ticks on.more datagrams on.sent on.behind r is))

pub captures_on : CapturesGoOn
captures_on ticks ticks' datagrams datagrams' on =
    subst (λ (ts : List Ticked). capture_of ts datagrams' ≡ capture_of ticks datagrams ++ records_since (length datagrams) ts datagrams') (sym on.ticks_are)
    (subst (λ (ds : List Datagram). capture_of (ticks ++ on.more) ds ≡ capture_of ticks datagrams ++ records_since (length datagrams) (ticks ++ on.more) ds) (sym on.datagrams_are)
    (goes_on ticks on.more datagrams on.sent on.behind))

-- ---- what is still to be added

pub since_more : (ticks : List Ticked) (datagrams : List Datagram) (n : ℕ) (g : Datagram) → n < length datagrams → g ≡ get_or datagrams n g →
    records_since n ticks datagrams ≡ records_of ticks datagrams (n, g) ++ records_since (n + 1) ticks datagrams
since_more ticks datagrams n g within is =
    let all = numbered_datagrams datagrams in
    let c = captured_of ticks datagrams in
    let there : n < length all = (let h = length-enumerate_from 0 datagrams in omega (arith, h, within)) in
    let at : get_or all n (n, g) ≡ (n, g) = get_or-enumerate_from 0 datagrams n (n, g) within ∙ (let zero_more : 0 + n ≡ n = omega arith in λ i. (zero_more i, sym is i)) in
    ap (λ (l : List (ℕ × Datagram)). flat_map record_bytes (flat_map c l)) (drop_more all n (n, g) there ∙ ap (λ (x : ℕ × Datagram). x ∷ drop (n + 1) all) at)
    ∙ ap (flat_map record_bytes) (flat_map-cons c (n, g) (drop (n + 1) all))
    ∙ flat_map-append record_bytes (c (n, g)) (flat_map c (drop (n + 1) all))

pub since_none : (ticks : List Ticked) (datagrams : List Datagram) (n : ℕ) → length datagrams ≤ n → records_since n ticks datagrams ≡ []
since_none ticks datagrams n all =
    ap (λ (l : List (ℕ × Datagram)). flat_map record_bytes (flat_map (captured_of ticks datagrams) l)) (drop_all n (numbered_datagrams datagrams) (let h = length-enumerate_from 0 datagrams in omega (arith, h, all)))

-- what was added is all of it
pub added_all : (ticks : List Ticked) (datagrams : List Datagram) (ticks' : List Ticked) (datagrams' : List Datagram) (before : Recorder) (out : List ℕ) (after : Recorder) (out' : List ℕ) →
    IsRecorded ticks datagrams before → AddsTo (length datagrams') ticks' datagrams' before out after out' →
    out' ≡ out ++ records_since (length datagrams) ticks' datagrams'
added_all ticks datagrams ticks' datagrams' before out after out' is adds =
    sym (append-nil out') ∙ ap (λ (bs : List ℕ). out' ++ bs) (sym (since_none ticks' datagrams' (length datagrams') (omega arith)))
    ∙ adds.sent ∙ ap (λ (n : ℕ). out ++ records_since n ticks' datagrams') is.all
