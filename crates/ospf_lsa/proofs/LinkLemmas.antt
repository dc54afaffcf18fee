-- Links that are read are the links that were written, and the other way round.
use Rattle.std.proofs.Common.{◌≡◌, ℕ, zero, suc, ◌+◌, ◌*◌, ◌-◌, ◌<◌, ◌≤◌, List, [], ◌∷◌, ◌++◌, length, map, get_or, take, drop, refl, sym, ap, subst, ◌∙◌, arith, inl, inr}
use Rattle.std.specs.Prelude.{◌↔◌}
use Rattle.std.specs.List.{flat_map, AllByRecursion}
use Rattle.std.proofs.lemmas.List.{take_at, drop_at, drop-drop, take-append-drop, length-append, length-take, length-drop, get_or-drop, get_or-take, get_or_past}
use Rattle.std.proofs.lemmas.List.Concat.{flat_map-cons}
use Rattle.std.proofs.lemmas.Bool.{cases_lt}
use Rattle.ospf_base.specs.Bytes.{number_at, AreBytes}
use Rattle.ospf_base.proofs.Numbers.{four_bytes, two_bytes}
use Rattle.ospf_lsa.specs.declared.link.Link.{Link}
use Rattle.ospf_lsa.specs.declared.link.LinkKind.{LinkKind}
use Rattle.ospf_lsa.specs.declared.link.LinkKind.TheVariants.{PointToPoint, Transit, Stub, Virtual}
use Rattle.ospf_lsa.specs.Link.{kind_byte, LinkEntry, entry_bytes, EntryFits, AreLinks, IsLink, IsFirstLink, link_kind, link_at, entry_at, link_length, entries_in, links_in}

pub AreBytes-drop : (n : ℕ) (bytes : List ℕ) → AreBytes bytes → AreBytes (drop n bytes)
AreBytes-drop n bytes h i = rw get_or-drop (h (n + i))

pub AreBytes-take : (n : ℕ) (bytes : List ℕ) → AreBytes bytes → AreBytes (take n bytes)
AreBytes-take n bytes h i =
    elim (cases_lt i n) [
      | inl lt ↦ rw (get_or-take n bytes i 0 lt) (h i)
      | inr le ↦ rw (get_or_past (take n bytes) i 0 (omega (arith, length-take n bytes))) (omega arith)
    ]

-- a link's type, read and written
pub kind_back : (k : LinkKind) → link_kind (kind_byte k) ≡ k
kind_back PointToPoint = refl
kind_back Transit = refl
kind_back Stub = refl
kind_back Virtual = refl

pub kind_again : (n : ℕ) → 1 ≤ n → n ≤ 4 → kind_byte (link_kind n) ≡ n
kind_again zero low high = absurd (omega arith)
kind_again (suc zero) low high = refl
kind_again (suc (suc zero)) low high = refl
kind_again (suc (suc (suc zero))) low high = refl
kind_again (suc (suc (suc (suc n)))) low high = omega arith

-- a link that was written is read
pub link_back : (e : LinkEntry) (rest : List ℕ) → EntryFits e → link_at (entry_bytes e ++ rest) ≡ e.link
link_back e rest fits =
    let i = fits.link.id in
    let d = fits.link.link_data in
    let m = fits.link.metric in
    let id : number_at 0 4 (entry_bytes e ++ rest) ≡ e.link.id = omega arith in
    let dat : number_at 4 4 (entry_bytes e ++ rest) ≡ e.link.link_data = omega arith in
    let metric : number_at 10 2 (entry_bytes e ++ rest) ≡ e.link.metric = omega arith in
    let kind : link_kind (kind_byte e.link.kind) ≡ e.link.kind = kind_back e.link.kind in
    rw (id, dat, metric, kind) refl

pub rest_back : (e : LinkEntry) (rest : List ℕ) → EntryFits e → drop (link_length (entry_bytes e ++ rest)) (entry_bytes e ++ rest) ≡ rest
rest_back e rest fits = drop_at (entry_bytes e) rest (12 + 4 * e.tos_count) (omega (arith, fits.tos_length))

pub cons_same : {A : Type 0} (a b : A) (xs ys : List A) → a ≡ b → xs ≡ ys → a ∷ xs ≡ b ∷ ys
cons_same a b xs ys p q = cc

made_entry : Link → ℕ → List ℕ → LinkEntry
made_entry l n t = record { link = l; tos_count = n; tos = t }

made_entry-same : (l l' : Link) (n n' : ℕ) (t t' : List ℕ) → l ≡ l' → n ≡ n' → t ≡ t' → made_entry l n t ≡ made_entry l' n' t'
made_entry-same l l' n n' t t' p q r = cc

entry_eq : (l l' : Link) (n n' : ℕ) (t t' : List ℕ) → l ≡ l' → n ≡ n' → t ≡ t' → ◌≡◌ {A = LinkEntry} (record { link = l; tos_count = n; tos = t }) (record { link = l'; tos_count = n'; tos = t' })
unfolding made_entry
entry_eq l l' n n' t t' p q r = made_entry-same l l' n n' t t' p q r

-- an entry that was written is read
pub entry_back : (e : LinkEntry) (rest : List ℕ) → EntryFits e → entry_at (entry_bytes e ++ rest) ≡ e
entry_back e rest fits =
    entry_eq (link_at (entry_bytes e ++ rest)) e.link e.tos_count e.tos_count (take (4 * e.tos_count) (e.tos ++ rest)) e.tos
    (link_back e rest fits) refl (take_at e.tos rest (4 * e.tos_count) fits.tos_length)

pub entries_back : (es : List LinkEntry) → AllByRecursion EntryFits es → entries_in (length es) (flat_map entry_bytes es) ≡ es
entries_back [] fits = refl
entries_back (e ∷ es) fits =
    let here = entry_back e (flat_map entry_bytes es) fits.0 in
    let there = ap (entries_in (length es)) (rest_back e (flat_map entry_bytes es) fits.0) ∙ entries_back es fits.1 in
    cons_same _ _ _ _ here there

-- so many links that were written are read
pub links_back : (es : List LinkEntry) → AllByRecursion EntryFits es → links_in (length es) (flat_map entry_bytes es) ≡ map (λ (e : LinkEntry). e.link) es
links_back es fits = ap (map (λ (e : LinkEntry). e.link)) (entries_back es fits)

-- ---- bytes that are links

-- bytes with at least four in front
pub four_front : (bytes : List ℕ) → 4 ≤ length bytes → (a : ℕ) × (b : ℕ) × (c : ℕ) × (d : ℕ) × (rest : List ℕ) × (bytes ≡ a ∷ b ∷ c ∷ d ∷ rest)
four_front [] h = absurd (omega arith)
four_front (a ∷ []) h = absurd (omega arith)
four_front (a ∷ b ∷ []) h = absurd (omega arith)
four_front (a ∷ b ∷ c ∷ []) h = absurd (omega arith)
four_front (a ∷ b ∷ c ∷ d ∷ rest) h = (a, b, c, d, rest, refl)

-- a link that is read is written as it stood
twelve : (a b c d e f g h i j k l : ℕ) (rest : List ℕ) → AreBytes (a ∷ b ∷ c ∷ d ∷ e ∷ f ∷ g ∷ h ∷ i ∷ j ∷ k ∷ l ∷ rest)
    → IsLink (a ∷ b ∷ c ∷ d ∷ e ∷ f ∷ g ∷ h ∷ i ∷ j ∷ k ∷ l ∷ rest)
    → entry_bytes (entry_at (a ∷ b ∷ c ∷ d ∷ e ∷ f ∷ g ∷ h ∷ i ∷ j ∷ k ∷ l ∷ rest)) ++ drop (4 * j) rest ≡ a ∷ b ∷ c ∷ d ∷ e ∷ f ∷ g ∷ h ∷ i ∷ j ∷ k ∷ l ∷ rest
twelve a b c d e f g h i j k l rest fits is =
    let id = four_bytes a b c d (e ∷ f ∷ g ∷ h ∷ i ∷ j ∷ k ∷ l ∷ rest) (fits 0) (fits 1) (fits 2) (fits 3) in
    let dat = four_bytes e f g h (i ∷ j ∷ k ∷ l ∷ rest) (fits 4) (fits 5) (fits 6) (fits 7) in
    let metric = two_bytes k l rest (fits 10) (fits 11) in
    let kind = kind_again i is.kind_low is.kind_high in
    let tail = take-append-drop (4 * j) rest in
    cc

-- a link that is read is written as it stood
pub written_again : (bytes : List ℕ) → AreBytes bytes → IsLink bytes → entry_bytes (entry_at bytes) ++ drop (link_length bytes) bytes ≡ bytes
written_again bytes fits is =
    let p = four_front bytes (omega (arith, is.whole)) in
    let rest = p.4 in
    let l1 : length bytes ≡ 4 + length rest = omega (arith, ap length p.5) in
    let q = four_front rest (omega (arith, is.whole)) in
    let l2 : length rest ≡ 4 + length q.4 = omega (arith, ap length q.5) in
    let r = four_front q.4 (omega (arith, is.whole)) in
    let whole : bytes ≡ p.0 ∷ p.1 ∷ p.2 ∷ p.3 ∷ q.0 ∷ q.1 ∷ q.2 ∷ q.3 ∷ r.0 ∷ r.1 ∷ r.2 ∷ r.3 ∷ r.4 = p.5 ∙ ap (λ (t : List ℕ). p.0 ∷ p.1 ∷ p.2 ∷ p.3 ∷ t) (q.5 ∙ ap (λ (t : List ℕ). q.0 ∷ q.1 ∷ q.2 ∷ q.3 ∷ t) r.5) in
    subst (λ (b : List ℕ). AreBytes b → IsLink b → entry_bytes (entry_at b) ++ drop (link_length b) b ≡ b) (sym whole)
    (λ f i. ap (λ (t : List ℕ). entry_bytes (entry_at (p.0 ∷ p.1 ∷ p.2 ∷ p.3 ∷ q.0 ∷ q.1 ∷ q.2 ∷ q.3 ∷ r.0 ∷ r.1 ∷ r.2 ∷ r.3 ∷ r.4)) ++ t)
    (sym (drop-drop (4 * r.1) 12 (p.0 ∷ p.1 ∷ p.2 ∷ p.3 ∷ q.0 ∷ q.1 ∷ q.2 ∷ q.3 ∷ r.0 ∷ r.1 ∷ r.2 ∷ r.3 ∷ r.4)))
    ∙ twelve p.0 p.1 p.2 p.3 q.0 q.1 q.2 q.3 r.0 r.1 r.2 r.3 r.4 f i) fits is

pub entry_fits : (bytes : List ℕ) → AreBytes bytes → IsLink bytes → EntryFits (entry_at bytes)
entry_fits bytes fits is =
    let b0 = fits 0 in let b1 = fits 1 in let b2 = fits 2 in let b3 = fits 3 in let b4 = fits 4 in let b5 = fits 5 in
    let b6 = fits 6 in let b7 = fits 7 in let b9 = fits 9 in let b10 = fits 10 in let b11 = fits 11 in
    let t = is.tos in
    record {
      link = record { id = omega arith; link_data = omega arith; metric = omega arith };
      count = b9;
      tos_length = omega (arith, length-take (4 * get_or bytes 9 0) (drop 12 bytes), length-drop 12 bytes);
      tos_bytes = AreBytes-take (4 * get_or bytes 9 0) (drop 12 bytes) (AreBytes-drop 12 bytes fits);
    }

-- ---- one link more

pub AreLinks-cons : (n : ℕ) (bytes : List ℕ) → AreBytes bytes → IsLink bytes → AreLinks n (drop (link_length bytes) bytes) → AreLinks (suc n) bytes
AreLinks-cons n bytes fits is are = record {
  entries = entry_at bytes ∷ are.entries;
  counted = ap suc are.counted;
  fit = (entry_fits bytes fits is, are.fit);
  spelled = sym (written_again bytes fits is) ∙ ap (λ (t : List ℕ). entry_bytes (entry_at bytes) ++ t) are.spelled ∙ sym (flat_map-cons entry_bytes (entry_at bytes) are.entries);
}

-- links that begin bytes
from_entry : (e : LinkEntry) (rest : List ℕ) → EntryFits e → IsLink (entry_bytes e ++ rest)
from_entry e rest fits = record {
  whole = omega arith;
  tos = omega (arith, fits.tos_length, length-append e.tos rest);
  kind_low = elim e.link.kind as (λ k. 1 ≤ kind_byte k) [ PointToPoint ↦ omega arith | Transit ↦ omega arith | Stub ↦ omega arith | Virtual ↦ omega arith ];
  kind_high = elim e.link.kind as (λ k. kind_byte k ≤ 4) [ PointToPoint ↦ omega arith | Transit ↦ omega arith | Stub ↦ omega arith | Virtual ↦ omega arith ];
}

first_of_some : (n : ℕ) (bytes : List ℕ) (es : List LinkEntry) → length es ≡ suc n → AllByRecursion EntryFits es → bytes ≡ flat_map entry_bytes es
    → IsLink bytes × AreLinks n (drop (link_length bytes) bytes)
first_of_some n bytes [] len fit spelled = absurd (omega arith)
first_of_some n bytes (e ∷ es) len fit spelled =
    let rest : List ℕ = flat_map entry_bytes es in
    let whole : bytes ≡ entry_bytes e ++ rest = spelled ∙ flat_map-cons entry_bytes e es in
    subst (λ (b : List ℕ). IsLink b × AreLinks n (drop (link_length b) b)) (sym whole)
    (from_entry e rest fit.0, record { entries = es; counted = omega arith; fit = fit.1; spelled = rest_back e rest fit.0 })

-- the first link of some, and the others
pub AreLinks-first : (n : ℕ) (bytes : List ℕ) → AreLinks (suc n) bytes → IsLink bytes × AreLinks n (drop (link_length bytes) bytes)
AreLinks-first n bytes are = first_of_some n bytes are.entries are.counted are.fit are.spelled

none_left : (bytes : List ℕ) (es : List LinkEntry) → length es ≡ 0 → bytes ≡ flat_map entry_bytes es → length bytes ≡ 0
none_left bytes [] len spelled = ap length spelled
none_left bytes (e ∷ es) len spelled = absurd (omega arith)

pub no_bytes : (bytes : List ℕ) → AreLinks 0 bytes → length bytes ≡ 0
no_bytes bytes are = none_left bytes are.entries are.counted are.spelled

-- links that are written are read
pub links_of_entries : (n : ℕ) (bytes : List ℕ) (are : AreLinks n bytes) → links_in n bytes ≡ map (λ (e : LinkEntry). e.link) are.entries
links_of_entries n bytes are =
    let p = are.spelled in
    let c = are.counted in
    rw p (rw (← c) (links_back are.entries are.fit))

-- the same for a count that is not written as one more
pub AreLinks-step : (n : ℕ) (bytes : List ℕ) → 0 < n → AreLinks n bytes → IsLink bytes × AreLinks (n - 1) (drop (link_length bytes) bytes)
AreLinks-step zero bytes lt are = absurd (omega arith)
AreLinks-step (suc n) bytes lt are = let e : suc n - 1 ≡ n = omega arith in rw e (AreLinks-first n bytes are)

-- the links that are left, at one more
pub goes_on : (count i : ℕ) (rest after : List ℕ) (link : Link) (P : Type 0) → i < count → AreBytes rest → IsFirstLink rest link after
    → (AreLinks (count - i) rest ↔ P) → (AreLinks (count - (i + 1)) after ↔ P)
goes_on count i rest after link P lt fits first so_far =
    let n : count - i ≡ suc (count - (i + 1)) = omega arith in
    let before = rw n at so_far in
    let e = first.rest_is in
    rw e (
      (λ are. before.0 (AreLinks-cons (count - (i + 1)) rest fits first.is are)),
      (λ p. (AreLinks-first (count - (i + 1)) rest (before.1 p)).1),
    )

-- no link where one is to stand
pub breaks_off : (count i : ℕ) (rest : List ℕ) (P : Type 0) → i < count → (IsLink rest → ⊥) → (AreLinks (count - i) rest ↔ P) → P → ⊥
breaks_off count i rest P lt none so_far p =
    let pos : 0 < count - i = omega arith in
    none (AreLinks-step (count - i) rest pos (so_far.1 p)).0
