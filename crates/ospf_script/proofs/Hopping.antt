-- A word spells one next hop at most, whose parts stand around its first bytes `>` and `@`.
use Rattle.std.proofs.Common.{◌≡◌, ◌==◌, ℕ, zero, suc, ◌+◌, ◌<◌, ◌^◌, [], ◌∷◌, ◌++◌, true, false, get_or, length, take, drop, codes, refl, sym, ap, ◌∙◌, subst, arith, append_assoc}
use Rattle.std.specs.List.{position_or_len}
use Rattle.std.proofs.lemmas.Bool.Decides.{nat_tests}
use Rattle.std.proofs.lemmas.Bool.{eq-eqb, eqb-true}
use Rattle.std.proofs.lemmas.List.{get_or-drop, get_or-take, take-append-drop, length-take, length-drop}
use Rattle.std.proofs.lemmas.List.Sums.{fails_before_first, passes_at_first}
use Rattle.std.proofs.Math.Seq.{take_all}
use Rattle.ospf_base.specs.Text.{number_text}
use Rattle.ospf_base.specs.declared.ids.Addr.{Addr}
use Rattle.ospf_base.specs.declared.ids.RouterId.{RouterId}
use Rattle.ospf_base.proofs.Dotted.{HasNo, dotted_has_no, number_spells, one_cut, spelled_is_written}
use Rattle.ospf_graph.specs.Text.{hop_text}
use Rattle.ospf_graph.specs.declared.hop.NextHop.{NextHop}
use Rattle.ospf_graph.specs.declared.hop.NextHop.TheVariants.{Attached, PointToPoint, Lan}
use Rattle.ospf_script.specs.Values.{IsAddress, IsDotted32, IsHopWord, IsRouterWord}
use Rattle.ospf_script.specs.Words.{Text}
use Rattle.ospf_script.proofs.OneValue.{address_one, router_one}

-- ---- numbers as they are printed

-- what is printed of a number spells it
pub printed_spells : (n : ℕ) → n < 2 ^ 32 → IsDotted32 (number_text n) n
printed_spells n fits = (number_spells n, fits)

-- and what spells it is printed of it
pub spelled_is_printed : (word : Text) (n : ℕ) → IsDotted32 word n → word ≡ number_text n
spelled_is_printed word n h = spelled_is_written word n h.0

-- ---- bytes that no number has

number_has_no_greater : (n : ℕ) → HasNo 62 (number_text n)
number_has_no_greater n = dotted_has_no 62 (λ k. grind (arith, nat_tests)) (number_text n) n (number_spells n)

number_has_no_at : (n : ℕ) → HasNo 64 (number_text n)
number_has_no_at n = dotted_has_no 64 (λ k. grind (arith, nat_tests)) (number_text n) n (number_spells n)

-- none stands before the first such byte of a word
pub front_has_no : (byte : ℕ) (word front : Text) (n : ℕ) → n ≡ position_or_len (λ b. b == byte) word → front ≡ take n word → HasNo byte front
front_has_no byte word front n at is =
    subst (HasNo byte) (sym is) (λ k d less e.
    let inside : k < n = omega (arith, less, length-take n word) in
    let fails : (get_or word k d == byte) ≡ false = fails_before_first (λ b. b == byte) word k d (subst (λ m. k < m) at inside) in
    let same : get_or word k d ≡ byte = sym (get_or-take n word k d inside) ∙ e in
    let both : true ≡ false = sym (eq-eqb (get_or word k d) byte same) ∙ fails in
    cc)

pub whole_has_no : (byte : ℕ) (word : Text) (n : ℕ) → n ≡ position_or_len (λ b. b == byte) word → length (drop n word) ≡ 0 → HasNo byte word
whole_has_no byte word n at none =
    front_has_no byte word word n at (sym (take_all n word (omega (arith, none, length-drop n word))))

-- and it does behind them
pub cut_at : (byte : ℕ) (word front rest behind : Text) (first n : ℕ) → n ≡ position_or_len (λ b. b == byte) word → front ≡ take n word → rest ≡ drop n word
    → rest ≡ first ∷ behind → word ≡ front ++ byte ∷ behind
cut_at byte word front rest behind first n at is rest_is cut =
    let long : length (drop n word) ≡ suc (length behind) = ap length (sym rest_is ∙ cut) in
    let inside : n < length word = omega (arith, long, length-drop n word) in
    let passes : (get_or word (position_or_len (λ b. b == byte) word) 0 == byte) ≡ true =
    passes_at_first (λ b. b == byte) word 0 (subst (λ m. m < length word) at inside) in
    let here : get_or word n 0 ≡ byte = eqb-true _ byte (subst (λ m. (get_or word m 0 == byte) ≡ true) (sym at) passes) in
    let plus : n + 0 ≡ n = omega arith in
    let at_first : first ≡ get_or word n 0 = ap (λ (t : Text). get_or t 0 0) (sym cut ∙ rest_is) ∙ get_or-drop n word 0 0 ∙ ap (λ m. get_or word m 0) plus in
    sym (take-append-drop n word) ∙ ap (λ t. take n word ++ t) (sym rest_is ∙ cut ∙ ap (λ b. b ∷ behind) (at_first ∙ here)) ∙ ap (λ t. t ++ byte ∷ behind) (sym is)

-- it stands there
has_in : (byte : ℕ) (xs ys : Text) → HasNo byte (xs ++ byte ∷ ys) → ⊥
has_in byte [] ys h = h 0 0 (omega arith) refl
has_in byte (x ∷ xs) ys h = has_in byte xs ys (λ i d l. h (suc i) d (omega (arith, l)))

pub has_it : (byte : ℕ) (xs ys word : Text) → word ≡ xs ++ byte ∷ ys → HasNo byte word → ⊥
has_it byte xs ys word is none = has_in byte xs ys (subst (HasNo byte) is none)

-- the word `attached` has none
attached_has_no : HasNo 62 (codes "attached")
attached_has_no zero d less e = let same : ◌≡◌ {A = ℕ} 97 62 = e in omega (arith, same)
attached_has_no (suc zero) d less e = let same : ◌≡◌ {A = ℕ} 116 62 = e in omega (arith, same)
attached_has_no (suc (suc zero)) d less e = let same : ◌≡◌ {A = ℕ} 116 62 = e in omega (arith, same)
attached_has_no (suc (suc (suc zero))) d less e = let same : ◌≡◌ {A = ℕ} 97 62 = e in omega (arith, same)
attached_has_no (suc (suc (suc (suc zero)))) d less e = let same : ◌≡◌ {A = ℕ} 99 62 = e in omega (arith, same)
attached_has_no (suc (suc (suc (suc (suc zero))))) d less e = let same : ◌≡◌ {A = ℕ} 104 62 = e in omega (arith, same)
attached_has_no (suc (suc (suc (suc (suc (suc zero)))))) d less e = let same : ◌≡◌ {A = ℕ} 101 62 = e in omega (arith, same)
attached_has_no (suc (suc (suc (suc (suc (suc (suc zero))))))) d less e = let same : ◌≡◌ {A = ℕ} 100 62 = e in omega (arith, same)
attached_has_no (suc (suc (suc (suc (suc (suc (suc (suc k)))))))) d less e = omega (arith, less)

pub not_attached : (word front behind : Text) → word ≡ front ++ 62 ∷ behind → word ≡ codes "attached" → ⊥
not_attached word front behind is other = has_it 62 front behind word is (subst (HasNo 62) (sym other) attached_has_no)

-- what is printed of a hop, with the bytes between its parts
text_over : (l : Addr) (r : RouterId) → hop_text (PointToPoint l r) ≡ number_text l.0 ++ 62 ∷ number_text r.0
text_over l r = append_assoc (number_text l.0) (62 ∷ []) (number_text r.0)

text_across : (l : Addr) (r : RouterId) (a : Addr) → hop_text (Lan l r a) ≡ number_text l.0 ++ 62 ∷ (number_text r.0 ++ 64 ∷ number_text a.0)
text_across l r a =
    append_assoc (number_text l.0 ++ 62 ∷ [] ++ number_text r.0) (64 ∷ []) (number_text a.0)
    ∙ append_assoc (number_text l.0 ++ 62 ∷ []) (number_text r.0) (64 ∷ number_text a.0)
    ∙ append_assoc (number_text l.0) (62 ∷ []) (number_text r.0 ++ 64 ∷ number_text a.0)

-- ---- the parts of a hop

-- what stands before and behind the first `>` of a hop
abbrev pub IsAround : Text → Text → NextHop → Type 0
IsAround front behind Attached = ⊥
IsAround front behind (PointToPoint local router) = IsAddress front local × IsRouterWord behind router × HasNo 64 behind
IsAround front behind (Lan local router address) =
    IsAddress front local × (behind ≡ number_text router.0 ++ 64 ∷ number_text address.0) × (router.0 < 2 ^ 32) × (address.0 < 2 ^ 32)

pub parts_are : (word : Text) (hop : NextHop) (front behind : Text) → IsHopWord word hop → (word ≡ codes "attached" → ⊥) → word ≡ front ++ 62 ∷ behind → HasNo 62 front
    → IsAround front behind hop
parts_are word Attached front behind h other is free = absurd (other h.0)
parts_are word (PointToPoint l r) front behind h other is free =
    let cut = one_cut 62 front behind (number_text l.0) (number_text r.0) free (number_has_no_greater l.0) (sym is ∙ h.0 ∙ text_over l r) in (
      subst (λ (t : Text). IsAddress t l) (sym cut.0) (printed_spells l.0 h.1.0),
      subst (λ (t : Text). IsRouterWord t r) (sym cut.1) (printed_spells r.0 h.1.1),
      subst (HasNo 64) (sym cut.1) (number_has_no_at r.0),
    )
parts_are word (Lan l r a) front behind h other is free =
    let cut = one_cut 62 front behind (number_text l.0) (number_text r.0 ++ 64 ∷ number_text a.0) free (number_has_no_greater l.0) (sym is ∙ h.0 ∙ text_across l r a) in
    (subst (λ (t : Text). IsAddress t l) (sym cut.0) (printed_spells l.0 h.1.0), cut.1, h.1.1, h.1.2)

-- the own address stands before it
pub no_front : (front behind : Text) (hop : NextHop) → IsAround front behind hop → ((address : Addr) → IsAddress front address → ⊥) → ⊥
no_front front behind Attached h none = h
no_front front behind (PointToPoint l r) h none = none l h.0
no_front front behind (Lan l r a) h none = none l h.0

-- where there is no `@` behind it, a Router ID stands there
pub no_behind : (front behind : Text) (hop : NextHop) → IsAround front behind hop → HasNo 64 behind → ((router : RouterId) → IsRouterWord behind router → ⊥) → ⊥
no_behind front behind Attached h free none = h
no_behind front behind (PointToPoint l r) h free none = none r h.1
no_behind front behind (Lan l r a) h free none = has_it 64 (number_text r.0) (number_text a.0) behind h.1 free

-- where there is, a Router ID and an address stand around it
pub at_parts : (front behind x y : Text) (hop : NextHop) → IsAround front behind hop → behind ≡ x ++ 64 ∷ y → HasNo 64 x
    → ((router : RouterId) (address : Addr) → IsRouterWord x router → IsAddress y address → ⊥) → ⊥
at_parts front behind x y Attached h is free none = h
at_parts front behind x y (PointToPoint l r) h is free none = has_it 64 x y behind is h.2
at_parts front behind x y (Lan l r a) h is free none =
    let cut = one_cut 64 x y (number_text r.0) (number_text a.0) free (number_has_no_at r.0) (sym is ∙ h.1) in
    none r a (subst (λ (t : Text). IsRouterWord t r) (sym cut.0) (printed_spells r.0 h.2)) (subst (λ (t : Text). IsAddress t a) (sym cut.1) (printed_spells a.0 h.3))

-- ---- what is read

pub hop_over : (word front behind : Text) (l : Addr) (r : RouterId) → word ≡ front ++ 62 ∷ behind → IsAddress front l → IsRouterWord behind r → IsHopWord word (PointToPoint l r)
hop_over word front behind l r is first second =
    let one = spelled_is_printed front l.0 first in
    let two = spelled_is_printed behind r.0 second in
    (is ∙ ap (λ (t : Text). t ++ 62 ∷ behind) one ∙ ap (λ (t : Text). number_text l.0 ++ 62 ∷ t) two ∙ sym (text_over l r), (first.1, second.1))

pub hop_across : (word front behind x y : Text) (l : Addr) (r : RouterId) (a : Addr) → word ≡ front ++ 62 ∷ behind → behind ≡ x ++ 64 ∷ y → IsAddress front l → IsRouterWord x r
    → IsAddress y a → IsHopWord word (Lan l r a)
hop_across word front behind x y l r a is at first second third =
    let one = spelled_is_printed front l.0 first in
    let two = spelled_is_printed x r.0 second in
    let three = spelled_is_printed y a.0 third in (
      is ∙ ap (λ (t : Text). t ++ 62 ∷ behind) one ∙ ap (λ (t : Text). number_text l.0 ++ 62 ∷ t) (at ∙ ap (λ (t : Text). t ++ 64 ∷ y) two ∙ ap (λ (t : Text). number_text r.0 ++ 64 ∷ t) three)
          ∙ sym (text_across l r a),
      (first.1, second.1, third.1),
    )

-- ---- one hop

around_one : (front behind : Text) (p q : NextHop) → IsAround front behind p → IsAround front behind q → p ≡ q
around_one f b (PointToPoint l r) (PointToPoint m s) h k =
    let one = address_one f l m h.0 k.0 in let two = router_one b r s h.1 k.1 in cc
around_one f b (Lan l r a) (Lan m s c) h k =
    let cut = one_cut 64 (number_text r.0) (number_text a.0) (number_text s.0) (number_text c.0) (number_has_no_at r.0) (number_has_no_at s.0) (sym h.1 ∙ k.1) in
    let one = address_one f l m h.0 k.0 in
    let two = router_one (number_text r.0) r s (printed_spells r.0 h.2) (subst (λ (t : Text). IsRouterWord t s) (sym cut.0) (printed_spells s.0 k.2)) in
    let three = address_one (number_text a.0) a c (printed_spells a.0 h.3) (subst (λ (t : Text). IsAddress t c) (sym cut.1) (printed_spells c.0 k.3)) in
    cc
around_one f b (PointToPoint l r) (Lan m s c) h k = absurd (has_it 64 (number_text s.0) (number_text c.0) b k.1 h.2)
around_one f b (Lan l r a) (PointToPoint m s) h k = absurd (has_it 64 (number_text r.0) (number_text a.0) b h.1 k.2)
around_one f b Attached q h k = absurd h
around_one f b (PointToPoint l r) Attached h k = absurd k
around_one f b (Lan l r a) Attached h k = absurd k

pub hop_one : (word : Text) (p q : NextHop) → IsHopWord word p → IsHopWord word q → p ≡ q
hop_one word Attached Attached h k = refl
hop_one word Attached (PointToPoint l r) h k = absurd (not_attached word (number_text l.0) (number_text r.0) (k.0 ∙ text_over l r) h.0)
hop_one word Attached (Lan l r a) h k = absurd (not_attached word (number_text l.0) (number_text r.0 ++ 64 ∷ number_text a.0) (k.0 ∙ text_across l r a) h.0)
hop_one word (PointToPoint l r) q h k =
    let over = h.0 ∙ text_over l r in
    let other = not_attached word (number_text l.0) (number_text r.0) over in
    around_one (number_text l.0) (number_text r.0) (PointToPoint l r) q
    (parts_are word (PointToPoint l r) (number_text l.0) (number_text r.0) h other over (number_has_no_greater l.0))
    (parts_are word q (number_text l.0) (number_text r.0) k other over (number_has_no_greater l.0))
hop_one word (Lan l r a) q h k =
    let over = h.0 ∙ text_across l r a in
    let other = not_attached word (number_text l.0) (number_text r.0 ++ 64 ∷ number_text a.0) over in
    around_one (number_text l.0) (number_text r.0 ++ 64 ∷ number_text a.0) (Lan l r a) q
    (parts_are word (Lan l r a) (number_text l.0) (number_text r.0 ++ 64 ∷ number_text a.0) h other over (number_has_no_greater l.0))
    (parts_are word q (number_text l.0) (number_text r.0 ++ 64 ∷ number_text a.0) k other over (number_has_no_greater l.0))
