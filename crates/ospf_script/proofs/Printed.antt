-- What is printed of a command is read as that command again.
use Rattle.std.proofs.Common.{◌≡◌, ◌≢◌, ◌<◌, ◌≤◌, ◌^◌, ◌+◌, ◌-◌, ◌/◌, ◌%◌, ◌==◌, ◌&&◌, ℕ, ℤ, zero, suc, Bool, true, false, not, cond, List, [], ◌∷◌, ◌++◌, length, length-append, map, replicate, codes, decimal, flat_map, Option, Some, None, append_assoc, append-nil, refl, sym, ap, ◌∙◌, subst, inl, inr, arith}
use Rattle.std.specs.Fmt.{digits, digits_onto, digit_glyph}
use Rattle.std.specs.Int.{w32, cast_signed, cast_unsigned}
use Rattle.std.specs.List.{AllZip, filter, slice_split, onto_first}
use Rattle.std.specs.Net.Grammar.{IsNumber}
use Rattle.std.specs.Char.{digit_value}
use Rattle.std.specs.Str.Parse.{AllDigits, digits_value}
use Rattle.std.proofs.lemmas.Bool.{ne_eqb, eq-eqb}
use Rattle.std.proofs.lemmas.Fmt.{decimal_is_IsNumeral, digits_is_IsNumeral}
use Rattle.std.proofs.lemmas.Int.{of_z-to_z}
use Rattle.std.proofs.lemmas.Int.Digits.{digits_value-lt}
use Rattle.std.proofs.lemmas.List.{length-replicate}
use Rattle.ospf_base.specs.Text.{IsDottedNumber, number_text, prefix_text}
use Rattle.ospf_base.proofs.Dotted.{number_spells}
use Rattle.ospf_base.specs.declared.ids.Addr.{Addr}
use Rattle.ospf_base.specs.declared.ids.RouterId.{RouterId}
use Rattle.ospf_base.specs.declared.prefix.Prefix.{Prefix}
use Rattle.ospf_graph.specs.Text.{hop_text}
use Rattle.ospf_graph.specs.declared.hop.NextHop.{NextHop}
use Rattle.ospf_graph.specs.declared.hop.NextHop.TheVariants.{Attached, PointToPoint, Lan}
use Rattle.ospf_script.specs.Commands.{AreDatagramWords, AreNumbers, AreRoundWords, BeginsWalk, IsAddressAlone, IsCountAlone, IsDelivery, IsLossWords, IsOne, IsRouterAlone, IsRouterAndLink, IsThree, IsTwo, IsWhy, IsWhyHeadline, SpellsCommand, TakesEventWords, TakesMany, TakesWords, spaced}
use Rattle.ospf_base.specs.declared.event.event.WorldEvent.{WorldEvent}
use Rattle.ospf_base.specs.declared.event.event.WorldEvent.TheVariants as event
use Rattle.ospf_neighbour.specs.Text.{state_text}
use Rattle.ospf_neighbour.specs.declared.machine.NeighbourState.{NeighbourState}
use Rattle.ospf_neighbour.specs.declared.machine.NeighbourState.TheVariants as state
use Rattle.ospf_script.specs.Expected.{AreElected, BeginsRoute, IsExpected, IsWanted, SpellsArrival}
use Rattle.ospf_script.specs.Laws.{PrintedIsSpelled}
use Rattle.ospf_script.specs.Texts.{choices_text, command_text, floor_text, hexadecimal, spaced_hops_text}
use Rattle.ospf_script.specs.Values.{IsAddress, IsDecimal, IsFloor, IsHopWord, IsPercent, IsPrefix, IsRouterWord, no_floor}
use Rattle.ospf_script.specs.Words.{Text, is_space, is_word, line_words}
use Rattle.ospf_script.specs.declared.command.Command.{Command}
use Rattle.ospf_script.specs.declared.command.Command.TheVariants as command
use Rattle.ospf_script.specs.declared.command.Many.{Many}
use Rattle.ospf_script.specs.declared.command.Many.TheVariants as many
use Rattle.ospf_script.specs.declared.command.View.{View}
use Rattle.ospf_script.specs.declared.command.View.TheVariants as view
use Rattle.ospf_script.specs.declared.expected.Expected.{Expected}
use Rattle.ospf_script.specs.declared.expected.Expected.TheVariants as expected
use Rattle.ospf_script.specs.declared.expected.Wanted.{Wanted}
use Rattle.ospf_script.specs.declared.expected.Wanted.TheVariants as wanted
use Rattle.ospf_script.proofs.Parts.{filter-word}

-- ---- words with a space between two

-- no byte is a space
abbrev pub HasNoSpace : Text → Type 0
HasNoSpace [] = Unit {0}
HasNoSpace (b ∷ bs) = (b ≢ 32) × HasNoSpace bs

-- a word of a line
pub record IsWord (word : Text) : Type 0 where
  pub some : 0 < length word
  pub whole : HasNoSpace word

-- all are
abbrev pub AreWords : List Text → Type 0
AreWords [] = Unit {0}
AreWords (w ∷ ws) = IsWord w × AreWords ws

-- a byte that is no space is put onto the first part
onto-part : (b : ℕ) (bs part : Text) (parts : List Text) → b ≢ 32 → slice_split is_space bs ≡ part ∷ parts → slice_split is_space (b ∷ bs) ≡ (b ∷ part) ∷ parts
onto-part b bs part parts other e =
    ap (λ s. cond s ([] ∷ slice_split is_space bs) (onto_first b (slice_split is_space bs))) (ne_eqb b 32 other) ∙ ap (onto_first b) e

split-word : (word rest : Text) → HasNoSpace word → slice_split is_space (word ++ 32 ∷ rest) ≡ word ∷ slice_split is_space rest
split-word [] rest h = refl
split-word (b ∷ bs) rest h = onto-part b (bs ++ 32 ∷ rest) bs (slice_split is_space rest) h.0 (split-word bs rest h.1)

split-alone : (word : Text) → HasNoSpace word → slice_split is_space word ≡ word ∷ []
split-alone [] h = refl
split-alone (b ∷ bs) h = onto-part b bs bs [] h.0 (split-alone bs h.1)

words-spaced : (word : Text) (ws : List Text) → IsWord word → AreWords ws → line_words (word ++ flat_map (λ b. 32 ∷ b) ws) ≡ word ∷ ws
words-spaced word [] w all =
    ap line_words (append-nil word) ∙ ap (filter is_word) (split-alone word w.whole) ∙ filter-word word [] w.some
words-spaced word (next ∷ ws) w all =
    ap (filter is_word) (split-word word (next ++ flat_map (λ b. 32 ∷ b) ws) w.whole)
    ∙ filter-word word (slice_split is_space (next ++ flat_map (λ b. 32 ∷ b) ws)) w.some
    ∙ ap (λ (others : List Text). word ∷ others) (words-spaced next ws all.0 all.1)

-- where a command is printed as words that spell it, its line spells it
by_words : (c : Command) (ws : List Text) → command_text c ≡ spaced ws → AreWords ws → SpellsCommand ws c → SpellsCommand (line_words (command_text c)) c
by_words c [] e all s = absurd s
by_words c (w ∷ ws) e all s = subst (λ (l : List Text). SpellsCommand l c) (sym (ap line_words e ∙ words-spaced w ws all.0 all.1)) s

-- ---- the words of a line are words

-- no part has a space
abbrev AreWhole : List Text → Type 0
AreWhole [] = Unit {0}
AreWhole (w ∷ ws) = HasNoSpace w × AreWhole ws

onto-whole : (b : ℕ) (parts : List Text) → b ≢ 32 → AreWhole parts → AreWhole (onto_first b parts)
onto-whole b [] other all = ((other, tt), tt)
onto-whole b (w ∷ ws) other all = ((other, all.0), all.1)

parts-whole : (line : Text) → AreWhole (slice_split is_space line)
parts-whole [] = (tt, tt)
parts-whole (b ∷ bs) =
    elim (is_space b) as (λ s. is_space b ≡ s → AreWhole (cond s ([] ∷ slice_split is_space bs) (onto_first b (slice_split is_space bs)))) [
      | true ↦ λ e. (tt, parts-whole bs)
      | false ↦ λ e. onto-whole b (slice_split is_space bs) (λ same. (let both : true ≡ false = sym (eq-eqb b 32 same) ∙ e in cc)) (parts-whole bs)
    ] refl

words-of-parts : (parts : List Text) → AreWhole parts → AreWords (filter is_word parts)
words-of-parts [] all = tt
words-of-parts ([] ∷ ws) all = words-of-parts ws all.1
words-of-parts ((b ∷ bs) ∷ ws) all =
    subst AreWords (sym (filter-word (b ∷ bs) ws (omega arith))) (record { some = omega arith; whole = all.0 }, words-of-parts ws all.1)

words_of_line : (line : Text) → AreWords (line_words line)
words_of_line line = words-of-parts (slice_split is_space line) (parts-whole line)

-- ---- words that are known

abbrev is_whole : Text → Bool
is_whole [] = true
is_whole (b ∷ bs) = not (is_space b) && is_whole bs

whole-of : (word : Text) → is_whole word ≡ true → HasNoSpace word
whole-of [] e = tt
whole-of (b ∷ bs) e =
    elim (is_space b) as (λ s. is_space b ≡ s → (not s && is_whole bs) ≡ true → HasNoSpace (b ∷ bs)) [
      | true ↦ λ space h. (let both : false ≡ true = h in cc)
      | false ↦ λ other h. ((λ same. (let both : true ≡ false = sym (eq-eqb b 32 same) ∙ other in cc)), whole-of bs h)
    ] refl e

word : (w : Text) → 0 < length w → is_whole w ≡ true → IsWord w
word w some whole = record { some = some; whole = whole-of w whole }

-- ---- words put together

whole-append : (xs ys : Text) → HasNoSpace xs → HasNoSpace ys → HasNoSpace (xs ++ ys)
whole-append [] ys a b = b
whole-append (x ∷ xs) ys a b = (a.0, whole-append xs ys a.1 b)

word-append : (xs ys : Text) → IsWord xs → HasNoSpace ys → IsWord (xs ++ ys)
word-append xs ys x y = record { some = omega (arith, length-append xs ys, x.some); whole = whole-append xs ys x.whole y }

-- ---- numbers

not_space : (c : ℕ) → digit_value c < 36 → c ≢ 32
not_space c digit e = (let here : digit_value 32 < 36 = subst (λ (x : ℕ). digit_value x < 36) e digit in omega (arith, here))

digits_whole : (radix : ℕ) (ds : Text) → radix ≤ 36 → AllDigits radix ds → HasNoSpace ds
digits_whole radix [] small h = tt
digits_whole radix (d ∷ ds) small h = (not_space d (omega (arith, h.0)), digits_whole radix ds small h.1)

number_word : (radix : ℕ) (w : Text) (n : ℕ) → radix ≤ 36 → IsNumber radix w n → IsWord w
number_word radix w n small h = record { some = h.0.0; whole = digits_whole radix w small h.0.1 }

decimal_number : (n : ℕ) → n < 2 ^ 64 → IsNumber 10 (decimal n) n
decimal_number n h = decimal_is_IsNumeral n h

decimal_word : (n : ℕ) → n < 2 ^ 64 → IsWord (decimal n)
decimal_word n h = number_word 10 (decimal n) n (omega arith) (decimal_number n h)

dot_whole : HasNoSpace (codes ".")
dot_whole = whole-of (codes ".") refl

dotted_word : (text : Text) (n : ℕ) → IsDottedNumber text n → IsWord text
dotted_word text n h =
    let f = h.fit in
    let one = decimal_word h.a (omega (arith, f.0)) in
    let two = decimal_word h.b (omega (arith, f.1)) in
    let three = decimal_word h.c (omega (arith, f.2)) in
    let four = decimal_word h.d (omega (arith, f.3)) in
    rw h.spelled
    (word-append _ _ (word-append _ _ (word-append _ _ (word-append _ _
    (word-append _ _ (word-append _ _ one dot_whole) two.whole) dot_whole) three.whole) dot_whole) four.whole)

dots : (n : ℕ) → IsWord (number_text n)
dots n = dotted_word (number_text n) n (number_spells n)

-- ---- floors: eight hexadecimal digits

onto_short : (k j n : ℕ) (acc : Text) → n < 16 ^ suc j → length (digits_onto k 16 false n acc) ≤ length acc + suc j
onto_short zero j n acc small = omega arith
onto_short (suc k) zero n acc small =
    subst (λ (t : Bool). length (cond t (digit_glyph false (n % 16) ∷ acc) (digits_onto k 16 false (n / 16) (digit_glyph false (n % 16) ∷ acc))) ≤ length acc + 1)
    (sym (eq-eqb (n / 16) 0 (omega arith))) (omega arith)
onto_short (suc k) (suc j) n acc small =
    elim (n / 16 == 0) as (λ t. length (cond t (digit_glyph false (n % 16) ∷ acc) (digits_onto k 16 false (n / 16) (digit_glyph false (n % 16) ∷ acc))) ≤ length acc + suc (suc j)) [
      | true ↦ omega arith
      | false ↦ (let further = onto_short k j (n / 16) (digit_glyph false (n % 16) ∷ acc) (omega arith) in omega (arith, further))
    ]

digits_short : (n : ℕ) → n < 2 ^ 32 → length (digits 16 false n) ≤ 8
unfolding digits
digits_short n small = onto_short 64 7 n [] (omega arith)

zeros-value : (k : ℕ) (ds : Text) → digits_value 16 (replicate k 48 ++ ds) ≡ digits_value 16 ds
zeros-value zero ds = refl
zeros-value (suc k) ds = zeros-value k ds

zeros-digits : (k : ℕ) (ds : Text) → AllDigits 16 ds → AllDigits 16 (replicate k 48 ++ ds)
zeros-digits zero ds h = h
zeros-digits (suc k) ds h = (omega arith, zeros-digits k ds h)

eight-long : (n : ℕ) → n < 2 ^ 32 → length (hexadecimal 8 n) ≡ 8
unfolding hexadecimal
eight-long n small =
    let ds : Text = digits 16 false n in
    omega (arith, length-append (replicate (8 - length ds) 48) ds, length-replicate {A = ℕ} (8 - length ds) 48, digits_short n small)

eight-number : (n : ℕ) → n < 2 ^ 32 → IsNumber 16 (hexadecimal 8 n) n
unfolding hexadecimal
eight-number n small =
    let ds : Text = digits 16 false n in
    let own = digits_is_IsNumeral 16 false (omega arith) (omega arith) n (omega arith) in
    ((omega (arith, length-append (replicate (8 - length ds) 48) ds, own.0.0), zeros-digits (8 - length ds) ds own.0.1), zeros-value (8 - length ds) ds ∙ own.1)

floor_of_bits : (n : ℕ) → n < 2 ^ 32 → IsFloor (floor_text (cast_signed w32 n)) (cast_signed w32 n)
floor_of_bits n small =
    let same : cast_unsigned w32 (cast_signed w32 n) ≡ n = of_z-to_z w32 n small in
    rw same (record { bits = n; spelled = eight-number n small; eight = eight-long n small; floor_is = refl })

floor_word : (n : ℕ) → n < 2 ^ 32 → IsWord (hexadecimal 8 n)
floor_word n small = number_word 16 (hexadecimal 8 n) n (omega arith) (eight-number n small)

-- ---- prefixes and next hops

prefix_spelled : (p : Prefix) → p.address.0 < 2 ^ 32 → IsPrefix (prefix_text p) p
prefix_spelled p small =
    let short = p.short in
    record {
      dotted = number_text p.address.0;
      digits = decimal p.length;
      spelled = append_assoc (number_text p.address.0) (47 ∷ []) (decimal p.length);
      address_spelled = (number_spells p.address.0, small);
      length_spelled = decimal_number p.length (omega arith);
      short = omega arith;
      masked = p.masked;
    }

prefix_word : (p : Prefix) → IsWord (prefix_text p)
prefix_word p =
    let short = p.short in
    word-append _ _ (word-append _ _ (dots p.address.0) (whole-of (codes "/") refl)) (decimal_word p.length (omega arith)).whole

hop_word : (hop : NextHop) → IsWord (hop_text hop)
hop_word Attached = word (codes "attached") (omega arith) refl
hop_word (PointToPoint local router) = word-append _ _ (word-append _ _ (dots local.0) (whole-of (codes ">") refl)) (dots router.0).whole
hop_word (Lan local router address) =
    word-append _ _ (word-append _ _ (word-append _ _ (word-append _ _ (dots local.0) (whole-of (codes ">") refl)) (dots router.0).whole) (whole-of (codes "@") refl)) (dots address.0).whole

-- ---- texts behind a beginning, with a space between two

tail1 : (p x t : Text) → p ++ x ++ t ≡ p ++ (x ++ t)
tail1 p x t = append_assoc p x t

tail2 : (p x y t : Text) → p ++ x ++ (32 ∷ []) ++ y ++ t ≡ p ++ (x ++ 32 ∷ (y ++ t))
tail2 p x y t = append_assoc (p ++ x ++ (32 ∷ [])) y t ∙ append_assoc (p ++ x) (32 ∷ []) (y ++ t) ∙ append_assoc p x (32 ∷ (y ++ t))

tail3 : (p x y z t : Text) → p ++ x ++ (32 ∷ []) ++ y ++ (32 ∷ []) ++ z ++ t ≡ p ++ (x ++ 32 ∷ (y ++ 32 ∷ (z ++ t)))
tail3 p x y z t = tail2 (p ++ x ++ (32 ∷ [])) y z t ∙ append_assoc (p ++ x) (32 ∷ []) (y ++ 32 ∷ (z ++ t)) ∙ append_assoc p x (32 ∷ (y ++ 32 ∷ (z ++ t)))

one : (p x : Text) → p ++ x ≡ p ++ (x ++ [])
one p x = ap (λ (l : Text). p ++ l) (sym (append-nil x))

two : (p x y : Text) → p ++ x ++ (32 ∷ []) ++ y ≡ p ++ (x ++ 32 ∷ (y ++ []))
two p x y = sym (append-nil (p ++ x ++ (32 ∷ []) ++ y)) ∙ tail2 p x y []

three : (p x y z : Text) → p ++ x ++ (32 ∷ []) ++ y ++ (32 ∷ []) ++ z ≡ p ++ (x ++ 32 ∷ (y ++ 32 ∷ (z ++ [])))
three p x y z = sym (append-nil (p ++ x ++ (32 ∷ []) ++ y ++ (32 ∷ []) ++ z)) ∙ tail3 p x y z []

one_given : (p x y : Text) → p ++ x ++ 32 ∷ y ≡ p ++ (x ++ 32 ∷ (y ++ []))
one_given p x y = tail1 p x (32 ∷ y) ∙ ap (λ (l : Text). p ++ (x ++ 32 ∷ l)) (sym (append-nil y))

two_given : (p x y z : Text) → p ++ x ++ (32 ∷ []) ++ y ++ 32 ∷ z ≡ p ++ (x ++ 32 ∷ (y ++ 32 ∷ (z ++ [])))
two_given p x y z = tail2 p x y (32 ∷ z) ∙ ap (λ (l : Text). p ++ (x ++ 32 ∷ (y ++ 32 ∷ l))) (sym (append-nil z))

-- ---- words of which something holds

one_of : (P : Text → Type 0) (ws : List Text) → IsOne P ws → (a : Text) × P a
one_of P (a ∷ []) h = (a, h)
one_of P ws h = absurd h

-- ---- commands, each as it is printed

abbrev Again : Command → Type 0
Again c = SpellsCommand (line_words (command_text c)) c

router_spelled : (r : RouterId) → r.0 < 2 ^ 32 → IsRouterWord (number_text r.0) r
router_spelled r small = (number_spells r.0, small)

address_spelled : (a : Addr) → a.0 < 2 ^ 32 → IsAddress (number_text a.0) a
address_spelled a small = (number_spells a.0, small)

decimal_spelled : (n : ℕ) → n < 2 ^ 64 → IsDecimal 64 (decimal n) n
decimal_spelled n small = (decimal_number n small, small)

short_spelled : (n : ℕ) → n < 2 ^ 32 → IsDecimal 32 (decimal n) n
short_spelled n small = (decimal_number n (omega arith), small)

-- eight hexadecimal digits spell a number of 32 bits
eight_fit : (w : Text) {floor : ℤ} (f : IsFloor w floor) → f.bits < 2 ^ 32
eight_fit w f =
    let below : digits_value 16 w < 16 ^ length w = digits_value-lt 16 w f.spelled.0.1 in
    let eight : digits_value 16 w < 16 ^ 8 = subst (λ (n : ℕ). digits_value 16 w < 16 ^ n) f.eight below in
    omega (arith, eight, f.spelled.1)

-- a number
counted : (c : Command) (name : Text) (n : ℕ) → IsWord name → n < 2 ^ 64 → command_text c ≡ name ++ codes " " ++ decimal n
    → SpellsCommand (name ∷ decimal n ∷ []) c → Again c
counted c name n w small e spelled =
    by_words c (name ∷ decimal n ∷ []) (e ∙ append_assoc name (32 ∷ []) (decimal n) ∙ ap (λ (l : Text). name ++ 32 ∷ l) (sym (append-nil (decimal n))))
    (w, (decimal_word n small, tt)) spelled

-- a Router ID or an address
named : (c : Command) (name : Text) (n : ℕ) → IsWord name → command_text c ≡ name ++ codes " " ++ number_text n
    → SpellsCommand (name ∷ number_text n ∷ []) c → Again c
named c name n w e spelled =
    by_words c (name ∷ number_text n ∷ []) (e ∙ append_assoc name (32 ∷ []) (number_text n) ∙ ap (λ (l : Text). name ++ 32 ∷ l) (sym (append-nil (number_text n))))
    (w, (dots n, tt)) spelled

count_small : (ws : List Text) (n : ℕ) → IsCountAlone ws n → n < 2 ^ 64
count_small ws n h = (one_of (λ a. IsDecimal 64 a n) ws h).1.1

router_small : (ws : List Text) (r : RouterId) → IsRouterAlone ws r → r.0 < 2 ^ 32
router_small ws r h = (one_of (λ a. IsRouterWord a r) ws h).1.1

address_small : (ws : List Text) (a : Addr) → IsAddressAlone ws a → a.0 < 2 ^ 32
address_small ws a h = (one_of (λ w. IsAddress w a) ws h).1.1

link_small : (ws : List Text) (r : RouterId) (n : ℕ) → IsRouterAndLink ws r n → (r.0 < 2 ^ 32) × (n < 2 ^ 64)
link_small (a ∷ b ∷ []) r n h = (h.0.1, h.1.1)
link_small ws r n h = absurd h

numbers_small : (ws : List Text) (m n : ℕ) → AreNumbers ws m n → (m < 2 ^ 64) × (n < 2 ^ 64)
numbers_small (a ∷ b ∷ []) m n h = (h.0.1, h.1.1)
numbers_small ws m n h = absurd h

-- ---- events

start_with : (r : RouterId) (dd n : ℕ) → r.0 < 2 ^ 32 → dd < 2 ^ 32 → n < 2 ^ 32 → Again (command.Event (event.Start r dd (cast_signed w32 n)))
start_with r dd n hr hd small =
    let same : cast_unsigned w32 (cast_signed w32 n) ≡ n = of_z-to_z w32 n small in
    let last : IsWord (floor_text (cast_signed w32 n)) = rw same (floor_word n small) in
    by_words (command.Event (event.Start r dd (cast_signed w32 n))) (codes "start" ∷ number_text r.0 ∷ decimal dd ∷ floor_text (cast_signed w32 n) ∷ [])
    (three (codes "start ") (number_text r.0) (decimal dd) (floor_text (cast_signed w32 n)))
    (word (codes "start") (omega arith) refl, (dots r.0, (decimal_word dd (omega arith), (last, tt))))
    (refl, inr (router_spelled r hr, short_spelled dd hd, floor_of_bits n small))

start_of_two : (ws : List Text) (r : RouterId) (dd : ℕ) (floor : ℤ) → IsTwo (λ a b. IsRouterWord a r × IsDecimal 32 b dd × (floor ≡ no_floor)) ws
    → Again (command.Event (event.Start r dd floor))
start_of_two (a ∷ b ∷ []) r dd floor h =
    subst (λ (f : ℤ). Again (command.Event (event.Start r dd f))) (sym h.2) (start_with r dd 0x80000000 h.0.1 h.1.1 (omega arith))
start_of_two ws r dd floor h = absurd h

start_of_three : (ws : List Text) (r : RouterId) (dd : ℕ) (floor : ℤ) → IsThree (λ a b c. IsRouterWord a r × IsDecimal 32 b dd × IsFloor c floor) ws
    → Again (command.Event (event.Start r dd floor))
start_of_three (a ∷ b ∷ c ∷ []) r dd floor h =
    let f : IsFloor c floor = h.2 in
    let bits = eight_fit c f in
    subst (λ (x : ℤ). Again (command.Event (event.Start r dd x))) (sym f.floor_is) (start_with r dd f.bits h.0.1 h.1.1 bits)
start_of_three ws r dd floor h = absurd h

link_again : (c : Command) (name : Text) (r : RouterId) (n : ℕ) → IsWord name → n < 2 ^ 64 → command_text c ≡ name ++ codes " " ++ number_text r.0 ++ codes " " ++ decimal n
    → SpellsCommand (name ∷ number_text r.0 ∷ decimal n ∷ []) c → Again c
link_again c name r n w small e spelled =
    by_words c (name ∷ number_text r.0 ∷ decimal n ∷ [])
    (e ∙ two (name ++ (32 ∷ [])) (number_text r.0) (decimal n) ∙ append_assoc name (32 ∷ []) (number_text r.0 ++ 32 ∷ (decimal n ++ [])))
    (w, (dots r.0, (decimal_word n small, tt))) spelled

delivery_small : (ws : List Text) (m : ℕ) (r : RouterId) (n : ℕ) → IsDelivery ws m r n → (m < 2 ^ 64) × (r.0 < 2 ^ 32) × (n < 2 ^ 64)
delivery_small (a ∷ b ∷ c ∷ []) m r n h = (h.0.1, h.1.1, h.2.1)
delivery_small ws m r n h = absurd h

deliver_again : (m : ℕ) (r : RouterId) (n : ℕ) → (m < 2 ^ 64) × (r.0 < 2 ^ 32) × (n < 2 ^ 64) → Again (command.Event (event.Deliver m r n))
deliver_again m r n h =
    by_words (command.Event (event.Deliver m r n)) (codes "deliver" ∷ decimal m ∷ number_text r.0 ∷ decimal n ∷ [])
    (three (codes "deliver ") (decimal m) (number_text r.0) (decimal n))
    (word (codes "deliver") (omega arith) refl, (decimal_word m h.0, (dots r.0, (decimal_word n h.2, tt))))
    (refl, (decimal_spelled m h.0, router_spelled r h.1, decimal_spelled n h.2))

event_again : (ws : List Text) (e : WorldEvent) → TakesEventWords e ws → Again (command.Event e)
event_again ws (event.Start r dd floor) h = elim h [ inl plain ↦ start_of_two ws r dd floor plain | inr floored ↦ start_of_three ws r dd floor floored ]
event_again ws (event.Stop r) h =
    named (command.Event (event.Stop r)) (codes "stop") r.0 (word (codes "stop") (omega arith) refl) refl (refl, router_spelled r (router_small ws r h))
event_again ws (event.Tick r) h =
    named (command.Event (event.Tick r)) (codes "tick") r.0 (word (codes "tick") (omega arith) refl) refl (refl, router_spelled r (router_small ws r h))
event_again ws (event.LinkUp r n) h =
    let small = link_small ws r n h in
    link_again (command.Event (event.LinkUp r n)) (codes "up") r n (word (codes "up") (omega arith) refl) small.1 refl (refl, (router_spelled r small.0, decimal_spelled n small.1))
event_again ws (event.LinkDown r n) h =
    let small = link_small ws r n h in
    link_again (command.Event (event.LinkDown r n)) (codes "down") r n (word (codes "down") (omega arith) refl) small.1 refl (refl, (router_spelled r small.0, decimal_spelled n small.1))
event_again ws (event.Deliver m r n) h = deliver_again m r n (delivery_small ws m r n h)

-- ---- other commands

many_again : (ws : List Text) (m : Many) → TakesMany m ws → Again (command.Many m)
many_again ws many.Start h = (refl, refl)
many_again ws many.Up h = (refl, refl)
many_again ws many.Down h = (refl, refl)
many_again ws (many.Cut network) h =
    named (command.Many (many.Cut network)) (codes "cut") network.0 (word (codes "cut") (omega arith) refl) refl (refl, address_spelled network (address_small ws network h))
many_again ws (many.Mend network) h =
    named (command.Many (many.Mend network)) (codes "mend") network.0 (word (codes "mend") (omega arith) refl) refl (refl, address_spelled network (address_small ws network h))

round_again : (ws : List Text) (count : ℕ) (most : Option ℕ) → AreRoundWords ws count most → Again (command.Round count most)
round_again ws count None h =
    let small = count_small ws count h in
    counted (command.Round count None) (codes "round") count (word (codes "round") (omega arith) refl) small (append-nil (codes "round " ++ decimal count)) (refl, decimal_spelled count small)
round_again ws count (Some most) h =
    let small = numbers_small ws count most h in
    by_words (command.Round count (Some most)) (codes "round" ∷ decimal count ∷ decimal most ∷ []) (one_given (codes "round ") (decimal count) (decimal most))
    (word (codes "round") (omega arith) refl, (decimal_word count small.0, (decimal_word most small.1, tt)))
    (refl, (decimal_spelled count small.0, decimal_spelled most small.1))

random_again : (ws : List Text) (number count : ℕ) → AreNumbers ws number count → Again (command.Random number count)
random_again ws number count h =
    let small = numbers_small ws number count h in
    by_words (command.Random number count) (codes "random" ∷ decimal number ∷ decimal count ∷ []) (two (codes "random ") (decimal number) (decimal count))
    (word (codes "random") (omega arith) refl, (decimal_word number small.0, (decimal_word count small.1, tt)))
    (refl, (decimal_spelled number small.0, decimal_spelled count small.1))

show_again : (ws : List Text) (v : View) (r : RouterId) → IsRouterAlone ws r → Again (command.Show v r)
show_again ws view.Neighbours r h =
    named (command.Show view.Neighbours r) (codes "neighbours") r.0 (word (codes "neighbours") (omega arith) refl) refl (inl refl, router_spelled r (router_small ws r h))
show_again ws view.Listing r h =
    named (command.Show view.Listing r) (codes "listing") r.0 (word (codes "listing") (omega arith) refl) refl (refl, router_spelled r (router_small ws r h))
show_again ws view.Table r h =
    named (command.Show view.Table r) (codes "table") r.0 (word (codes "table") (omega arith) refl) refl (refl, router_spelled r (router_small ws r h))
show_again ws view.Floor r h =
    named (command.Show view.Floor r) (codes "floor") r.0 (word (codes "floor") (omega arith) refl) refl (refl, router_spelled r (router_small ws r h))

-- values behind a space each, and as words
spaced-map : {A : Type 0} (text_of : A → Text) (xs : List A) → flat_map (λ x. codes " " ++ text_of x) xs ≡ flat_map (λ b. 32 ∷ b) (map text_of xs)
spaced-map text_of [] = refl
spaced-map text_of (x ∷ xs) = ap (λ (l : Text). 32 ∷ text_of x ++ l) (spaced-map text_of xs)

choices_spelled : (ws : List Text) (cs : List ℕ) → AllZip (IsDecimal 32) ws cs → AllZip (IsDecimal 32) (map decimal cs) cs × AreWords (map decimal cs)
choices_spelled [] [] h = (tt, tt)
choices_spelled (w ∷ ws) (c ∷ cs) h =
    let small : c < 2 ^ 32 = h.0.1 in
    let others = choices_spelled ws cs h.1 in
    ((short_spelled c small, others.0), (decimal_word c (omega arith), others.1))
choices_spelled [] (c ∷ cs) h = absurd h
choices_spelled (w ∷ ws) [] h = absurd h

hops_spelled : (ws : List Text) (hops : List NextHop) → AllZip IsHopWord ws hops → AllZip IsHopWord (map hop_text hops) hops × AreWords (map hop_text hops)
hops_spelled [] [] h = (tt, tt)
hops_spelled (w ∷ ws) (hop ∷ hops) h =
    let others = hops_spelled ws hops h.1 in
    (((refl, h.0.1), others.0), (hop_word hop, others.1))
hops_spelled [] (hop ∷ hops) h = absurd h
hops_spelled (w ∷ ws) [] h = absurd h

walk_small : (ws : List Text) (from : RouterId) (address : Addr) (rest : List Text) → BeginsWalk ws from address rest → (from.0 < 2 ^ 32) × (address.0 < 2 ^ 32)
walk_small (a ∷ b ∷ ws) from address rest h = (h.0.1, h.1.1)
walk_small [] from address rest h = absurd h
walk_small (a ∷ []) from address rest h = absurd h

why_small : (ws : List Text) (r : RouterId) (n : ℕ) (q : RouterId) → IsThree (λ a b c. IsRouterWord a r × IsDecimal 64 b n × IsRouterWord c q) ws
    → (r.0 < 2 ^ 32) × (n < 2 ^ 64) × (q.0 < 2 ^ 32)
why_small (a ∷ b ∷ c ∷ []) r n q h = (h.0.1, h.1.1, h.2.1)
why_small ws r n q h = absurd h

why_again : (ws : List Text) (r : RouterId) (n : ℕ) (q : Option RouterId) → IsWhy ws r n q → Again (command.Why r n q)
why_again ws r n None h =
    let small = link_small ws r n h in
    link_again (command.Why r n None) (codes "why") r n (word (codes "why") (omega arith) refl) small.1 (append-nil (codes "why " ++ number_text r.0 ++ codes " " ++ decimal n))
    (refl, (router_spelled r small.0, decimal_spelled n small.1))
why_again ws r n (Some q) h =
    let small = why_small ws r n q h in
    by_words (command.Why r n (Some q)) (codes "why" ∷ number_text r.0 ∷ decimal n ∷ number_text q.0 ∷ []) (two_given (codes "why ") (number_text r.0) (decimal n) (number_text q.0))
    (word (codes "why") (omega arith) refl, (dots r.0, (decimal_word n small.1, (dots q.0, tt))))
    (refl, (router_spelled r small.0, decimal_spelled n small.1, router_spelled q small.2))

why_headline_small : (ws : List Text) (r : RouterId) → IsWhyHeadline ws r → r.0 < 2 ^ 32
why_headline_small (a ∷ b ∷ []) r h = h.1.1
why_headline_small ws r h = absurd h

why_headline_again : (ws : List Text) (r : RouterId) → IsWhyHeadline ws r → Again (command.WhyHeadline r)
why_headline_again ws r h =
    by_words (command.WhyHeadline r) (codes "why" ∷ codes "headline" ∷ number_text r.0 ∷ []) (one (codes "why headline ") (number_text r.0))
    (word (codes "why") (omega arith) refl, (word (codes "headline") (omega arith) refl, (dots r.0, tt)))
    (refl, (refl, router_spelled r (why_headline_small ws r h)))

datagrams_small : (ws : List Text) (r : RouterId) (n : ℕ) → IsTwo (λ a b. IsRouterWord a r × IsDecimal 64 b n) ws → (r.0 < 2 ^ 32) × (n < 2 ^ 64)
datagrams_small = link_small

datagrams_again : (ws : List Text) (r : RouterId) (most : Option ℕ) → AreDatagramWords ws r most → Again (command.Datagrams r most)
datagrams_again ws r None h =
    named (command.Datagrams r None) (codes "datagrams") r.0 (word (codes "datagrams") (omega arith) refl) (append-nil (codes "datagrams " ++ number_text r.0)) (refl, router_spelled r (router_small ws r h))
datagrams_again ws r (Some most) h =
    let small = datagrams_small ws r most h in
    by_words (command.Datagrams r (Some most)) (codes "datagrams" ∷ number_text r.0 ∷ decimal most ∷ []) (one_given (codes "datagrams ") (number_text r.0) (decimal most))
    (word (codes "datagrams") (omega arith) refl, (dots r.0, (decimal_word most small.1, tt)))
    (refl, (router_spelled r small.0, decimal_spelled most small.1))

percent_spelled : (n : ℕ) → n < 101 → IsPercent (decimal n) n
percent_spelled n small = (decimal_number n (omega arith), small)

loss_small : (ws : List Text) (percent number : ℕ) → IsTwo (λ a b. IsPercent a percent × IsDecimal 64 b number) ws → (percent < 101) × (number < 2 ^ 64)
loss_small (a ∷ b ∷ []) percent number h = (h.0.1, h.1.1)
loss_small ws percent number h = absurd h

loss_there_small : (ws : List Text) (percent number : ℕ) (address : Addr) → IsThree (λ a b c. IsPercent a percent × IsDecimal 64 b number × IsAddress c address) ws
    → (percent < 101) × (number < 2 ^ 64) × (address.0 < 2 ^ 32)
loss_there_small (a ∷ b ∷ c ∷ []) percent number address h = (h.0.1, h.1.1, h.2.1)
loss_there_small ws percent number address h = absurd h

loss_again : (ws : List Text) (percent number : ℕ) (network : Option Addr) → IsLossWords ws percent number network → Again (command.Loss percent number network)
loss_again ws percent number None h =
    let small = loss_small ws percent number h in
    by_words (command.Loss percent number None) (codes "loss" ∷ decimal percent ∷ decimal number ∷ [])
    (append-nil (codes "loss " ++ decimal percent ++ codes " " ++ decimal number) ∙ two (codes "loss ") (decimal percent) (decimal number))
    (word (codes "loss") (omega arith) refl, (decimal_word percent (omega (arith, small.0)), (decimal_word number small.1, tt)))
    (refl, (percent_spelled percent small.0, decimal_spelled number small.1))
loss_again ws percent number (Some address) h =
    let small = loss_there_small ws percent number address h in
    by_words (command.Loss percent number (Some address)) (codes "loss" ∷ decimal percent ∷ decimal number ∷ number_text address.0 ∷ [])
    (two_given (codes "loss ") (decimal percent) (decimal number) (number_text address.0))
    (word (codes "loss") (omega arith) refl, (decimal_word percent (omega (arith, small.0)), (decimal_word number small.1, (dots address.0, tt))))
    (refl, (percent_spelled percent small.0, decimal_spelled number small.1, address_spelled address small.2))

-- ---- what is expected

neighbour_small : (ws : List Text) (r q : RouterId) (s : NeighbourState) → IsWanted r (wanted.Neighbour q s) ws → (r.0 < 2 ^ 32) × (q.0 < 2 ^ 32)
neighbour_small (w ∷ a ∷ b ∷ []) r q s h = (h.1.1, h.2.1)
neighbour_small (w ∷ a ∷ b ∷ c ∷ []) r q s h = (h.1.1, h.2.1)
neighbour_small ws r q s h = absurd h

elected_small : (ws : List Text) (dr : Addr) (backup : Option Addr) → AreElected ws dr backup → dr.0 < 2 ^ 32
elected_small (a ∷ []) dr None h = h.1
elected_small (a ∷ b ∷ []) dr (Some backup) h = h.0.1
elected_small ws dr backup h = absurd h

backup_small : (ws : List Text) (dr backup : Addr) → AreElected ws dr (Some backup) → backup.0 < 2 ^ 32
backup_small (a ∷ b ∷ []) dr backup h = h.1.1
backup_small ws dr backup h = absurd h

alone_small : (ws : List Text) (r : RouterId) (n : ℕ) → IsWanted r (wanted.NoNeighbour n) ws → (r.0 < 2 ^ 32) × (n < 2 ^ 64)
alone_small (v ∷ w ∷ a ∷ b ∷ []) r n h = (h.2.1, h.3.1)
alone_small ws r n h = absurd h

no_route_small : (ws : List Text) (r : RouterId) (p : Prefix) → IsWanted r (wanted.NoRoute p) ws → (r.0 < 2 ^ 32) × (p.address.0 < 2 ^ 32)
no_route_small (v ∷ w ∷ a ∷ b ∷ []) r p h = (h.2.1, h.3.address_spelled.1)
no_route_small ws r p h = absurd h

route_small : (ws : List Text) (r : RouterId) (p : Prefix) (cost : ℕ) (rest : List Text) → BeginsRoute ws r p cost rest → (r.0 < 2 ^ 32) × (p.address.0 < 2 ^ 32) × (cost < 2 ^ 64)
route_small (a ∷ b ∷ c ∷ ws) r p cost rest h = (h.0.1, h.1.address_spelled.1, h.2.1)
route_small ws r p cost rest h = absurd h

expect : IsWord (codes "expect")
expect = word (codes "expect") (omega arith) refl

-- a neighbour in a state that is not printed as `full`
in_state : (r q : RouterId) (s : NeighbourState) → r.0 < 2 ^ 32 → q.0 < 2 ^ 32 → IsWord (state_text s)
    → command_text (command.Expect (expected.Router r (wanted.Neighbour q s)))
    ≡ codes "expect neighbour " ++ number_text r.0 ++ codes " " ++ number_text q.0 ++ codes " " ++ state_text s
    → Again (command.Expect (expected.Router r (wanted.Neighbour q s)))
in_state r q s hr hq last e =
    by_words (command.Expect (expected.Router r (wanted.Neighbour q s)))
    (codes "expect" ∷ codes "neighbour" ∷ number_text r.0 ∷ number_text q.0 ∷ state_text s ∷ [])
    (e ∙ three (codes "expect neighbour ") (number_text r.0) (number_text q.0) (state_text s))
    (expect, (word (codes "neighbour") (omega arith) refl, (dots r.0, (dots q.0, (last, tt)))))
    (refl, (inl refl, router_spelled r hr, router_spelled q hq, refl))

neighbour_again : (r q : RouterId) (s : NeighbourState) → r.0 < 2 ^ 32 → q.0 < 2 ^ 32 → Again (command.Expect (expected.Router r (wanted.Neighbour q s)))
neighbour_again r q state.Full hr hq =
    by_words (command.Expect (expected.Router r (wanted.Neighbour q state.Full))) (codes "expect" ∷ codes "full" ∷ number_text r.0 ∷ number_text q.0 ∷ [])
    (two (codes "expect full ") (number_text r.0) (number_text q.0))
    (expect, (word (codes "full") (omega arith) refl, (dots r.0, (dots q.0, tt))))
    (refl, (refl, router_spelled r hr, router_spelled q hq, refl))
neighbour_again r q state.Down hr hq = in_state r q state.Down hr hq (word (codes "Down") (omega arith) refl) refl
neighbour_again r q state.Init hr hq = in_state r q state.Init hr hq (word (codes "Init") (omega arith) refl) refl
neighbour_again r q state.TwoWay hr hq = in_state r q state.TwoWay hr hq (word (codes "2-Way") (omega arith) refl) refl
neighbour_again r q state.ExStart hr hq = in_state r q state.ExStart hr hq (word (codes "ExStart") (omega arith) refl) refl
neighbour_again r q state.Exchange hr hq = in_state r q state.Exchange hr hq (word (codes "Exchange") (omega arith) refl) refl
neighbour_again r q state.Loading hr hq = in_state r q state.Loading hr hq (word (codes "Loading") (omega arith) refl) refl

dr_again : (r : RouterId) (n : ℕ) (ws : List Text) (dr : Addr) (backup : Option Addr) → r.0 < 2 ^ 32 → n < 2 ^ 64 → AreElected ws dr backup
    → Again (command.Expect (expected.Router r (wanted.Dr n dr backup)))
dr_again r n ws dr None hr hn h =
    by_words (command.Expect (expected.Router r (wanted.Dr n dr None))) (codes "expect" ∷ codes "dr" ∷ number_text r.0 ∷ decimal n ∷ number_text dr.0 ∷ [])
    (append-nil (codes "expect dr " ++ number_text r.0 ++ codes " " ++ decimal n ++ codes " " ++ number_text dr.0)
    ∙ three (codes "expect dr ") (number_text r.0) (decimal n) (number_text dr.0))
    (expect, (word (codes "dr") (omega arith) refl, (dots r.0, (decimal_word n hn, (dots dr.0, tt)))))
    (refl, (refl, router_spelled r hr, decimal_spelled n hn, address_spelled dr (elected_small ws dr None h)))
dr_again r n ws dr (Some backup) hr hn h =
    by_words (command.Expect (expected.Router r (wanted.Dr n dr (Some backup))))
    (codes "expect" ∷ codes "dr" ∷ number_text r.0 ∷ decimal n ∷ number_text dr.0 ∷ number_text backup.0 ∷ [])
    (tail3 (codes "expect dr ") (number_text r.0) (decimal n) (number_text dr.0) (32 ∷ number_text backup.0)
    ∙ ap (λ (l : Text). codes "expect dr " ++ (number_text r.0 ++ 32 ∷ (decimal n ++ 32 ∷ (number_text dr.0 ++ 32 ∷ l)))) (sym (append-nil (number_text backup.0))))
    (expect, (word (codes "dr") (omega arith) refl, (dots r.0, (decimal_word n hn, (dots dr.0, (dots backup.0, tt))))))
    (refl, (refl, router_spelled r hr, decimal_spelled n hn, (address_spelled dr (elected_small ws dr (Some backup) h), address_spelled backup (backup_small ws dr backup h))))

wanted_again : (ws : List Text) (r : RouterId) (w : Wanted) → IsWanted r w ws → Again (command.Expect (expected.Router r w))
wanted_again ws r (wanted.Neighbour q s) h = let small = neighbour_small ws r q s h in neighbour_again r q s small.0 small.1
wanted_again (w ∷ a ∷ b ∷ ws) r (wanted.Dr n dr backup) h = dr_again r n ws dr backup h.1.1 h.2.1 h.3
wanted_again ws r (wanted.Dr n dr backup) h = absurd h
wanted_again ws r (wanted.NoNeighbour n) h =
    let small = alone_small ws r n h in
    by_words (command.Expect (expected.Router r (wanted.NoNeighbour n))) (codes "expect" ∷ codes "no" ∷ codes "neighbour" ∷ number_text r.0 ∷ decimal n ∷ [])
    (two (codes "expect no neighbour ") (number_text r.0) (decimal n))
    (expect, (word (codes "no") (omega arith) refl, (word (codes "neighbour") (omega arith) refl, (dots r.0, (decimal_word n small.1, tt)))))
    (refl, (refl, inl refl, router_spelled r small.0, decimal_spelled n small.1))
wanted_again (w ∷ ws) r (wanted.Route p cost hops) h =
    let small = route_small ws r p cost h.1 h.2 in
    let all = hops_spelled h.1 hops.items h.3 in
    by_words (command.Expect (expected.Router r (wanted.Route p cost hops)))
    (codes "expect" ∷ codes "route" ∷ number_text r.0 ∷ prefix_text p ∷ decimal cost ∷ map hop_text hops.items)
    (tail3 (codes "expect route ") (number_text r.0) (prefix_text p) (decimal cost) (spaced_hops_text hops.items)
    ∙ ap (λ (l : Text). codes "expect route " ++ (number_text r.0 ++ 32 ∷ (prefix_text p ++ 32 ∷ (decimal cost ++ l)))) (spaced-map hop_text hops.items))
    (expect, (word (codes "route") (omega arith) refl, (dots r.0, (prefix_word p, (decimal_word cost small.2, all.1)))))
    (refl, (refl, map hop_text hops.items, (router_spelled r small.0, prefix_spelled p small.1, decimal_spelled cost small.2, refl), all.0))
wanted_again [] r (wanted.Route p cost hops) h = absurd h
wanted_again ws r (wanted.NoRoute p) h =
    let small = no_route_small ws r p h in
    by_words (command.Expect (expected.Router r (wanted.NoRoute p))) (codes "expect" ∷ codes "no" ∷ codes "route" ∷ number_text r.0 ∷ prefix_text p ∷ [])
    (two (codes "expect no route ") (number_text r.0) (prefix_text p))
    (expect, (word (codes "no") (omega arith) refl, (word (codes "route") (omega arith) refl, (dots r.0, (prefix_word p, tt)))))
    (refl, (refl, refl, router_spelled r small.0, prefix_spelled p small.1))

arrival_small : (ws : List Text) (cost : ℕ) → SpellsArrival ws (Some cost) → cost < 2 ^ 64
arrival_small (a ∷ b ∷ []) cost h = h.1.1
arrival_small ws cost h = absurd h

arrival_again : (from : RouterId) (address : Addr) (ws : List Text) (cost : Option ℕ) → from.0 < 2 ^ 32 → address.0 < 2 ^ 32 → SpellsArrival ws cost
    → Again (command.Expect (expected.Walk from address cost))
arrival_again from address ws None hf ha h =
    by_words (command.Expect (expected.Walk from address None)) (codes "expect" ∷ codes "walk" ∷ number_text from.0 ∷ number_text address.0 ∷ codes "arrived" ∷ [])
    (append-nil (codes "expect walk " ++ number_text from.0 ++ codes " " ++ number_text address.0 ++ codes " arrived")
    ∙ tail2 (codes "expect walk ") (number_text from.0) (number_text address.0) (codes " arrived"))
    (expect, (word (codes "walk") (omega arith) refl, (dots from.0, (dots address.0, (word (codes "arrived") (omega arith) refl, tt)))))
    (refl, (refl, router_spelled from hf, address_spelled address ha, refl))
arrival_again from address ws (Some cost) hf ha h =
    let small = arrival_small ws cost h in
    by_words (command.Expect (expected.Walk from address (Some cost)))
    (codes "expect" ∷ codes "walk" ∷ number_text from.0 ∷ number_text address.0 ∷ codes "arrived" ∷ decimal cost ∷ [])
    (append_assoc (codes "expect walk " ++ number_text from.0 ++ codes " " ++ number_text address.0) (codes " arrived") (32 ∷ decimal cost)
    ∙ tail2 (codes "expect walk ") (number_text from.0) (number_text address.0) (codes " arrived" ++ 32 ∷ decimal cost)
    ∙ ap (λ (l : Text). codes "expect walk " ++ (number_text from.0 ++ 32 ∷ (number_text address.0 ++ (codes " arrived" ++ 32 ∷ l)))) (sym (append-nil (decimal cost))))
    (expect, (word (codes "walk") (omega arith) refl, (dots from.0, (dots address.0, (word (codes "arrived") (omega arith) refl, (decimal_word cost small, tt))))))
    (refl, (refl, router_spelled from hf, address_spelled address ha, (refl, decimal_spelled cost small)))

headline_small : (ws : List Text) (r : RouterId) → IsExpected ws (expected.Headline (Some r)) → r.0 < 2 ^ 32
headline_small (w ∷ a ∷ []) r h = h.1.1
headline_small ws r h = absurd h

headline_again : (ws : List Text) (r : Option RouterId) → IsExpected ws (expected.Headline r) → Again (command.Expect (expected.Headline r))
headline_again ws None h = (refl, refl)
headline_again ws (Some r) h =
    by_words (command.Expect (expected.Headline (Some r))) (codes "expect" ∷ codes "headline" ∷ number_text r.0 ∷ []) (one (codes "expect headline ") (number_text r.0))
    (expect, (word (codes "headline") (omega arith) refl, (dots r.0, tt)))
    (refl, (refl, router_spelled r (headline_small ws r h)))

expected_again : (ws : List Text) (e : Expected) → IsExpected ws e → Again (command.Expect e)
expected_again ws (expected.Router r w) h = wanted_again ws r w h
expected_again (w ∷ a ∷ b ∷ ws) (expected.Walk from address cost) h = arrival_again from address ws cost h.1.1 h.2.1 h.3
expected_again ws (expected.Walk from address cost) h = absurd h
expected_again ws expected.Agree h = (refl, refl)
expected_again ws (expected.Headline r) h = headline_again ws r h
expected_again ws expected.Settled h = (refl, refl)

-- ---- all commands

label_again : (is_on : Bool) → Again (command.Label is_on)
label_again true = (refl, refl)
label_again false = (refl, refl)

again : (ws : List Text) (c : Command) → AreWords ws → TakesWords c ws → Again c
again ws (command.Event e) all h = event_again ws e h
again ws (command.Many m) all h = many_again ws m h
again ws (command.Round count most) all h = round_again ws count most h
again ws (command.Batch count) all h =
    counted (command.Batch count) (codes "batch") count (word (codes "batch") (omega arith) refl) (count_small ws count h) refl (refl, decimal_spelled count (count_small ws count h))
again ws (command.Random number count) all h = random_again ws number count h
again ws (command.Settle most) all h =
    counted (command.Settle most) (codes "settle") most (word (codes "settle") (omega arith) refl) (count_small ws most h) refl (refl, decimal_spelled most (count_small ws most h))
again ws (command.Show v r) all h = show_again ws v r h
again ws (command.Walk from address choices) all h =
    let small = walk_small ws from address h.0 h.1 in
    let chosen = choices_spelled h.0 choices.items h.2 in
    by_words (command.Walk from address choices) (codes "walk" ∷ number_text from.0 ∷ number_text address.0 ∷ map decimal choices.items)
    (tail2 (codes "walk ") (number_text from.0) (number_text address.0) (choices_text choices.items)
    ∙ ap (λ (l : Text). codes "walk " ++ (number_text from.0 ++ 32 ∷ (number_text address.0 ++ l))) (spaced-map decimal choices.items))
    (word (codes "walk") (omega arith) refl, (dots from.0, (dots address.0, chosen.1)))
    (refl, (map decimal choices.items, (router_spelled from small.0, address_spelled address small.1, refl), chosen.0))
again [] (command.Say text) all h =
    subst (λ (l : Text). SpellsCommand (line_words l) (command.Say text)) (sym (ap (λ (l : Text). codes "say " ++ l) h)) (refl, h)
again (w ∷ ws) (command.Say text) all h =
    by_words (command.Say text) (codes "say" ∷ w ∷ ws) (ap (λ (l : Text). codes "say " ++ l) h) (word (codes "say") (omega arith) refl, all) (refl, h)
again ws (command.Why r n q) all h = why_again ws r n q h
again ws (command.WhyHeadline r) all h = why_headline_again ws r h
again ws (command.Datagrams r most) all h = datagrams_again ws r most h
again ws (command.Drops r) all h =
    named (command.Drops r) (codes "drops") r.0 (word (codes "drops") (omega arith) refl) refl (refl, router_spelled r (router_small ws r h))
again ws (command.Lsas r) all h =
    named (command.Lsas r) (codes "lsas") r.0 (word (codes "lsas") (omega arith) refl) refl (refl, router_spelled r (router_small ws r h))
again ws (command.Loss percent number network) all h = loss_again ws percent number network h
again ws (command.Expect e) all h = expected_again ws e h
again ws (command.Label is_on) all h = label_again is_on

spelled_again : (ws : List Text) (c : Command) → AreWords ws → SpellsCommand ws c → Again c
spelled_again [] c all s = absurd s
spelled_again (w ∷ ws) c all s = again ws c all.1 s.1

pub printed_is_spelled : PrintedIsSpelled
printed_is_spelled line c s = spelled_again (line_words line) c (words_of_line line) s
