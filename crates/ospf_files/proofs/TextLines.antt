-- The lines of a text, taken off one by one.
use Rattle.std.proofs.Common.{◌≡◌, ◌≢◌, ◌==◌, ◌<◌, ◌+◌, ◌-◌, ◌≤◌, ℕ, Bool, true, false, not, if◌then◌else◌, List, [], ◌∷◌, ◌++◌, length, take, drop, get_or, refl, sym, ap, subst, ◌∙◌, arith, length-append, length-drop, length-take}
use Rattle.std.specs.List.{All, slice_index, slice_split, position_or_len}
use Rattle.std.specs.Str.Lines.{lines_of_parts, strip_carriage_return}
use Rattle.std.proofs.lemmas.Bool.{eqb-false, eqb-true, ne_eqb, not-false}
use Rattle.std.proofs.lemmas.Bool.Decides.{nat_tests}
use Rattle.std.proofs.lemmas.List.{append_assoc, drop-drop, get_or-take, nil_from_length, take_all, take_more}
use Rattle.std.proofs.lemmas.List.Elements.{All-take}
use Rattle.std.proofs.Math.Seq.{get_or-append_seam}
use Rattle.std.proofs.lemmas.List.Splits.{length-slice_split, slice_split_first, slice_split_none}
use Rattle.std.proofs.lemmas.List.Sums.{fails_before_first, prefix_len-le-length, prefix_len_stops, split_at_first}
use Rattle.ospf_files.specs.Lines.{BeginsWithLine, with_feed, with_return, with_text, HasNoFeed, lines_of}

abbrev pub is_end : ℕ → Bool
is_end byte = byte == 10

pub end-le : (text : List ℕ) → position_or_len is_end text ≤ length text
end-le text = prefix_len-le-length (λ b. not (is_end b)) text

nat_some : (n : ℕ) → (n == 0) ≡ false → 0 < n
nat_some n h = grind (arith, nat_tests)

-- a text without a line feed is one line
pub lines-whole : (text : List ℕ) → 0 < length text → length text ≤ position_or_len is_end text → lines_of text ≡ text ∷ []
lines-whole text some ends =
    let none : All (λ b. is_end b ≡ false) text = λ k d l. fails_before_first is_end text k d (omega arith) in
    ap lines_of_parts (slice_split_none is_end text none) ∙ ap (λ (e : Bool). if e then [] else text ∷ []) (ne_eqb (length text) 0 (λ z. omega arith))

first_part : (part : List ℕ) (parts : List (List ℕ)) → 0 < length parts → lines_of_parts (part ∷ parts) ≡ strip_carriage_return part ∷ lines_of_parts parts
first_part part [] some = absurd (omega arith)
first_part part (next ∷ more) some = refl

-- else its first line stands before the first line feed
pub lines-first : (text : List ℕ) → position_or_len is_end text < length text
    → lines_of text ≡ strip_carriage_return (take (position_or_len is_end text) text) ∷ lines_of (drop (position_or_len is_end text + 1) text)
lines-first text l =
    let n : ℕ = position_or_len is_end text in
    ap lines_of_parts (slice_split_first is_end text 0 l) ∙ first_part (take n text) (slice_split is_end (drop (n + 1) text)) (omega (arith, length-slice_split is_end (drop (n + 1) text)))

-- ---- as they are cut

pub whole_line : (text rest : List ℕ) (n : ℕ) → 0 < length text → n ≡ position_or_len is_end text → rest ≡ drop n text → length rest < 1 → lines_of text ≡ text ∷ lines_of rest
whole_line text rest n some is behind short =
    let long : length (drop n text) < 1 = rw behind at short in
    let ends : length text ≤ position_or_len is_end text = omega (arith, length-drop n text, is, long) in
    let nothing : rest ≡ [] = nil_from_length rest (omega arith) in
    lines-whole text some ends ∙ ap (λ (t : List ℕ). text ∷ lines_of t) (sym nothing)

-- a text that is not told to be empty is none that is
pub not_empty : (text : List ℕ) (told : Bool) → told ≡ (length text == 0) → told ≡ false → 0 < length text
not_empty text told is not_told = nat_some (length text) (sym is ∙ not_told)

pub cut_line : (text line rest : List ℕ) (n : ℕ) → n ≡ position_or_len is_end text → rest ≡ drop n text → 1 ≤ length rest → line ≡ strip_carriage_return (take n text)
    → lines_of text ≡ line ∷ lines_of (take (length rest - 1) (drop 1 rest))
cut_line text line rest n is behind long line_is =
    let here : 1 ≤ length (drop n text) = rw behind at long in
    let inside : position_or_len is_end text < length text = omega (arith, length-drop n text, is, here) in
    let all : take (length rest - 1) (drop 1 rest) ≡ drop 1 rest = take_all (length rest - 1) (drop 1 rest) (omega (arith, length-drop 1 rest)) in
    let one : drop 1 rest ≡ drop (n + 1) text = rw behind (drop-drop 1 n text) in
    rw (line_is, all, one, is) (lines-first text inside)

-- ---- how they end

-- no line feed stands before the first
pub before_feed : (text : List ℕ) (n : ℕ) → n ≤ position_or_len is_end text → HasNoFeed (take n text)
before_feed text n early = λ k d l is.
    let within : k < n = omega (arith, length-take n text, l) in
    let same : get_or (take n text) k d ≡ get_or text k d = get_or-take n text k d within in
    let no : is_end (get_or text k d) ≡ false = fails_before_first is_end text k d (omega (arith, within, early)) in
    absurd (eqb-false (get_or text k d) 10 no (sym same ∙ is))

-- a text is what stands before its first line feed, that, and what stands behind it
pub around_feed : (text : List ℕ) → position_or_len is_end text < length text
    → text ≡ take (position_or_len is_end text) text ++ 10 ∷ drop (position_or_len is_end text + 1) text
around_feed text l =
    let n : ℕ = position_or_len is_end text in
    let feed : get_or text n 0 ≡ 10 = eqb-true (get_or text n 0) 10 (not-false _ (prefix_len_stops (λ b. not (is_end b)) text 0 l)) in
    split_at_first is_end text 0 l ∙ ap (λ (b : ℕ). take n text ++ b ∷ drop (n + 1) text) feed

-- what ends with a carriage return has one at its end
ends_in_return : (front : List ℕ) → slice_index (front ++ 13 ∷ []) (length (front ++ 13 ∷ []) - 1) ≡ 13
ends_in_return front =
    let last : length (front ++ 13 ∷ []) - 1 ≡ length front = omega (arith, length-append front (13 ∷ [])) in
    ap (λ (i : ℕ). slice_index (front ++ 13 ∷ []) i) last ∙ get_or-append_seam front 13 [] 0

returned : (full : List ℕ) → slice_index full (length full - 1) ≡ 13 → full ≡ take (length full - 1) full ++ 13 ∷ []
returned [] is = absurd (omega (arith, is))
returned (b ∷ bs) is =
    let full : List ℕ = b ∷ bs in
    let last : length full - 1 < length full = omega arith in
    let whole : length full ≤ (length full - 1) + 1 = omega arith in
    sym (take_all ((length full - 1) + 1) full whole) ∙ take_more full (length full - 1) 0 last ∙ ap (λ (x : ℕ). take (length full - 1) full ++ x ∷ []) is

stripped_by : (text full rest : List ℕ) (told : Bool) → (slice_index full (length full - 1) == 13) ≡ told → HasNoFeed full → text ≡ full ++ 10 ∷ rest
    → BeginsWithLine text (if told then take (length full - 1) full else full) rest
stripped_by text full rest true is no_feed text_is =
    let end = returned full (eqb-true _ 13 is) in
    with_return (All-take (λ byte. byte ≢ 10) (length full - 1) full no_feed)
    (text_is ∙ ap (λ (l : List ℕ). l ++ 10 ∷ rest) end ∙ append_assoc (take (length full - 1) full) (13 ∷ []) (10 ∷ rest))
stripped_by text full rest false is no_feed text_is =
    with_feed no_feed (λ front ends.
    let here : slice_index full (length full - 1) ≡ 13 = subst (λ (l : List ℕ). slice_index l (length l - 1) ≡ 13) (sym ends) (ends_in_return front) in
    absurd (eqb-false _ 13 is here))
    text_is

-- what stands before a line feed, less a carriage return at its end, is the line that it ends
pub stripped : (text full rest : List ℕ) → HasNoFeed full → text ≡ full ++ 10 ∷ rest → BeginsWithLine text (strip_carriage_return full) rest
stripped text full rest no_feed text_is = stripped_by text full rest (slice_index full (length full - 1) == 13) refl no_feed text_is

pub whole_cut : (text rest : List ℕ) (n : ℕ) → n ≡ position_or_len is_end text → rest ≡ drop n text → length rest < 1 → BeginsWithLine text text rest
whole_cut text rest n is behind short =
    let long : length (drop n text) < 1 = rw behind at short in
    let ends : length text ≤ n = omega (arith, length-drop n text, long) in
    with_text (subst HasNoFeed (take_all n text ends) (before_feed text n (omega (arith, is)))) refl (nil_from_length rest (omega arith))

pub cut_cut : (text line rest : List ℕ) (n : ℕ) → n ≡ position_or_len is_end text → rest ≡ drop n text → 1 ≤ length rest → line ≡ strip_carriage_return (take n text)
    → BeginsWithLine text line (take (length rest - 1) (drop 1 rest))
cut_cut text line rest n is behind long line_is =
    let here : 1 ≤ length (drop n text) = rw behind at long in
    let inside : position_or_len is_end text < length text = omega (arith, length-drop n text, is, here) in
    let all : take (length rest - 1) (drop 1 rest) ≡ drop 1 rest = take_all (length rest - 1) (drop 1 rest) (omega (arith, length-drop 1 rest)) in
    let one : drop 1 rest ≡ drop (n + 1) text = rw behind (drop-drop 1 n text) in
    rw (line_is, all, one, is) (stripped text (take (position_or_len is_end text) text) (drop (position_or_len is_end text + 1) text) (before_feed text (position_or_len is_end text) (omega arith)) (around_feed text inside))
