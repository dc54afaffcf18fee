-- The lines of a text that is read piece by piece, each up to a line feed or to the end.
use Rattle.std.proofs.Common.{◌≡◌, ◌≢◌, inl, inr, ◌==◌, nat_lt, ◌∙◌, ap, sym, subst, refl, arith, ◌+◌, ◌-◌, ◌<◌, ℕ, suc, Bool, true, false, if◌then◌else◌, Option, None, Some, IfSome, List, [], ◌∷◌, ◌++◌, length, take, get_or, map, append-nil, append_assoc, length-append}
use Rattle.std.specs.Io.{StopsAt}
use Rattle.std.specs.Io.BufRead.{take_through, ends_with_byte}
use Rattle.std.specs.List.{All, slice_split, enumerate_from, onto_first}
use Rattle.std.specs.Str.Lines.{lines, lines_of_parts, strip_carriage_return}
use Rattle.std.proofs.lemmas.Bool.{and_from, and_parts, eq-eqb, eqb-true, ne_eqb}
use Rattle.std.proofs.lemmas.Bool.Decides.{nat_tests}
use Rattle.std.proofs.lemmas.List.{length-map, map-append, take_all, take_more}
use Rattle.std.proofs.lemmas.List.Elements.{All-append}
use Rattle.std.proofs.lemmas.List.FromFn.{length-enumerate_from}
use Rattle.std.proofs.lemmas.List.Splits.{length-slice_split, slice_split_at, slice_split_none, slice_split-cons_yes, slice_split-cons_no}
use Rattle.ospf_files.proofs.TextLines.{is_end}
use Rattle.ospf_files.specs.Lines.{numbered_line, numbered_from, uncommented}
use Rattle.ospf_script.specs.Words.{Text}
use Rattle.ospf_sim.specs.Consoles.{AreWholeLines}
use Rattle.ospf_files.specs.declared.line.Line.{Line}

-- ---- lines of two texts

onto_append : (byte : ℕ) (parts more : List (List ℕ)) → 0 < length parts → onto_first byte (parts ++ more) ≡ onto_first byte parts ++ more
onto_append byte [] more some = absurd (omega arith)
onto_append byte (part ∷ parts) more some = refl

split_byte : (byte : ℕ) (front rest : List ℕ) (is : Bool) → is_end byte ≡ is → slice_split is_end (front ++ 10 ∷ rest) ≡ slice_split is_end front ++ slice_split is_end rest
    → slice_split is_end (byte ∷ front ++ 10 ∷ rest) ≡ slice_split is_end (byte ∷ front) ++ slice_split is_end rest
split_byte byte front rest true is same =
    slice_split-cons_yes is_end byte (front ++ 10 ∷ rest) is ∙ ap (λ parts. [] ∷ parts) same
    ∙ ap (λ parts. parts ++ slice_split is_end rest) (sym (slice_split-cons_yes is_end byte front is))
split_byte byte front rest false is same =
    let some : 0 < length (slice_split is_end front) = omega (arith, length-slice_split is_end front) in
    slice_split-cons_no is_end byte (front ++ 10 ∷ rest) is ∙ ap (onto_first byte) same
    ∙ onto_append byte (slice_split is_end front) (slice_split is_end rest) some
    ∙ ap (λ parts. parts ++ slice_split is_end rest) (sym (slice_split-cons_no is_end byte front is))

split_append : (front rest : List ℕ) → slice_split is_end (front ++ 10 ∷ rest) ≡ slice_split is_end front ++ slice_split is_end rest
split_append [] rest = slice_split-cons_yes is_end 10 rest refl
split_append (byte ∷ front) rest = split_byte byte front rest (is_end byte) refl (split_append front rest)

first_part : (part : List ℕ) (parts : List (List ℕ)) → 0 < length parts → lines_of_parts (part ∷ parts) ≡ strip_carriage_return part ∷ lines_of_parts parts
first_part part [] some = absurd (omega arith)
first_part part (next ∷ more) some = refl

parts_append : (parts more : List (List ℕ)) → 0 < length more → lines_of_parts (parts ++ more) ≡ map strip_carriage_return parts ++ lines_of_parts more
parts_append [] more some = refl
parts_append (part ∷ parts) more some =
    first_part part (parts ++ more) (omega (arith, length-append parts more)) ∙ ap (λ ls. strip_carriage_return part ∷ ls) (parts_append parts more some)

lines_append : (front rest : List ℕ) → lines (front ++ 10 ∷ rest) ≡ lines (front ++ 10 ∷ []) ++ lines rest
lines_append front rest =
    let some : 0 < length (slice_split is_end rest) = omega (arith, length-slice_split is_end rest) in
    let whole : lines (front ++ 10 ∷ rest) ≡ map strip_carriage_return (slice_split is_end front) ++ lines rest =
    ap lines_of_parts (split_append front rest) ∙ parts_append (slice_split is_end front) (slice_split is_end rest) some in
    let first : lines (front ++ 10 ∷ []) ≡ map strip_carriage_return (slice_split is_end front) ++ [] =
    ap lines_of_parts (split_append front []) ∙ parts_append (slice_split is_end front) ([] ∷ []) (omega arith) in
    whole ∙ ap (λ ls. ls ++ lines rest) (sym (first ∙ append-nil (map strip_carriage_return (slice_split is_end front))))

pub enumerate_append : {X : Type 0} (n : ℕ) (xs ys : List X) → enumerate_from n (xs ++ ys) ≡ enumerate_from n xs ++ enumerate_from (n + length xs) ys
enumerate_append n [] ys = let here : n ≡ n + 0 = omega arith in ap (λ m. enumerate_from m ys) here
enumerate_append n (x ∷ xs) ys =
    let there : n + 1 + length xs ≡ n + length (x ∷ xs) = omega arith in
    ap (λ l. (n, x) ∷ l) (enumerate_append (n + 1) xs ys ∙ ap (λ m. enumerate_from (n + 1) xs ++ enumerate_from m ys) there)

-- the lines of a closed text, and those of what stands behind it
pub closed_append : (text rest : List ℕ) → AreWholeLines text → lines (text ++ rest) ≡ lines text ++ lines rest
closed_append text rest (inl nothing) = rw nothing refl
closed_append text rest (inr ends) = rw (ends.1, append_assoc ends.0 (10 ∷ []) rest) (lines_append ends.0 rest)

-- ---- one piece

none_end : (front : List ℕ) → All (λ b. b ≢ 10) front → All (λ b. is_end b ≡ false) front
none_end front none = λ k d l. ne_eqb (get_or front k d) 10 (none k d l)

some_line : (line : List ℕ) → 0 < length line → length (lines_of_parts (line ∷ [])) ≡ 1
some_line [] some = absurd (omega arith)
some_line (byte ∷ line) some = ap (λ (e : Bool). length (if e then [] else (byte ∷ line) ∷ [])) (ne_eqb (length (byte ∷ line)) 0 (λ z. omega arith))

line_by : (front : List ℕ) (last : ℕ) (is : Bool) → is_end last ≡ is → All (λ b. is_end b ≡ false) front → length (lines (front ++ last ∷ [])) ≡ 1
line_by front last true is none = ap (λ parts. length (lines_of_parts parts)) (slice_split_at is_end front last [] none is)
line_by front last false is none =
    let all : All (λ b. is_end b ≡ false) (front ++ last ∷ []) = All-append (λ b. is_end b ≡ false) front (last ∷ []) none (λ k d l. let first : k ≡ 0 = omega arith in rw first is) in
    ap (λ parts. length (lines_of_parts parts)) (slice_split_none is_end (front ++ last ∷ []) all) ∙ some_line (front ++ last ∷ []) (omega (arith, length-append front (last ∷ [])))

front_last : (text : List ℕ) → 0 < length text → text ≡ take (length text - 1) text ++ get_or text (length text - 1) 0 ∷ []
front_last text some =
    let here : length text - 1 < length text = omega arith in
    let all : take (length text - 1 + 1) text ≡ text = take_all (length text - 1 + 1) text (omega arith) in
    sym all ∙ take_more text (length text - 1) 0 here

-- a text with no line feed but at its end is one line
pub one_line : (text : List ℕ) → 0 < length text → StopsAt text 10 → length (lines text) ≡ 1
one_line text some stops =
    ap (λ t. length (lines t)) (front_last text some)
    ∙ line_by (take (length text - 1) text) (get_or text (length text - 1) 0) (is_end (get_or text (length text - 1) 0)) refl (none_end (take (length text - 1) text) stops)

-- ---- what is read

not_empty : (text : List ℕ) → 0 < length text → nat_lt 0 (length text) ≡ true
not_empty text some = grind (arith, nat_tests)

is_ended : (text : List ℕ) → 0 < length text → get_or text (length text - 1) 0 ≡ 10 → ends_with_byte 10 text ≡ true
is_ended text some last = and_from _ _ (not_empty text some) (eq-eqb (get_or text (length text - 1) 0) 10 last)

-- of a text that is ended
ended_parts : (text : List ℕ) → ends_with_byte 10 text ≡ true → (0 < length text) × (get_or text (length text - 1) 0 ≡ 10)
ended_parts text ends =
    let parts = and_parts (nat_lt 0 (length text)) (get_or text (length text - 1) 0 == 10) ends in
    let test : nat_lt 0 (length text) ≡ true = parts.0 in
    let some : 0 < length text = grind (arith, nat_tests) in
    (some, eqb-true (get_or text (length text - 1) 0) 10 parts.1)

ends_later : (byte : ℕ) (text : List ℕ) (is : Bool) → ends_with_byte 10 text ≡ is → ends_with_byte 10 (byte ∷ text) ≡ false → is ≡ false
ends_later byte text false is unended = refl
ends_later byte text true is unended =
    let parts = ended_parts text is in
    let some : 0 < length text = parts.0 in
    let there : length (byte ∷ text) - 1 ≡ suc (length text - 1) = omega arith in
    let last : get_or (byte ∷ text) (length (byte ∷ text) - 1) 0 ≡ 10 = ap (λ k. get_or (byte ∷ text) k 0) there ∙ parts.1 in
    absurd (cc (is_ended (byte ∷ text) (omega arith) last, unended))

ends_more : (byte : ℕ) (text : List ℕ) → ends_with_byte 10 (byte ∷ text) ≡ false → ends_with_byte 10 text ≡ false
ends_more byte text unended = ends_later byte text (ends_with_byte 10 text) refl unended

through_byte : (byte : ℕ) (bytes : List ℕ) (is : Bool) → is_end byte ≡ is → (ends_with_byte 10 (take_through 10 bytes) ≡ false → take_through 10 bytes ≡ bytes)
    → ends_with_byte 10 (if is then byte ∷ [] else byte ∷ take_through 10 bytes) ≡ false → (if is then byte ∷ [] else byte ∷ take_through 10 bytes) ≡ byte ∷ bytes
through_byte byte bytes true is rest unended = absurd (cc (is, unended))
through_byte byte bytes false is rest unended = ap (λ l. byte ∷ l) (rest (ends_more byte (take_through 10 bytes) unended))

-- what is taken up to a line feed ends with it, or all was taken
pub taken_through : (bytes : List ℕ) → ends_with_byte 10 (take_through 10 bytes) ≡ false → take_through 10 bytes ≡ bytes
taken_through [] unended = refl
taken_through (byte ∷ bytes) unended = through_byte byte bytes (is_end byte) refl (taken_through bytes) unended

-- where it does not end with a line feed, it was all that was left
pub all_taken : (left : Option (List ℕ)) (piece : Text) → IfSome left (λ bytes. piece ≡ take_through 10 bytes) → ends_with_byte 10 piece ≡ false → IfSome left (λ bytes. bytes ≡ piece)
all_taken None piece taken unended = tt
all_taken (Some bytes) piece taken unended = sym (taken ∙ taken_through bytes (subst (λ (t : Text). ends_with_byte 10 t ≡ false) taken unended))

-- what a line feed ends is closed
pub ends_closed : (text : List ℕ) → ends_with_byte 10 text ≡ true → AreWholeLines text
ends_closed text ends =
    let parts = ended_parts text ends in
    inr (take (length text - 1) text, front_last text parts.0 ∙ ap (λ byte. take (length text - 1) text ++ byte ∷ []) parts.1)

-- ---- numbered lines

-- one line more behind a closed text
pub numbered_more : (text piece : Text) (number : ℕ) (line : Text) → AreWholeLines text → number ≡ 1 + length (lines text) → numbered_from number piece ≡ (number, line) ∷ []
    → numbered_from 1 (text ++ piece) ≡ numbered_from 1 text ++ (number, line) ∷ []
numbered_more text piece number line closed count one =
    let there : 1 + length (map uncommented (lines text)) ≡ number = omega (arith, length-map (lines text) uncommented, count) in
    ap (λ ls. enumerate_from 1 (map uncommented ls)) (closed_append text piece closed)
    ∙ ap (enumerate_from 1) (map-append uncommented (lines text) (lines piece))
    ∙ enumerate_append 1 (map uncommented (lines text)) (map uncommented (lines piece))
    ∙ ap (λ n. numbered_from 1 text ++ numbered_from n piece) there
    ∙ ap (λ l. numbered_from 1 text ++ l) one

one_entry : (number : ℕ) (texts : List Text) (found : List Line) (d : Line) → length texts ≡ 1 → map numbered_line found ≡ enumerate_from 1 texts
    → enumerate_from number texts ≡ (number, (get_or found 0 d).text.now) ∷ []
one_entry number [] found d one same = absurd (omega arith)
one_entry number (text ∷ next ∷ more) found d one same = absurd (omega arith)
one_entry number (text ∷ []) [] d one same = absurd (cc same)
one_entry number (text ∷ []) (line ∷ rest) d one same =
    let entry : numbered_line line ≡ (1, text) = cc same in
    ap (λ (p : ℕ × Text). (number, p.1) ∷ []) (sym entry)

-- the one line of a piece, of whatever number
pub numbered_one : (number : ℕ) (piece : Text) (found : List Line) (line : Line) → 0 < length piece → StopsAt piece 10 → map numbered_line found ≡ numbered_from 1 piece
    → line ≡ get_or found 0 line → numbered_from number piece ≡ (number, line.text.now) ∷ []
numbered_one number piece found line some stops same at =
    let one : length (map uncommented (lines piece)) ≡ 1 = length-map (lines piece) uncommented ∙ one_line piece some stops in
    one_entry number (map uncommented (lines piece)) found line one same ∙ ap (λ (l : Line). (number, l.text.now) ∷ []) (sym at)

-- a piece has a line
pub some_lines : (piece : Text) (found : List Line) → 0 < length piece → StopsAt piece 10 → map numbered_line found ≡ numbered_from 1 piece → 0 < length found
some_lines piece found some stops same =
    let as_many : length (map numbered_line found) ≡ length (numbered_from 1 piece) = ap length same in
    omega (arith, length-map found numbered_line, as_many, length-enumerate_from 1 (map uncommented (lines piece)), length-map (lines piece) uncommented, one_line piece some stops)
