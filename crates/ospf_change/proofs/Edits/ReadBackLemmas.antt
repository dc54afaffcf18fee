-- Listings that are written as lines are read again.
use Rattle.std.proofs.Common.{◌≡◌, ◌≢◌, ◌⊎◌, inl, inr, ◌==◌, nat_lt, nat_le, ◌<◌, ◌≤◌, ◌+◌, ◌-◌, ◌++◌, ◌∷◌, ℕ, zero, suc, Bool, true, false, List, [], length, take, get_or, Ok, Result, IsErr, min, cond, refl, sym, ap, subst, ◌∙◌, arith, append_assoc, append-nil, length-append}
use Rattle.std.specs.Io.BufRead.{take_through, drop_through, ends_with_byte, strip_last}
use Rattle.std.specs.List.{All, AllByRecursion, Contains}
use Rattle.std.proofs.BufReadLemmas.{take_through-append, drop_through-append}
use Rattle.std.proofs.Math.Seq.{take-append_seam}
use Rattle.std.proofs.lemmas.Bool.{and_from, and_parts, eq-eqb, eqb-true}
use Rattle.std.proofs.lemmas.Bool.Decides.{nat_tests}
use Rattle.std.proofs.lemmas.List.{get_or_push}
use Rattle.std.proofs.lemmas.List.Elements.{All-contains, All-from_recursion, All-head, All-tail, All-weaker, Contains-append_cases, Contains-append_left, Contains-append_right, Contains-get_or, Contains-push, Contains-push_cases}
use Rattle.hex.specs.Hex.{IsBytes, decode_of, encode_lower, is_hex_digit}
use Rattle.hex.proofs.HexLemmas.{decode_of-encode_lower, decode_of-ok, decode_of-same}
use Rattle.hex.specs.declared.error.FromHexError.{FromHexError}
use Rattle.ospf_base.proofs.KeyOrder.{Precedes-irrefl, Precedes-trans}
use Rattle.ospf_base.specs.Bytes.{number_at}
use Rattle.ospf_base.specs.Constants.{max_age}
use Rattle.ospf_base.specs.Keys.{Precedes}
use Rattle.ospf_base.specs.Rising.{IsRisingBy}
use Rattle.ospf_base.specs.Text.{IsBlank}
use Rattle.ospf_base.specs.declared.ids.LsaKey.{LsaKey}
use Rattle.ospf_lsa.specs.Header.{header_of}
use Rattle.ospf_lsa.specs.Listing.{HasKey, IsInserted, IsListable, IsListing}
use Rattle.ospf_lsa.specs.Lsa.{IsFreeOf, IsLsa, key_of, with_age}
use Rattle.ospf_lsa.specs.declared.fault.LsaFault.TheVariants as fault
use Rattle.ospf_table.proofs.EntryLemmas.{IsYoungLine, line_listed}
use Rattle.ospf_table.specs.Line.{HasLineFault, IsLeftOut, IsTaken, LeavesOut, no_line, no_more, Reads, at_end, at_line, Refuses, here, later, do_not_age, first_text, text_of, with_plain_age}
use Rattle.ospf_table.specs.declared.line.LineFault.TheVariants.{NotHex, Lsa}
use Rattle.ospf_table.specs.declared.table.EntryFault.{EntryFault}
use Rattle.ospf_table.specs.declared.table.EntryFault.TheVariants.{Line, Listing}
use Rattle.ospf_change.specs.Edit.Lines.{hex_lines}
use Rattle.ospf_change.specs.Edit.ReadBack.{ListingsAreReadAgain}

-- ---- members of lists

pub first_in : {X : Type 0} (x : X) (xs : List X) → Contains (x ∷ xs) x
first_in x xs = Contains-append_left (x ∷ []) xs x (Contains-push [] x)

pub later_in : {X : Type 0} (x y : X) (xs : List X) → Contains xs y → Contains (x ∷ xs) y
later_in x y xs is = Contains-append_right (x ∷ []) xs y is

pub nothing_in : {X : Type 0} (x : X) → Contains [] x → ⊥
nothing_in x is = let within : is.0 < 0 = is.1 in absurd (omega (arith, within))

pub cons_cases : {X : Type 0} (x y : X) (xs : List X) → Contains (x ∷ xs) y → (y ≡ x) ⊎ Contains xs y
cons_cases x y xs is = elim (Contains-append_cases (x ∷ []) xs y is) [
  | inl one ↦ elim (Contains-push_cases [] x y one) [
    | inl none ↦ absurd (nothing_in y none)
    | inr same ↦ inl (sym same)
  ]
  | inr rest ↦ inr rest
]

-- ---- one LSA put in

inserted_cases : (lsa : List ℕ) (old new : List (List ℕ)) (x : List ℕ) → IsInserted lsa old new → Contains new x → (x ≡ lsa) ⊎ Contains old x
inserted_cases lsa old new x put is =
    let there : Contains (put.before ++ lsa ∷ put.after) x = subst (λ (l : List (List ℕ)). Contains l x) put.new_is is in
    let back : Contains (put.before ++ put.after) x → Contains old x = λ h. subst (λ (l : List (List ℕ)). Contains l x) (sym put.old_is) h in
    elim (Contains-append_cases put.before (lsa ∷ put.after) x there) [
      | inl front ↦ inr (back (Contains-append_left put.before put.after x front))
      | inr rest ↦ elim (cons_cases lsa x put.after rest) [
        | inl same ↦ inl same
        | inr behind ↦ inr (back (Contains-append_right put.before put.after x behind))
      ]
    ]

inserted_itself : (lsa : List ℕ) (old new : List (List ℕ)) → IsInserted lsa old new → Contains new lsa
inserted_itself lsa old new put =
    subst (λ (l : List (List ℕ)). Contains l lsa) (sym put.new_is) (Contains-append_right put.before (lsa ∷ put.after) lsa (first_in lsa put.after))

inserted_old : (lsa : List ℕ) (old new : List (List ℕ)) (x : List ℕ) → IsInserted lsa old new → Contains old x → Contains new x
inserted_old lsa old new x put is =
    let there : Contains (put.before ++ put.after) x = subst (λ (l : List (List ℕ)). Contains l x) put.old_is is in
    subst (λ (l : List (List ℕ)). Contains l x) (sym put.new_is) (elim (Contains-append_cases put.before put.after x there) [
      | inl front ↦ Contains-append_left put.before (lsa ∷ put.after) x front
      | inr rest ↦ Contains-append_right put.before (lsa ∷ put.after) x (later_in lsa x put.after rest)
    ])

-- ---- lists whose keys come before those that are still to be read

abbrev pub KeyRises : List ℕ → List ℕ → Type 0
KeyRises a b = Precedes (key_of a) (key_of b)

-- each LSA of a list comes before each of another one
abbrev pub ComeBefore : List (List ℕ) → List (List ℕ) → Type 0
ComeBefore done todo = (x y : List ℕ) → Contains done x → Contains todo y → KeyRises x y

pub none_before : (todo : List (List ℕ)) → ComeBefore [] todo
none_before todo x y is has = absurd (nothing_in x is)

pub not_there : (done : List (List ℕ)) (lsa : List ℕ) (more : List (List ℕ)) → ComeBefore done (lsa ∷ more) → HasKey done (key_of lsa) → ⊥
not_there done lsa more before has =
    let less : Precedes (key_of has.1) (key_of lsa) = before has.1 lsa (has.0, has.2, has.3) (first_in lsa more) in
    Precedes-irrefl (key_of lsa) (subst (λ (k : LsaKey). Precedes k (key_of lsa)) has.4 less)

pub next_before : (done next : List (List ℕ)) (lsa : List ℕ) (more : List (List ℕ)) → ComeBefore done (lsa ∷ more) → AllByRecursion (KeyRises lsa) more
    → IsInserted lsa done next → ComeBefore next more
next_before done next lsa more before rise put x y is has = elim (inserted_cases lsa done next x put is) [
  | inl same ↦ subst (λ (z : List ℕ). KeyRises z y) (sym same) (All-contains (KeyRises lsa) more y (All-from_recursion (KeyRises lsa) more rise) has)
  | inr old ↦ before x y old (later_in lsa y more has)
]

-- ---- two rising lists of the same members

abbrev HaveSameMembers : List (List ℕ) → List (List ℕ) → Type 0
HaveSameMembers xs ys = ((z : List ℕ) → Contains xs z → Contains ys z) × ((z : List ℕ) → Contains ys z → Contains xs z)

rises_to : (x y : List ℕ) (xs : List (List ℕ)) → AllByRecursion (KeyRises x) xs → Contains xs y → KeyRises x y
rises_to x y xs rise has = All-contains (KeyRises x) xs y (All-from_recursion (KeyRises x) xs rise) has

not_itself : (x : List ℕ) (xs : List (List ℕ)) → AllByRecursion (KeyRises x) xs → Contains xs x → ⊥
not_itself x xs rise has = Precedes-irrefl (key_of x) (rises_to x x xs rise has)

same_heads : (x y : List ℕ) (xs ys : List (List ℕ)) → AllByRecursion (KeyRises x) xs → AllByRecursion (KeyRises y) ys → HaveSameMembers (x ∷ xs) (y ∷ ys) → x ≡ y
same_heads x y xs ys rise rise' same = elim (cons_cases y x ys (same.0 x (first_in x xs))) [
  | inl one ↦ one
  | inr behind ↦ elim (cons_cases x y xs (same.1 y (first_in y ys))) [
    | inl two ↦ sym two
    | inr there ↦ absurd (Precedes-irrefl (key_of x) (Precedes-trans (key_of x) (key_of y) (key_of x) (rises_to x y xs rise there) (rises_to y x ys rise' behind)))
  ]
]

tail_members : (x : List ℕ) (xs ys : List (List ℕ)) → AllByRecursion (KeyRises x) xs → ((z : List ℕ) → Contains (x ∷ xs) z → Contains (x ∷ ys) z)
    → (z : List ℕ) → Contains xs z → Contains ys z
tail_members x xs ys rise to z has = elim (cons_cases x z ys (to z (later_in x z xs has))) [
  | inl same ↦ absurd (not_itself x xs rise (subst (Contains xs) same has))
  | inr rest ↦ rest
]

pub same_lists : (xs ys : List (List ℕ)) → IsRisingBy KeyRises xs → IsRisingBy KeyRises ys → HaveSameMembers xs ys → xs ≡ ys
same_lists [] [] rise rise' same = refl
same_lists [] (y ∷ ys) rise rise' same = absurd (nothing_in y (same.1 y (first_in y ys)))
same_lists (x ∷ xs) [] rise rise' same = absurd (nothing_in x (same.0 x (first_in x xs)))
same_lists (x ∷ xs) (y ∷ ys) rise rise' same =
    let head : x ≡ y = same_heads x y xs ys rise.0 rise'.0 same in
    let one : (z : List ℕ) → Contains (x ∷ xs) z → Contains (x ∷ ys) z = λ z h. subst (λ (w : List ℕ). Contains (w ∷ ys) z) (sym head) (same.0 z h) in
    let two : (z : List ℕ) → Contains (x ∷ ys) z → Contains (x ∷ xs) z = λ z h. same.1 z (subst (λ (w : List ℕ). Contains (w ∷ ys) z) head h) in
    let rise_y : AllByRecursion (KeyRises x) ys = subst (λ (w : List ℕ). AllByRecursion (KeyRises w) ys) (sym head) rise'.0 in
    let rest : xs ≡ ys = same_lists xs ys rise.1 rise'.1 (tail_members x xs ys rise.0 one, tail_members x ys xs rise_y two) in
    (λ i. head i ∷ rest i)

-- ---- the line of an LSA

holds_of_digit : (c byte : ℕ) → is_hex_digit byte ≡ false → is_hex_digit c ≡ true → c ≢ byte
holds_of_digit c byte not is same =
    let both : false ≡ true = sym not ∙ subst (λ (x : ℕ). is_hex_digit x ≡ true) same is in
    cc both

abbrev AreDigits : List ℕ → Type 0
AreDigits = All (λ c. is_hex_digit c ≡ true)

digits : (lsa : List ℕ) → IsBytes lsa → AreDigits (encode_lower lsa)
digits lsa bytes = (decode_of-ok (encode_lower lsa) lsa (decode_of-encode_lower lsa bytes)).1

without : (byte : ℕ) → is_hex_digit byte ≡ false → (text : List ℕ) → AreDigits text → All (λ c. c ≢ byte) text
without byte not text are = All-weaker (λ c. is_hex_digit c ≡ true) (λ c. c ≢ byte) (λ c is. holds_of_digit c byte not is) text are

-- no text of digits is blank
blank_has_none : (text : List ℕ) → AreDigits text → 0 < length text → IsBlank text → ⊥
blank_has_none [] are some blank = absurd (omega (arith, some))
blank_has_none (c ∷ cs) are some blank =
    holds_of_digit c 32 refl (All-head (λ x. is_hex_digit x ≡ true) c cs are) (All-head (λ x. x ≡ 32) c cs blank)

-- the line feed is the end of a line
not_empty : (text : List ℕ) → 0 < length text → nat_lt 0 (length text) ≡ true
not_empty text some = grind (arith, nat_tests)

length_of : (text : List ℕ) → length (text ++ 10 ∷ []) ≡ length text + 1
length_of text = length-append text (10 ∷ [])

last_place : (text : List ℕ) → length text ≡ length (text ++ 10 ∷ []) - 1
last_place text = let long = length_of text in omega (arith, long)

ends : (text : List ℕ) → ends_with_byte 10 (text ++ 10 ∷ []) ≡ true
ends text =
    let line = text ++ 10 ∷ [] in
    let long = length_of text in
    and_from _ _ (not_empty line (omega (arith, long)))
    (eq-eqb (get_or line (length line - 1) 0) 10 (get_or_push text 10 0 (length line - 1) (last_place text)))

without_feed : (text : List ℕ) → strip_last 10 (text ++ 10 ∷ []) ≡ text
without_feed text =
    let line = text ++ 10 ∷ [] in
    ap (λ b. cond b (take (length line - 1) line) line) (ends text) ∙ ap (λ n. take n line) (sym (last_place text)) ∙ take-append_seam text (10 ∷ [])

last_is_digit : (text : List ℕ) → AreDigits text → ends_with_byte 13 text ≡ true → ⊥
last_is_digit text are is =
    let parts = and_parts (nat_lt 0 (length text)) (get_or text (length text - 1) 0 == 13) is in
    let test : nat_lt 0 (length text) ≡ true = parts.0 in
    let some : 0 < length text = grind (arith, nat_tests) in
    let there = Contains-get_or text (length text - 1) 0 (omega (arith, some)) in
    let digit = All-contains (λ c. is_hex_digit c ≡ true) text (get_or text (length text - 1) 0) are there in
    holds_of_digit (get_or text (length text - 1) 0) 13 refl digit (eqb-true (get_or text (length text - 1) 0) 13 parts.1)

without_return : (text : List ℕ) → AreDigits text → strip_last 13 text ≡ text
without_return text are = by_end (ends_with_byte 13 text) refl
  where
    by_end : (b : Bool) → ends_with_byte 13 text ≡ b → strip_last 13 text ≡ text
    by_end true is = absurd (last_is_digit text are is)
    by_end false is = ap (λ b. cond b (take (length text - 1) text) text) is

text_of_line : (text : List ℕ) → AreDigits text → text_of (text ++ 10 ∷ []) ≡ text
text_of_line text are =
    let line = text ++ 10 ∷ [] in
    ap (λ b. cond b (strip_last 13 (strip_last 10 line)) line) (ends text) ∙ ap (strip_last 13) (without_feed text) ∙ without_return text are

-- an input that begins with the line of an LSA
record IsLineOf (lsa input rest : List ℕ) : Type 0 where
  pub some : input ≢ []
  pub first : first_text input ≡ encode_lower lsa
  pub left : drop_through 10 input ≡ rest

line_of : (lsa rest : List ℕ) → IsBytes lsa → IsLineOf lsa (encode_lower lsa ++ 10 ∷ rest) rest
line_of lsa rest bytes =
    let text = encode_lower lsa in
    let are : AreDigits text = digits lsa bytes in
    let no_feed = without 10 refl text are in
    let hit = eq-eqb 10 10 refl in record {
      some = λ none. (
          let long : length (text ++ 10 ∷ rest) ≡ length text + suc (length rest) = length-append text (10 ∷ rest) in
          let zero_long : length (text ++ 10 ∷ rest) ≡ 0 = ap length none in
          absurd (omega (arith, long, zero_long)));
      first = ap text_of (take_through-append 10 text (10 ∷ rest) no_feed ∙ ap (λ b. text ++ cond b (10 ∷ []) (10 ∷ take_through 10 rest)) hit) ∙ text_of_line text are;
      left = drop_through-append 10 text (10 ∷ rest) no_feed ∙ ap (λ b. cond b rest (drop_through 10 rest)) hit;
    }

hex_cons : (lsa : List ℕ) (more : List (List ℕ)) → hex_lines (lsa ∷ more) ≡ encode_lower lsa ++ 10 ∷ hex_lines more
hex_cons lsa more = append_assoc (encode_lower lsa) (10 ∷ []) (hex_lines more)

first_line : (lsa : List ℕ) (more : List (List ℕ)) → IsBytes lsa → IsLineOf lsa (hex_lines (lsa ∷ more)) (hex_lines more)
first_line lsa more bytes = subst (λ (input : List ℕ). IsLineOf lsa input (hex_lines more)) (sym (hex_cons lsa more)) (line_of lsa (hex_lines more) bytes)

-- ---- the LSA that a line spells

plain : (lsa : List ℕ) → (header_of lsa).age < max_age → with_plain_age lsa ≡ lsa
unfolding with_plain_age
plain lsa young = by_test (nat_le do_not_age (number_at 0 2 lsa)) refl
  where
    by_test : (b : Bool) → nat_le do_not_age (number_at 0 2 lsa) ≡ b
        → cond b (with_age (min (number_at 0 2 lsa - do_not_age) max_age) lsa) lsa ≡ lsa
    by_test false is = refl
    by_test true is =
        let large : do_not_age ≤ number_at 0 2 lsa = grind (arith, nat_tests) in
        absurd (omega (arith, large, young))

not_old : (lsa : List ℕ) → (header_of lsa).age < max_age → (header_of lsa).age ≢ max_age
not_old lsa young same = absurd (omega (arith, young, same))

-- an LSA that may be listed, and what is known of its line
record IsWritten (lsa : List ℕ) : Type 0 where
  pub listable : IsListable lsa
  pub bytes : IsBytes lsa

not_blank : (lsa : List ℕ) → IsWritten lsa → IsBlank (encode_lower lsa) → ⊥
not_blank lsa is blank =
    let long = (decode_of-ok (encode_lower lsa) lsa (decode_of-encode_lower lsa is.bytes)).2 in
    let some : 20 ≤ length lsa = (is.listable.0 fault.Short).0 in
    blank_has_none (encode_lower lsa) (digits lsa is.bytes) (omega (arith, long, some)) blank

young_line : (lsa : List ℕ) → IsWritten lsa → IsYoungLine (encode_lower lsa) lsa lsa
young_line lsa is = record {
  not_blank = not_blank lsa is;
  decoded = (decode_of-encode_lower lsa is.bytes, is.listable.0);
  lsa_is = sym (plain lsa is.listable.2);
  young = not_old lsa is.listable.2;
}

-- whatever the line is read as is this LSA
spelled_is : (lsa spelled : List ℕ) → IsWritten lsa → decode_of (encode_lower lsa) ≡ Ok spelled → with_plain_age spelled ≡ lsa
spelled_is lsa spelled is decoded =
    let same : spelled ≡ lsa = decode_of-same (encode_lower lsa) spelled lsa decoded (decode_of-encode_lower lsa is.bytes) in
    ap with_plain_age same ∙ plain lsa is.listable.2

line_puts : (lsa : List ℕ) (old new : List (List ℕ)) → IsWritten lsa → IsTaken (encode_lower lsa) old new → IsInserted lsa old new
line_puts lsa old new is taken = elim taken [
  | inl blank ↦ absurd (not_blank lsa is blank.0)
  | inr listed ↦
      let same : listed.1.lsa ≡ lsa = listed.1.lsa_is ∙ spelled_is lsa listed.1.spelled is listed.1.decoded in
      elim listed.1.new_is [
        | inl aged ↦ absurd (not_old lsa is.listable.2 (subst (λ (l : List ℕ). (header_of l).age ≡ max_age) same aged.0))
        | inr put ↦ subst (λ (l : List ℕ). IsInserted l old new) same put.2
      ]
]

not_left_out : (lsa : List ℕ) → IsWritten lsa → IsLeftOut (encode_lower lsa) → ⊥
not_left_out lsa is out =
    let same : with_plain_age out.spelled ≡ lsa = spelled_is lsa out.spelled is out.decoded in
    not_old lsa is.listable.2 (subst (λ (l : List ℕ). (header_of l).age ≡ max_age) same out.old)

not_err : {r : Result (List ℕ) FromHexError} {lsa : List ℕ} → r ≡ Ok lsa → IsErr r → ⊥
not_err {r} {lsa} ok err = let no : false ≡ true = subst IsErr ok err in cc

not_refused : (lsa : List ℕ) (listing : List (List ℕ)) (f : EntryFault) → IsWritten lsa → (HasKey listing (key_of lsa) → ⊥) → HasLineFault (encode_lower lsa) listing f → ⊥
not_refused lsa listing (Line NotHex) is absent h =
    let decoded = decode_of-encode_lower lsa is.bytes in
    absurd (not_err decoded h.1)
not_refused lsa listing (Line (Lsa f)) is absent h =
    let same : h.1.0 ≡ lsa = decode_of-same (encode_lower lsa) h.1.0 lsa h.1.1 (decode_of-encode_lower lsa is.bytes) in
    h.1.2.broken (subst (IsFreeOf f) (sym same) (is.listable.0 f))
not_refused lsa listing (Listing f) is absent h =
    let second = h.1.1 in
    let same : second.lsa ≡ lsa = second.lsa_is ∙ spelled_is lsa second.spelled is second.decoded in
    absent (subst (λ (l : List ℕ). HasKey listing (key_of l)) same second.listed)

-- ---- all lines

abbrev AreWritten : List (List ℕ) → Type 0
AreWritten lsas = AllByRecursion IsWritten lsas

pushed : (lsa : List ℕ) (done : List (List ℕ)) → IsInserted lsa done (done ++ lsa ∷ [])
pushed lsa done = record { before = done; after = []; old_is = sym (append-nil done); new_is = refl }

reads_all : (todo done : List (List ℕ)) → AreWritten todo → IsRisingBy KeyRises todo → ComeBefore done todo → Reads (hex_lines todo) done (done ++ todo)
reads_all [] done are rise before = subst (λ (l : List (List ℕ)). Reads [] done l) (sym (append-nil done)) at_end
reads_all (lsa ∷ more) done are rise before =
    let next = done ++ lsa ∷ [] in
    let line = first_line lsa more are.0.bytes in
    let put = pushed lsa done in
    let taken : IsTaken (encode_lower lsa) done next =
    line_listed (encode_lower lsa) lsa lsa done next (young_line lsa are.0) (not_there done lsa more before) put in
    let rest : Reads (hex_lines more) next (next ++ more) = reads_all more next are.1 rise.1 (next_before done next lsa more before rise.0 put) in
    let behind : Reads (hex_lines more) next (done ++ lsa ∷ more) = subst (λ (l : List (List ℕ)). Reads (hex_lines more) next l) (append_assoc done (lsa ∷ []) more) rest in
    at_line line.some (subst (λ (t : List ℕ). IsTaken t done next) (sym line.first) taken) (subst (λ (t : List ℕ). Reads t next (done ++ lsa ∷ more)) (sym line.left) behind)

-- what a reading did first
data ReadsSo (input : List ℕ) (old new : List (List ℕ)) : Type 0 where
  nothing : input ≡ [] → new ≡ old → ReadsSo input old new
  line : (next : List (List ℕ)) → input ≢ [] → IsTaken (first_text input) old next → Reads (drop_through 10 input) next new
      → ReadsSo input old new

reads_so : {input : List ℕ} {old new : List (List ℕ)} → Reads input old new → ReadsSo input old new
reads_so at_end = nothing refl refl
reads_so (at_line some taken rest) = line _ some taken rest

-- the members of what is read
record HasMembers (old todo new : List (List ℕ)) : Type 0 where
  pub from : (z : List ℕ) → Contains new z → Contains old z ⊎ Contains todo z
  pub old_too : (z : List ℕ) → Contains old z → Contains new z
  pub todo_too : (z : List ℕ) → Contains todo z → Contains new z

more_members : (lsa : List ℕ) (more old next new : List (List ℕ)) → IsInserted lsa old next → HasMembers next more new → HasMembers old (lsa ∷ more) new
more_members lsa more old next new put has = record {
  from = λ z is. elim (has.from z is) [
    | inl in_next ↦ elim (inserted_cases lsa old next z put in_next) [
      | inl same ↦ inr (subst (Contains (lsa ∷ more)) (sym same) (first_in lsa more))
      | inr in_old ↦ inl in_old
    ]
    | inr behind ↦ inr (later_in lsa z more behind)
  ];
  old_too = λ z is. has.old_too z (inserted_old lsa old next z put is);
  todo_too = λ z is. elim (cons_cases lsa z more is) [
    | inl same ↦ has.old_too z (subst (Contains next) (sym same) (inserted_itself lsa old next put))
    | inr behind ↦ has.todo_too z behind
  ];
}

members_read : (todo old new : List (List ℕ)) → AreWritten todo → Reads (hex_lines todo) old new → HasMembers old todo new
members_read [] old new are reads = elim (reads_so reads) [
  | nothing empty same ↦ record {
    from = λ z is. inl (subst (λ (l : List (List ℕ)). Contains l z) same is);
    old_too = λ z is. subst (λ (l : List (List ℕ)). Contains l z) (sym same) is;
    todo_too = λ z is. absurd (nothing_in z is);
  }
  | line next some taken rest ↦ absurd (some refl)
]
members_read (lsa ∷ more) old new are reads =
    let at = first_line lsa more are.0.bytes in
    elim (reads_so reads) [
      | nothing empty same ↦ absurd (at.some empty)
      | line next some taken rest ↦
          let put = line_puts lsa old next are.0 (subst (λ (t : List ℕ). IsTaken t old next) at.first taken) in
          more_members lsa more old next new put (members_read more next new are.1 (subst (λ (t : List ℕ). Reads t next new) at.left rest))
    ]

-- what a refusal found first
data RefusesSo (input : List ℕ) (old : List (List ℕ)) (fault : EntryFault) : Type 0 where
  first_one : input ≢ [] → HasLineFault (first_text input) old fault → RefusesSo input old fault
  later_one : (next : List (List ℕ)) (number : ℕ) → input ≢ [] → IsTaken (first_text input) old next
      → Refuses (drop_through 10 input) next number fault → RefusesSo input old fault

refuses_so : {input : List ℕ} {old : List (List ℕ)} {number : ℕ} {fault : EntryFault} → Refuses input old number fault → RefusesSo input old fault
refuses_so (here some has) = first_one some has
refuses_so (later some taken more) = later_one _ _ some taken more

refuses_none : (todo old : List (List ℕ)) (number : ℕ) (fault : EntryFault) → AreWritten todo → IsRisingBy KeyRises todo → ComeBefore old todo
    → Refuses (hex_lines todo) old number fault → ⊥
refuses_none [] old number fault are rise before refuses = elim (refuses_so refuses) [
  | first_one some has ↦ absurd (some refl)
  | later_one next number some taken more ↦ absurd (some refl)
]
refuses_none (lsa ∷ more) old number fault are rise before refuses =
    let at = first_line lsa more are.0.bytes in
    elim (refuses_so refuses) [
      | first_one some has ↦
          not_refused lsa old fault are.0 (not_there old lsa more before) (subst (λ (t : List ℕ). HasLineFault t old fault) at.first has)
      | later_one next later_number some taken rest ↦
          let put = line_puts lsa old next are.0 (subst (λ (t : List ℕ). IsTaken t old next) at.first taken) in
          refuses_none more next later_number fault are.1 rise.1 (next_before old next lsa more before rise.0 put)
          (subst (λ (t : List ℕ). Refuses t next later_number fault) at.left rest)
    ]

leaves_none : (todo : List (List ℕ)) → AreWritten todo → LeavesOut (hex_lines todo) 0
leaves_none [] are = no_line
leaves_none (lsa ∷ more) are =
    let at = first_line lsa more are.0.bytes in
    no_more at.some (λ out. not_left_out lsa are.0 (subst IsLeftOut at.first out))
    (subst (λ (t : List ℕ). LeavesOut t 0) (sym at.left) (leaves_none more are.1))

-- ---- a listing

all_written : (lsas : List (List ℕ)) → AllByRecursion IsListable lsas → All IsBytes lsas → AreWritten lsas
all_written [] listed bytes = tt
all_written (lsa ∷ more) listed bytes = (
  record { listable = listed.0; bytes = All-head IsBytes lsa more bytes },
  all_written more listed.1 (All-tail IsBytes lsa more bytes),
)

members_of : (lsas new : List (List ℕ)) → HasMembers [] lsas new → HaveSameMembers new lsas
members_of lsas new has = (
  λ z is. elim (has.from z is) [
    | inl none ↦ absurd (nothing_in z none)
    | inr there ↦ there
  ],
  has.todo_too,
)

pub read_again : ListingsAreReadAgain
read_again lsas is bytes =
    let are = all_written lsas is.listed bytes in record {
      is_read = reads_all lsas [] are is.rising (none_before lsas);
      only = λ listing other reads. same_lists listing lsas other.rising is.rising (members_of lsas listing (members_read lsas [] listing are reads));
      none_refused = λ number fault refuses. refuses_none lsas [] number fault are is.rising (none_before lsas) refuses;
      none_left_out = leaves_none lsas are;
    }
